-- The lines of a script, as bytes: a space is 32, `#` is 35.
use Rattle.std.specs.Prelude.{◌≡◌, ℕ, ◌≤◌, ◌<◌, ◌⊎◌, List, [], ◌∷◌, ◌++◌, length, replicate, codes, decimal, Ok}
use Rattle.hex.specs.Hex.{decode_of}
use Rattle.dv_words.specs.declared.said.Line.{Line}
use Rattle.dv_words.specs.declared.said.Line.TheVariants.{Skip, Bytes, End}

-- a pair of hexadecimal digits, with the number of spaces in front of it
pub record HexPair : Type 0 where
  pub spaces : ℕ
  pub high : ℕ
  pub low : ℕ

-- the text of pairs, with their spaces
abbrev pub written : List HexPair → List ℕ
written [] = []
written (p ∷ ps) = replicate p.spaces 32 ++ (p.high ∷ p.low ∷ written ps)

-- the digits of pairs, without the spaces
abbrev pub hex_digits : List HexPair → List ℕ
hex_digits [] = []
hex_digits (p ∷ ps) = p.high ∷ p.low ∷ hex_digits ps

-- the text is one or more pairs, without spaces in front of the first, whose digits decode to the bytes
pub record IsHexOf (bytes text : List ℕ) : Type 0 where
  pub high : ℕ
  pub low : ℕ
  pub others : List HexPair
  pub whole : text ≡ high ∷ low ∷ written others
  pub value : decode_of (high ∷ low ∷ hex_digits others) ≡ Ok bytes

-- an empty line, or a comment
abbrev pub IsSkipped : List ℕ → Type 0
IsSkipped text = (text ≡ []) ⊎ ((comment : List ℕ) × (text ≡ 35 ∷ comment))

-- the forms of a line: empty or a comment; a number, a space and pairs; a number and ` end`; the number is below 1,000
abbrev pub HasForm : Line → List ℕ → Type 0
HasForm Skip text = IsSkipped text
HasForm (Bytes number bytes) text = (number < 1000) × ((pairs : List ℕ) × (text ≡ decimal number ++ 32 ∷ pairs) × IsHexOf bytes pairs)
HasForm (End number) text = (number < 1000) × (text ≡ decimal number ++ codes " end")

-- the text is this line, and has at most 131,200 bytes
pub record IsLine (line : Line) (text : List ℕ) : Type 0 where
  pub form : HasForm line text
  pub limit : length text ≤ 131200
