-- How a line is read from the left.
use Rattle.std.specs.Prelude.{◌≡◌, ◌≢◌, ◌==◌, ℕ, ◌<◌, Bool, true, List, ◌∷◌, ◌++◌, length, replicate, slice_index, Result, Ok, Err}
use Rattle.std.specs.List.{AllPass}
use Rattle.hex.specs.Hex.{is_hex_digit}
use Rattle.dv_words.specs.Line.{IsHexOf, HexPair, written, hex_digits}
use Rattle.dv_words.specs.declared.said.LineFault.{LineFault}
use Rattle.dv_words.specs.declared.said.LineFault.TheVariants.{BadLine, NoMemory}

abbrev pub is_space : ℕ → Bool
is_space b = b == 32

-- a number's text is not empty, and has neither a sign (`+` is 43) nor a leading zero (48)
pub record IsPlain (text : List ℕ) : Type 0 where
  pub some : 0 < length text
  pub no_sign : slice_index text 0 ≢ 43
  pub no_zero : slice_index text 0 ≡ 48 → length text ≡ 1

-- the text is one or more pairs of digits, without spaces before the first
pub record IsPairs (text : List ℕ) : Type 0 where
  pub high : ℕ
  pub low : ℕ
  pub others : List HexPair
  pub whole : text ≡ high ∷ low ∷ written others
  pub all : AllPass is_hex_digit (high ∷ low ∷ hex_digits others)

-- the text begins with a pair of digits, and `behind` follows it
pub record BeginsWithPair (text behind : List ℕ) : Type 0 where
  pub high : ℕ
  pub low : ℕ
  pub whole : text ≡ high ∷ low ∷ behind
  pub first : is_hex_digit high ≡ true
  pub second : is_hex_digit low ≡ true

-- the text begins with spaces, and `behind` follows all of them
pub record BeginsWithSpaces (text behind : List ℕ) : Type 0 where
  pub spaces : ℕ
  pub whole : text ≡ replicate spaces 32 ++ behind
  pub all : slice_index behind 0 ≢ 32

-- the result of reading pairs: the bytes of the text; or a fault if the text isn't pairs; or, if it is, that memory ran out
abbrev pub Decodes : List ℕ → Result (List ℕ) LineFault → Type 0
Decodes text (Ok bytes) = IsHexOf bytes text
Decodes text (Err BadLine) = (bytes : List ℕ) → IsHexOf bytes text → ⊥
Decodes text (Err NoMemory) = (bytes : List ℕ) × IsHexOf bytes text
