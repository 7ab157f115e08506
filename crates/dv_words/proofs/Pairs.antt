-- Pairs of digits and the spaces between them.
use Rattle.std.proofs.Common.{◌≡◌, ◌≢◌, ◌≤◌, ◌-◌, get_or, take, drop, ℕ, zero, suc, ◌*◌, List, [], ◌∷◌, ◌++◌, length, filter, replicate, slice_index, Bool, true, not, refl, sym, ap, ◌∙◌, arith, codes, Ok}
use Rattle.std.proofs.lemmas.List.Elements.{All-cons, All-head, All-tail, All-nil}
use Rattle.std.proofs.lemmas.Bool.{ne_eqb}
use Rattle.std.proofs.lemmas.List.{take_all}
use Rattle.std.specs.List.{AllPass}
use Rattle.hex.specs.Hex.{decode_of, is_hex_digit}
use Rattle.hex.proofs.HexLemmas.{decode_of-digits, decode_of-ok, decode_of-same}
use Rattle.dv_words.specs.Line.{HexPair, written, hex_digits, IsHexOf}
use Rattle.dv_words.specs.Inner.Reading.{IsPairs, BeginsWithPair, BeginsWithSpaces, is_space}

abbrev digit_holds : ℕ → Type 0
digit_holds c = is_hex_digit c ≡ true

abbrev pub no_space : ℕ → Bool
no_space b = not (is_space b)

digit_is_no_space : (c : ℕ) → is_hex_digit c ≡ true → c ≢ 32
digit_is_no_space c h e = let wrong = ap is_hex_digit (sym e) ∙ h in cc

length-digits : (ps : List HexPair) → length (hex_digits ps) ≡ 2 * length ps
length-digits [] = refl
length-digits (p ∷ ps) = let rest = length-digits ps in omega (arith, rest)

-- ---- the bytes of pairs

pub pairs_from_hex : (bytes text : List ℕ) → IsHexOf bytes text → IsPairs text
pairs_from_hex bytes text h = record {
  high = h.high;
  low = h.low;
  others = h.others;
  whole = h.whole;
  all = (decode_of-ok (h.high ∷ h.low ∷ hex_digits h.others) bytes h.value).1;
}

pub hex_from_pairs : (text : List ℕ) → IsPairs text → (bytes : List ℕ) × IsHexOf bytes text
hex_from_pairs text h =
    let long = length-digits h.others in
    let found = decode_of-digits (h.high ∷ h.low ∷ hex_digits h.others) (omega (arith, long)) h.all in
    (found.0, record { high = h.high; low = h.low; others = h.others; whole = h.whole; value = found.1 })

-- ---- the digits without the spaces

filter-spaces : (n : ℕ) (rest : List ℕ) → filter no_space (replicate n 32 ++ rest) ≡ filter no_space rest
filter-spaces zero rest = refl
filter-spaces (suc n) rest = filter-spaces n rest

filter-digit : (c : ℕ) (rest : List ℕ) → is_hex_digit c ≡ true → filter no_space (c ∷ rest) ≡ c ∷ filter no_space rest
filter-digit c rest h = rw (ne_eqb c 32 (digit_is_no_space c h)) refl

filter-written : (ps : List HexPair) → AllPass is_hex_digit (hex_digits ps) → filter no_space (written ps) ≡ hex_digits ps
filter-written [] h = refl
filter-written (p ∷ ps) h =
    let rest = All-tail digit_holds p.high (p.low ∷ hex_digits ps) h in
    let first = All-head digit_holds p.high (p.low ∷ hex_digits ps) h in
    let second = All-head digit_holds p.low (hex_digits ps) rest in
    filter-spaces p.spaces (p.high ∷ p.low ∷ written ps)
    ∙ filter-digit p.high (p.low ∷ written ps) first
    ∙ ap (λ xs. p.high ∷ xs) (filter-digit p.low (written ps) second
    ∙ ap (λ xs. p.low ∷ xs) (filter-written ps (All-tail digit_holds p.low (hex_digits ps) rest)))

-- the text without its spaces is the digits of its pairs
pub filter-pairs : (text : List ℕ) (h : IsPairs text) → filter no_space text ≡ h.high ∷ h.low ∷ hex_digits h.others
filter-pairs text h =
    let p : HexPair = record { spaces = 0; high = h.high; low = h.low } in
    ap (filter no_space) h.whole ∙ filter-written (p ∷ h.others) h.all

-- ---- one pair after the other

-- only one text can follow the spaces
strip : (m n : ℕ) (xs ys : List ℕ) → slice_index xs 0 ≢ 32 → slice_index ys 0 ≢ 32 → replicate m 32 ++ xs ≡ replicate n 32 ++ ys → xs ≡ ys
strip zero zero xs ys hx hy e = e
strip zero (suc n) xs ys hx hy e = absurd (hx (ap (λ zs. slice_index zs 0) e))
strip (suc m) zero xs ys hx hy e = absurd (hy (ap (λ zs. slice_index zs 0) (sym e)))
strip (suc m) (suc n) xs ys hx hy e = strip m n xs ys hx hy (cc)

pub no_pair : (text : List ℕ) → ((behind : List ℕ) → BeginsWithPair text behind → ⊥) → IsPairs text → ⊥
no_pair text none h =
    let second = All-tail digit_holds h.high (h.low ∷ hex_digits h.others) h.all in
    none (written h.others) (record {
      high = h.high;
      low = h.low;
      whole = h.whole;
      first = All-head digit_holds h.high (h.low ∷ hex_digits h.others) h.all;
      second = All-head digit_holds h.low (hex_digits h.others) second;
    })

empty_at_zero : (xs : List ℕ) → length xs ≡ 0 → xs ≡ []
empty_at_zero [] e = refl
empty_at_zero (x ∷ xs) e = absurd (omega arith)

pub last_pair : (text behind : List ℕ) → BeginsWithPair text behind → length behind ≡ 0 → IsPairs text
last_pair text behind h e = record {
  high = h.high;
  low = h.low;
  others = [];
  whole = h.whole ∙ ap (λ xs. h.high ∷ h.low ∷ xs) (empty_at_zero behind e);
  all = All-cons digit_holds h.high (h.low ∷ []) h.first (All-cons digit_holds h.low [] h.second (All-nil digit_holds));
}

pub more_pairs : (text behind next : List ℕ) → BeginsWithPair text behind → BeginsWithSpaces behind next → IsPairs next → IsPairs text
more_pairs text behind next h gap rest =
    let p : HexPair = record { spaces = gap.spaces; high = rest.high; low = rest.low } in
    record {
      high = h.high;
      low = h.low;
      others = p ∷ rest.others;
      whole = h.whole ∙ ap (λ xs. h.high ∷ h.low ∷ xs) (gap.whole ∙ ap (λ xs. replicate gap.spaces 32 ++ xs) rest.whole);
      all = All-cons digit_holds h.high (h.low ∷ hex_digits (p ∷ rest.others)) h.first (All-cons digit_holds h.low (hex_digits (p ∷ rest.others)) h.second rest.all);
    }

-- if anything follows the first pair, then pairs follow it and the spaces after it
behind_first : (behind next : List ℕ) (others : List HexPair) → behind ≡ written others → AllPass is_hex_digit (hex_digits others)
    → length behind ≢ 0 → BeginsWithSpaces behind next → IsPairs next
behind_first behind next [] e all more gap = absurd (more (ap length e))
behind_first behind next (p ∷ ps) e all more gap = record {
  high = p.high;
  low = p.low;
  others = ps;
  whole = strip gap.spaces p.spaces next (p.high ∷ p.low ∷ written ps) gap.all
      (digit_is_no_space p.high (All-head digit_holds p.high (p.low ∷ hex_digits ps) all)) (sym gap.whole ∙ e);
  all = all;
}

pub fewer_pairs : (text behind next : List ℕ) → BeginsWithPair text behind → length behind ≢ 0 → BeginsWithSpaces behind next → IsPairs text → IsPairs next
fewer_pairs text behind next h more gap pairs =
    let same : h.high ∷ h.low ∷ behind ≡ pairs.high ∷ pairs.low ∷ written pairs.others = sym h.whole ∙ pairs.whole in
    let tail : behind ≡ written pairs.others = cc in
    let second = All-tail digit_holds pairs.high (pairs.low ∷ hex_digits pairs.others) pairs.all in
    behind_first behind next pairs.others tail (All-tail digit_holds pairs.low (hex_digits pairs.others) second) more gap

-- ---- the same bytes

-- pairs decode as their text does without the spaces
pub decode-filter : (bytes text : List ℕ) → IsHexOf bytes text → decode_of (filter no_space text) ≡ Ok bytes
unfolding pairs_from_hex
decode-filter bytes text h = ap decode_of (filter-pairs text (pairs_from_hex bytes text h)) ∙ h.value

pub hex_once : (a b text : List ℕ) → IsHexOf a text → IsHexOf b text → a ≡ b
hex_once a b text ha hb = decode_of-same (filter no_space text) a b (decode-filter a text ha) (decode-filter b text hb)

-- what the text without the spaces decodes to is the bytes of the pairs
pub hex_from_filter : (bytes text : List ℕ) → IsPairs text → decode_of (filter no_space text) ≡ Ok bytes → IsHexOf bytes text
hex_from_filter bytes text h e = record {
  high = h.high;
  low = h.low;
  others = h.others;
  whole = h.whole;
  value = ap decode_of (sym (filter-pairs text h)) ∙ e;
}

-- `end` is no pairs: 110, the second letter, is no digit
pub end_is_no_hex : (bytes : List ℕ) → IsHexOf bytes (codes "end") → ⊥
end_is_no_hex bytes h =
    let pairs = pairs_from_hex bytes (codes "end") h in
    let second : 110 ≡ pairs.low = cc (pairs.whole) in
    let digit = All-head digit_holds pairs.low (hex_digits pairs.others) (All-tail digit_holds pairs.high (pairs.low ∷ hex_digits pairs.others) pairs.all) in
    let wrong = ap is_hex_digit second ∙ digit in cc

-- ---- spaces

replicate-more : (n : ℕ) (rest : List ℕ) → replicate n 32 ++ (32 ∷ rest) ≡ replicate (suc n) 32 ++ rest
replicate-more zero rest = refl
replicate-more (suc n) rest = ap (λ xs. 32 ∷ xs) (replicate-more n rest)

first_and_rest : (rest : List ℕ) → 1 ≤ length rest → get_or rest 0 0 ≡ 32 → rest ≡ 32 ∷ take (length rest - 1) (drop 1 rest)
first_and_rest [] some e = absurd (omega arith)
first_and_rest (x ∷ xs) some e = ap (λ (b : ℕ). b ∷ xs) e ∙ ap (λ ys. 32 ∷ ys) (sym (take_all (suc (length xs) - 1) xs (omega arith)))

pub one_more_space : (text rest : List ℕ) → (n : ℕ) × (text ≡ replicate n 32 ++ rest) → 1 ≤ length rest → get_or rest 0 0 ≡ 32
    → (n : ℕ) × (text ≡ replicate n 32 ++ take (length rest - 1) (drop 1 rest))
one_more_space text rest h some e =
    let behind = take (length rest - 1) (drop 1 rest) in
    (suc h.0, h.1 ∙ ap (λ xs. replicate h.0 32 ++ xs) (first_and_rest rest some e) ∙ replicate-more h.0 behind)
