-- Decimals from 0 to 999, as a line begins with one.
use Rattle.std.proofs.Common.{◌≡◌, ℕ, ◌<◌, ◌^◌, inl, inr, List, [], ◌∷◌, ◌++◌, ◌+◌, ◌-◌, length, take, drop, get_or, true, false, Some, refl, sym, ap, ◌∙◌, arith, decimal, IsUtf8, nat_lt, unwrap_or}
use Rattle.std.proofs.Common.{length-append, length-drop}
use Rattle.std.proofs.lemmas.List.Quantifiers.{position-Some}
use Rattle.std.specs.Char.{digit_value}
use Rattle.std.specs.List.{position, position_or_len}
use Rattle.std.proofs.lemmas.List.{take-append-le, take-append-drop, drop_more, take_all, append_cancel_left, get_or_append_left}
use Rattle.std.proofs.lemmas.Bool.{cases_eq, eqb-true, lt-ltb, ne_eqb}
use Rattle.std.proofs.lemmas.Fmt.{decimal_digit, decimal_injective, decimal_nonempty, first_decimal, IsAscii-decimal, decimal-digits_value, digits_decimal}
use Rattle.std.proofs.lemmas.Str.{IsUtf8-from_ascii}
use Rattle.std.proofs.lemmas.Str.Parse.{IsNumeralModel, numerals_by_value, tells_digits, digit_at, digit_from_value, parse_plain}
use Rattle.std.specs.Prelude.{IfSome, Result, Ok, Err}
use Rattle.std.specs.Result.{result_ok}
use Rattle.std.specs.Str.Parse.{AllDigits, digits_value, ParsesUnsigned}
use Rattle.dv_words.specs.Line.{IsSkipped}
use Rattle.dv_words.specs.Inner.Reading.{IsPlain, is_space}

own : IsNumeralModel (AllDigits 10) (digits_value 10)
own = numerals_by_value _ tells_digits

-- ---- a decimal

-- what is below 1000 is small enough for the lemmas of std
fits : (n : ℕ) → n < 1000 → n < 2 ^ 64
fits n h = omega arith

pub IsPlain-decimal : (n : ℕ) → n < 1000 → IsPlain (decimal n)
IsPlain-decimal n h =
    let digits = digits_decimal own n (fits n h) in
    let some = decimal_nonempty n (fits n h) in
    let first = digit_at (decimal n) 0 digits some in
    record {
      some = some;
      no_sign = λ e. omega (arith, first);
      no_zero = λ e. elim (cases_eq n 0) [
        | inl none ↦ ap (λ (k : ℕ). length (decimal k)) none ∙ ap length (decimal_digit 0 (omega arith))
        | inr other ↦ let big = first_decimal n (omega arith) (fits n h) in absurd (omega arith)
      ];
    }

pub IsUtf8-decimal : (n : ℕ) → n < 1000 → IsUtf8 (decimal n)
IsUtf8-decimal n h = IsUtf8-from_ascii (decimal n) (IsAscii-decimal n (fits n h))

-- plain text that parses is the decimal of its number
pub decimal-parsed : {E : Type 0} (text : List ℕ) (r : Result ℕ E) → ParsesUnsigned 32 10 text r → IfSome (result_ok r) (λ n. IsPlain text → text ≡ decimal n)
decimal-parsed {E} text (Err e) parses = tt
decimal-parsed {E} text (Ok n) parses = λ plain.
    let read = parse_plain own {E = E} 32 text (Ok n) parses plain.no_sign in
    let small : digits_value 10 text < 2 ^ 64 = omega (arith, read.0.2) in
    sym (decimal-digits_value own text read.0.0 plain.some plain.no_zero small) ∙ ap decimal (sym read.1)

-- ---- the first space

digit_is_no_space : (c : ℕ) → digit_value c < 10 → is_space c ≡ false
digit_is_no_space c h = let range = digit_from_value c h in ne_eqb c 32 (λ e. omega (arith, range))

position_or_len-seam : (ds rest : List ℕ) → AllDigits 10 ds → position_or_len is_space (ds ++ 32 ∷ rest) ≡ length ds
position_or_len-seam [] rest h = refl
position_or_len-seam (d ∷ ds) rest h =
    let ih = position_or_len-seam ds rest h.1 in
    rw (digit_is_no_space d h.0) (omega (arith, ih))

-- in a decimal, a space and more, the first space is the one after the decimal
pub position-decimal : (n : ℕ) (rest text : List ℕ) → n < 1000 → text ≡ decimal n ++ 32 ∷ rest → position is_space text ≡ Some (length (decimal n))
position-decimal n rest text h e =
    let first = position_or_len-seam (decimal n) rest (digits_decimal own n (fits n h)) in
    let long = length-append (decimal n) (32 ∷ rest) in
    let inside : nat_lt (length (decimal n)) (length (decimal n ++ 32 ∷ rest)) ≡ true = lt-ltb _ _ (omega (arith, long)) in
    rw (e, first, inside) refl

pub take-decimal : (n space : ℕ) (rest text : List ℕ) → n < 1000 → text ≡ decimal n ++ 32 ∷ rest → position is_space text ≡ Some space → take space text ≡ decimal n
take-decimal n space rest text h e found =
    let same : space ≡ length (decimal n) = ap (λ o. unwrap_or o 0) (sym found ∙ position-decimal n rest text h e) in
    rw (same, e) (take-append-le (length (decimal n)) (decimal n) (32 ∷ rest) (omega arith) ∙ take_all (length (decimal n)) (decimal n) (omega arith))

-- only one number can come before the space, and only one text after it
pub decimal_once : (m n : ℕ) (r s text : List ℕ) → m < 1000 → n < 1000 → text ≡ decimal m ++ 32 ∷ r → text ≡ decimal n ++ 32 ∷ s → (m ≡ n) × (r ≡ s)
decimal_once m n r s text hm hn em en =
    let front = take-decimal m (length (decimal n)) r text hm em (position-decimal n s text hn en) in
    let back = take-decimal n (length (decimal n)) s text hn en (position-decimal n s text hn en) in
    let same : m ≡ n = decimal_injective m n (fits m hm) (fits n hn) (sym front ∙ back) in
    let whole : decimal n ++ 32 ∷ r ≡ decimal n ++ 32 ∷ s = ap (λ (k : ℕ). decimal k ++ 32 ∷ r) (sym same) ∙ sym em ∙ en in
    let rest = append_cancel_left (decimal n) (32 ∷ r) (32 ∷ s) whole in
    (same, cc)

-- a line with a number is neither empty nor a comment
pub not_skipped : (n : ℕ) (rest text : List ℕ) → n < 1000 → text ≡ decimal n ++ 32 ∷ rest → IsSkipped text → ⊥
not_skipped n rest text h e skipped =
    let digits = digits_decimal own n (fits n h) in
    let some = decimal_nonempty n (fits n h) in
    let first = digit_at (decimal n) 0 digits some in
    let long = length-append (decimal n) (32 ∷ rest) in
    let front = get_or_append_left (decimal n) (32 ∷ rest) 0 0 some in
    elim skipped [
      | inl empty ↦ let none = ap length (sym e ∙ empty) in omega (arith)
      | inr comment ↦ let hash = ap (λ xs. get_or xs 0 0) (sym e ∙ comment.1) in omega (arith)
    ]

-- the first space cuts a text in two
pub at_first_space : (n space : ℕ) (text : List ℕ) → position is_space text ≡ Some space → take space text ≡ decimal n
    → text ≡ decimal n ++ 32 ∷ take (length text - (space + 1)) (drop (space + 1) text)
at_first_space n space text found front =
    let at = position-Some is_space text space 0 found in
    let byte = eqb-true (get_or text space 0) 32 at.1 in
    let long = length-drop (space + 1) text in
    let rest = take_all (length text - (space + 1)) (drop (space + 1) text) (omega (arith, long)) in
    sym (take-append-drop space text) ∙ ap (λ xs. xs ++ drop space text) front
    ∙ ap (λ xs. decimal n ++ xs) (drop_more text space 0 at.0
    ∙ ap (λ (b : ℕ). b ∷ drop (space + 1) text) byte ∙ ap (λ xs. 32 ∷ xs) (sym rest))
