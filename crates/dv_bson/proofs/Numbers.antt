-- Counts and signed numbers: the bytes that are read are the encoding of the result, and an encoding is read again.
use Rattle.std.proofs.Common.{◌≡◌, ℕ, ◌^◌, ◌<◌, ◌≤◌, ℤ, Bool, true, false, cond, ltb, List, ◌++◌, length, take, drop, Option, Some, None, Ok, FitsSigned, Fits, refl, sym, ap, subst, ◌∙◌, arith}
use Rattle.std.specs.Int.{Width, w32, w64, byte_len, from_le_bytes, to_le_bytes, cast_signed, cast_unsigned}
use mir.Val.{bits}
use Rattle.std.proofs.Math.Facts.{Fits-of_lt, Fits-of_z, sfits_to_z}
use Rattle.std.proofs.lemmas.Bool.{ltb-false, le-ltb, lt-ltb}
use Rattle.std.proofs.lemmas.Int.{of_z-to_z, to_z-of_z}
use Rattle.std.proofs.lemmas.List.{take_at, drop_at, take-append-drop, length-append, length-take}
use Rattle.std.proofs.lemmas.Nat.{le_bytes_4, le_bytes_8, from_le_bytes-to_le_bytes_4, from_le_bytes-to_le_bytes_8}
use Rattle.dv_value.specs.declared.fault.BsonFault.TheVariants.{BadLength}
use Rattle.dv_value.specs.Tree.{Tree}
use Rattle.dv_value.specs.Spelling.{IsBytes}
use Rattle.dv_value.specs.Inner.ByteLaws.{IsBytes-drop, IsBytes-take}
use Rattle.dv_bson.specs.Reading.{count_at, first_bytes, signed_at}
use Rattle.dv_bson.proofs.Steps.{Takes, refused_not, ok_is}

-- numbers of this width and their bytes
pub record IsWide (w : Width) : Type 0 where
  pub len : (n : ℕ) → length (to_le_bytes w n) ≡ byte_len w
  pub back : (bytes : List ℕ) → length bytes ≡ byte_len w → IsBytes bytes → to_le_bytes w (from_le_bytes w bytes) ≡ bytes
  pub again : (n : ℕ) → n < 2 ^ bits w → from_le_bytes w (to_le_bytes w n) ≡ n
  pub below : (bytes : List ℕ) → IsBytes bytes → from_le_bytes w bytes < 2 ^ bits w

pub wide32 : IsWide w32
wide32 = record {
  len = λ n. refl;
  back = λ bytes len fits. le_bytes_4 bytes _ len fits refl;
  again = λ n lt. from_le_bytes-to_le_bytes_4 n lt;
  below = λ bytes fits. omega (arith, fits 0, fits 1, fits 2, fits 3);
}

pub wide64 : IsWide w64
wide64 = record {
  len = λ n. refl;
  back = λ bytes len fits. le_bytes_8 bytes _ len fits refl;
  again = λ n lt. from_le_bytes-to_le_bytes_8 n lt;
  below = λ bytes fits. omega (arith, fits 0, fits 1, fits 2, fits 3, fits 4, fits 5, fits 6, fits 7);
}

-- ---- counts

some_is : (b : Bool) (m n : ℕ) → 0 < n → cond b (Some m) (Some 0) ≡ Some n → m ≡ n
some_is true m n pos e = cc
some_is false m n pos e = let z : 0 ≡ n = cc in absurd (omega arith)

not_none : (b : Bool) (o : Option ℕ) (n : ℕ) → cond b None o ≡ Some n → (b ≡ false) × (o ≡ Some n)
not_none true o n e = absurd cc
not_none false o n e = (refl, e)

pub count_takes : (bytes : List ℕ) (n : ℕ) → IsBytes bytes → 0 < n → count_at bytes ≡ Some n → take 4 bytes ≡ to_le_bytes w32 n
unfolding count_at
count_takes bytes n fits pos e =
    let a = not_none (ltb (length bytes) 4) _ n e in
    let long : 4 ≤ length bytes = ltb-false _ _ a.0 in
    let same : from_le_bytes w32 (take 4 bytes) ≡ n = some_is _ _ n pos a.1 in
    sym (wide32.back (take 4 bytes) (omega (arith, length-take 4 bytes)) (IsBytes-take 4 bytes fits)) ∙ ap (to_le_bytes w32) same

count_front : (front rest : List ℕ) (n : ℕ) → length front ≡ 4 → from_le_bytes w32 front ≡ n → n < 2147483648 → count_at (front ++ rest) ≡ Some n
unfolding count_at
count_front front rest n len value lt =
    let long : ltb (length (front ++ rest)) 4 ≡ false = le-ltb _ _ (omega (arith, length-append front rest)) in
    let small : ltb n 2147483648 ≡ true = lt-ltb _ _ lt in
    rw (long, take_at front rest 4 len, value, small) refl

pub count_again : (n : ℕ) (rest : List ℕ) → n < 2147483648 → count_at (to_le_bytes w32 n ++ rest) ≡ Some n
count_again n rest lt = count_front (to_le_bytes w32 n) rest n (wide32.len n) (wide32.again n (omega arith)) lt

-- ---- a number of bytes

pub record TakesFirst (n : ℕ) (made : List ℕ → Tree) (bytes : List ℕ) (x : Tree × List ℕ) : Type 0 where
  pub front : List ℕ
  pub is : made front ≡ x.0
  pub len : length front ≡ n
  pub fits : IsBytes front
  pub takes : Takes bytes front x.1

pub first_takes : (n : ℕ) (made : List ℕ → Tree) (bytes : List ℕ) (x : Tree × List ℕ) → IsBytes bytes → first_bytes n made bytes ≡ Ok x → TakesFirst n made bytes x
first_takes n made bytes x fits e =
    let g = refused_not (ltb (length bytes) n) BadLength _ x e in
    let long : n ≤ length bytes = ltb-false _ _ g.0 in
    let taken : Takes bytes (take n bytes) (drop n bytes) = record { parts = sym (take-append-drop n bytes); rest_fits = IsBytes-drop n bytes fits } in
    subst (λ (y : Tree × List ℕ). TakesFirst n made bytes y) (ok_is (made (take n bytes), drop n bytes) x g.1)
    (record { front = take n bytes; is = refl; len = omega (arith, length-take n bytes); fits = IsBytes-take n bytes fits; takes = taken })

pub first_again : (n : ℕ) (made : List ℕ → Tree) (front rest : List ℕ) → length front ≡ n → first_bytes n made (front ++ rest) ≡ Ok (made front, rest)
first_again n made front rest len =
    let long : ltb (length (front ++ rest)) n ≡ false = le-ltb _ _ (omega (arith, length-append front rest)) in
    rw (long, take_at front rest n len, drop_at front rest n len) refl

-- ---- signed numbers

pub record TakesSigned (w : Width) (made : ℤ → Tree) (bytes : List ℕ) (x : Tree × List ℕ) : Type 0 where
  pub number : ℤ
  pub is : made number ≡ x.0
  pub fits : FitsSigned w number
  pub takes : Takes bytes (to_le_bytes w (cast_unsigned w number)) x.1

pub signed_takes : (w : Width) (wide : IsWide w) (made : ℤ → Tree) (bytes : List ℕ) (x : Tree × List ℕ) → IsBytes bytes → signed_at w made bytes ≡ Ok x → TakesSigned w made bytes x
signed_takes w wide made bytes x fits e =
    let t = first_takes (byte_len w) (λ front. made (cast_signed w (from_le_bytes w front))) bytes x fits e in
    let number = from_le_bytes w t.front in
    let below : number < 2 ^ bits w = wide.below t.front t.fits in
    let whole : t.front ≡ to_le_bytes w (cast_unsigned w (cast_signed w number)) = sym (ap (to_le_bytes w) (of_z-to_z w number below) ∙ wide.back t.front t.len t.fits) in
    record { number = cast_signed w number; is = t.is; fits = sfits_to_z (Fits-of_lt below); takes = subst (λ (text : List ℕ). Takes bytes text x.1) whole t.takes }

pub signed_again : (w : Width) (wide : IsWide w) (made : ℤ → Tree) (z : ℤ) (rest : List ℕ) → FitsSigned w z → signed_at w made (to_le_bytes w (cast_unsigned w z) ++ rest) ≡ Ok (made z, rest)
signed_again w wide made z rest fits =
    let n = cast_unsigned w z in
    let below : Fits w n = Fits-of_z fits in
    let number : from_le_bytes w (to_le_bytes w n) ≡ n = wide.again n (omega arith) in
    first_again (byte_len w) (λ front. made (cast_signed w (from_le_bytes w front))) (to_le_bytes w n) rest (wide.len n)
    ∙ rw (number, to_z-of_z w z fits) refl
