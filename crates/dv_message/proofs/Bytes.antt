-- Bytes, and numbers in four of them.
use Rattle.std.proofs.Common.{◌≡◌, ℕ, ◌+◌, ◌≤◌, ◌<◌, ◌^◌, List, ◌++◌, length, take, drop, refl, sym, ap, subst, ◌∙◌, arith}
use Rattle.std.specs.Int.{w32, from_le_bytes, to_le_bytes}
use Rattle.std.proofs.lemmas.List.{length-take-le, length-drop, take_at, drop_at, drop-append-le, take-append-le}
use Rattle.std.proofs.lemmas.Nat.{le_bytes_4}
use Rattle.dv_value.specs.Spelling.{IsBytes}
use Rattle.dv_value.specs.Inner.ByteLaws.{IsBytes-take, IsBytes-drop}
use Rattle.dv_message.specs.Sections.{number_after}

pub IsBytes-behind : (a b : List ℕ) → IsBytes (a ++ b) → IsBytes b
IsBytes-behind a b h = subst IsBytes (drop_at a b (length a) refl) (IsBytes-drop (length a) (a ++ b) h)

pub IsBytes-front : (a b : List ℕ) → IsBytes (a ++ b) → IsBytes a
IsBytes-front a b h = subst IsBytes (take_at a b (length a) refl) (IsBytes-take (length a) (a ++ b) h)

-- four bytes are those of their number
pub four : (n : ℕ) (s : List ℕ) → IsBytes s → n + 4 ≤ length s → take 4 (drop n s) ≡ to_le_bytes w32 (number_after n s)
four n s h le =
    sym (le_bytes_4 (take 4 (drop n s)) _ (length-take-le 4 (drop n s) (omega (arith, length-drop n s))) (IsBytes-take 4 (drop n s) (IsBytes-drop n s h)) refl)

pub number_below : (n : ℕ) (s : List ℕ) → IsBytes s → number_after n s < 2 ^ 32
number_below n s h =
    let h' : IsBytes (take 4 (drop n s)) = IsBytes-take 4 (drop n s) (IsBytes-drop n s h) in
    omega (arith, h' 0, h' 1, h' 2, h' 3)

pub number_same : (n : ℕ) (a b : List ℕ) → n + 4 ≤ length a → number_after n (a ++ b) ≡ number_after n a
number_same n a b le =
    ap (from_le_bytes w32) (ap (take 4) (drop-append-le n a b (omega arith)) ∙ take-append-le 4 (drop n a) b (omega (arith, length-drop n a)))
