-- Parts of bytes, names as bytes, and text below 128.
use Rattle.std.proofs.Common.{◌≡◌, ℕ, ◌+◌, true, ltb, List, [], ◌∷◌, take, drop, sym, arith, inl, inr}
use Rattle.std.specs.List.{list_all}
use Rattle.std.specs.Str.{bytes_eq, is_utf8, IsAscii}
use Rattle.std.proofs.lemmas.Bool.{cases_lt, ltb-true, and_parts}
use Rattle.std.proofs.lemmas.Bool.Decides.{same_from_decides}
use Rattle.std.proofs.lemmas.List.{length-take, get_or-drop, get_or-take, get_or_past}
use Rattle.std.proofs.lemmas.Slice.Eq.{bytes_eq-Decides}
use Rattle.std.proofs.lemmas.Str.{is_utf8-from_IsUtf8, IsUtf8-from_ascii}
use Rattle.std.proofs.lemmas.Str.Ascii.{IsAscii-nil, IsAscii-cons}
use Rattle.dv_value.specs.Spelling.{IsBytes}

pub IsBytes-take : (n : ℕ) (bytes : List ℕ) → IsBytes bytes → IsBytes (take n bytes)
IsBytes-take n bytes h i =
    elim (cases_lt i n) [
      | inl lt ↦ rw (get_or-take n bytes i 0 lt) (h i)
      | inr le ↦ rw (get_or_past (take n bytes) i 0 (omega (arith, length-take n bytes))) (omega arith)
    ]

pub IsBytes-drop : (n : ℕ) (bytes : List ℕ) → IsBytes bytes → IsBytes (drop n bytes)
IsBytes-drop n bytes h i = rw get_or-drop (h (n + i))

-- to compare two names the other way round has the same result
pub bytes_eq-symmetric : (a b : List ℕ) → bytes_eq a b ≡ bytes_eq b a
bytes_eq-symmetric a b = same_from_decides _ _ (bytes_eq-Decides a b) ((λ e. sym ((bytes_eq-Decides b a).0 e)), λ e. (bytes_eq-Decides b a).1 (sym e))

pub is_ascii_text : (bytes : List ℕ) → list_all (λ b. ltb b 128) bytes ≡ true → IsAscii bytes
is_ascii_text [] all = IsAscii-nil
is_ascii_text (b ∷ bytes) all = let parts = and_parts (ltb b 128) (list_all (λ c. ltb c 128) bytes) all in IsAscii-cons b bytes (ltb-true b 128 parts.0) (is_ascii_text bytes parts.1)

-- text below 128 is UTF-8
pub is_text : (bytes : List ℕ) → list_all (λ b. ltb b 128) bytes ≡ true → is_utf8 bytes ≡ true
is_text bytes all = is_utf8-from_IsUtf8 bytes (IsUtf8-from_ascii bytes (is_ascii_text bytes all))
