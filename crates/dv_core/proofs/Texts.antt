-- Texts of ASCII letters are UTF-8.
use Rattle.std.proofs.Common.{◌≡◌, ℕ, zero, suc, ◌<◌, nat_lt, ◌&&◌, Bool, true, List, [], ◌∷◌, get_or, arith}
use Rattle.std.proofs.lemmas.Bool.Decides.{nat_tests}
use Rattle.std.proofs.lemmas.Str.{IsUtf8-from_ascii}
use Rattle.std.specs.Str.{IsUtf8}

abbrev pub are_ascii : List ℕ → Bool
are_ascii [] = true
are_ascii (b ∷ bs) = nat_lt b 128 && are_ascii bs

below : (bs : List ℕ) (i : ℕ) → are_ascii bs ≡ true → get_or bs i 0 < 128
below [] i are = omega arith
below (b ∷ bs) zero are = grind (arith, nat_tests)
below (b ∷ bs) (suc i) are = below bs i (rest b (are_ascii bs) are)
  where
    rest : (c : ℕ) (others : Bool) → (nat_lt c 128 && others) ≡ true → others ≡ true
    rest c others e = grind (arith, nat_tests)

pub IsUtf8-ascii : (bs : List ℕ) → are_ascii bs ≡ true → IsUtf8 bs
IsUtf8-ascii bs are = IsUtf8-from_ascii bs (λ i. below bs i are)
