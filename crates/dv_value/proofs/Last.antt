-- A name at a place is found there, if no two names are equal.
use Rattle.std.proofs.Common.{◌≡◌, ℕ, zero, suc, ◌+◌, true, false, List, [], ◌∷◌, Some, map, refl, sym, arith}
use Rattle.std.specs.List.{slice_get, position_from}
use Rattle.std.specs.Str.{bytes_eq}
use Rattle.std.proofs.lemmas.Slice.Eq.{bytes_eq-Decides}
use Rattle.dv_value.specs.Names.{bare, place_under, has_name, AreNamed}
use Rattle.dv_value.specs.Inner.ByteLaws.{bytes_eq-symmetric}

itself : (name : List ℕ) → bytes_eq name name ≡ true
itself name = (bytes_eq-Decides name name).1 refl

other : (n name : List ℕ) (ns : List (List ℕ)) (k : ℕ) → slice_get ns k ≡ Some name → has_name n (map bare ns) ≡ false → bytes_eq name n ≡ false
other n name [] k there fresh = absurd cc
other n name (m ∷ ns) zero there fresh =
    let same : m ≡ name = cc in
    let apart : bytes_eq n m ≡ false = grind arith in
    rw (← same) (rw (bytes_eq-symmetric m n) apart)
other n name (m ∷ ns) (suc k) there fresh = other n name ns k there (grind arith)

found_at : (name : List ℕ) (i k : ℕ) (ns : List (List ℕ)) → slice_get ns k ≡ Some name → AreNamed (map bare ns) → position_from (λ f. bytes_eq name f.0) i (map bare ns) ≡ Some (i + k)
found_at name i k [] there named = absurd cc
found_at name i zero (m ∷ ns) there named =
    let same : m ≡ name = cc in
    let hit : bytes_eq name m ≡ true = rw same (itself name) in
    grind arith
found_at name i (suc k) (m ∷ ns) there named =
    let apart = other m name ns k there named.1 in
    grind (arith, found_at name (i + 1) k ns there named.2)

pub place_at : (name : List ℕ) (k : ℕ) (ns : List (List ℕ)) → slice_get ns k ≡ Some name → AreNamed (map bare ns) → Some k ≡ place_under name (map bare ns)
place_at name k ns there named =
    let start : 0 + k ≡ k = omega arith in
    sym (rw start at (found_at name 0 k ns there named))
