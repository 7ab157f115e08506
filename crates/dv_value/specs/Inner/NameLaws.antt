-- The names of lists of fields, of two such lists joined, and of a list without one of its fields.
use Rattle.std.proofs.Common.{◌≡◌, ℕ, false, ◌||◌, List, [], ◌∷◌, ◌++◌, arith, refl}
use Rattle.dv_value.specs.Tree.{Field}
use Rattle.dv_value.specs.Names.{has_name, has_zero, AreNamed, without}
use Rattle.dv_value.specs.Inner.ByteLaws.{bytes_eq-symmetric}

pub has_name-append : (name : List ℕ) (fs gs : List Field) → has_name name (fs ++ gs) ≡ (has_name name fs || has_name name gs)
has_name-append name [] gs = grind arith
has_name-append name (f ∷ fs) gs = grind (arith, has_name-append name fs gs)

-- a field's name isn't that of one before it
pub named_apart : (fs gs : List Field) (f : Field) → AreNamed (fs ++ f ∷ gs) → has_name f.0 fs ≡ false
named_apart [] gs f named = grind arith
named_apart (g ∷ fs) gs f named =
    grind (arith, named_apart fs gs f named.2, has_name-append g.0 fs (f ∷ gs), bytes_eq-symmetric f.0 g.0)

pub named_whole : (fs gs : List Field) (f : Field) → AreNamed (fs ++ f ∷ gs) → has_zero f.0 ≡ false
named_whole [] gs f named = named.0
named_whole (g ∷ fs) gs f named = named_whole fs gs f named.2

pub has_name-without : (other name : List ℕ) (fs : List Field) → has_name other fs ≡ false → has_name other (without name fs) ≡ false
has_name-without other name [] none = refl
has_name-without other name (f ∷ fs) none = grind (arith, has_name-without other name fs)

pub AreNamed-without : (name : List ℕ) (fs : List Field) → AreNamed fs → AreNamed (without name fs)
AreNamed-without name [] named = named
AreNamed-without name (f ∷ fs) named = grind (arith, AreNamed-without name fs, has_name-without f.0 name fs)

pub without_missing : (name : List ℕ) (fs : List Field) → has_name name fs ≡ false → without name fs ≡ fs
without_missing name [] none = refl
without_missing name (f ∷ fs) none = grind (arith, without_missing name fs)
