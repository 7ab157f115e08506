-- The names of a list of fields, and of the list with one more field at its end.
use Rattle.std.proofs.Common.{◌≡◌, ℕ, ◌+◌, ◌-◌, ◌≤◌, ◌<◌, true, false, List, [], ◌∷◌, ◌++◌, length, get_or, Some, None, is_some, take, drop, map, sym, ap, subst, ◌∙◌, arith}
use Rattle.std.proofs.lemmas.List.{take-append-drop, map-append}
use Rattle.std.proofs.lemmas.Slice.Eq.{bytes_eq-Decides}
use Rattle.std.specs.List.{position_from}
use Rattle.std.specs.Str.{bytes_eq}
use Rattle.dv_value.specs.Tree.{Field, boolean}
use Rattle.dv_value.specs.Names.{bare, place_under, value_under, has_name, has_zero, AreNamed}
use Rattle.dv_value.specs.Inner.ByteLaws.{bytes_eq-symmetric}
use Rattle.dv_value.specs.Inner.NameLaws.{has_name-append}

pub AreNamed-push : (fs : List Field) (f : Field) → AreNamed fs → has_zero f.0 ≡ false → has_name f.0 fs ≡ false → AreNamed (fs ++ f ∷ [])
AreNamed-push [] f named whole fresh = grind arith
AreNamed-push (g ∷ fs) f named whole fresh =
    grind (arith, AreNamed-push fs f, has_name-append g.0 fs (f ∷ []), bytes_eq-symmetric f.0 g.0)

AreNamed-front : (fs gs : List Field) → AreNamed (fs ++ gs) → AreNamed fs
AreNamed-front [] gs named = tt
AreNamed-front (f ∷ fs) gs named = (named.0, grind (arith, named.1, has_name-append f.0 fs gs), AreNamed-front fs gs named.2)

-- the names before a place
pub AreNamed-take : (count : ℕ) (ns : List (List ℕ)) → AreNamed (map bare ns) → AreNamed (map bare (take count ns))
AreNamed-take count ns named =
    let parts : map bare ns ≡ map bare (take count ns) ++ map bare (drop count ns) = ap (map bare) (sym (take-append-drop count ns)) ∙ map-append bare (take count ns) (drop count ns) in
    AreNamed-front (map bare (take count ns)) (map bare (drop count ns)) (subst AreNamed parts named)

-- no field has a name that holds a zero byte
pub zero_names_none : (name : List ℕ) (fs : List Field) → AreNamed fs → has_zero name ≡ true → has_name name fs ≡ false
zero_names_none name [] named zero = grind arith
zero_names_none name (f ∷ fs) named zero = grind (arith, zero_names_none name fs, (bytes_eq-Decides name f.0).0)

-- a place is found where a field has the name
pub is_some-place : (name : List ℕ) (i : ℕ) (fs : List Field) → is_some (position_from (λ f. bytes_eq name f.0) i fs) ≡ has_name name fs
is_some-place name i [] = grind arith
is_some-place name i (f ∷ fs) = grind (arith, is_some-place name (i + 1) fs)

-- the value at a place that is found, counted from i
module _ (name : List ℕ) where
  found_from : (i k : ℕ) (fs : List Field) (d : Field) → position_from (λ f. bytes_eq name f.0) i fs ≡ Some k → (i ≤ k) × (k < i + length fs) × (value_under name fs ≡ Some (get_or fs (k - i) d).1)
  found_from i k [] d found = grind arith
  found_from i k (f ∷ fs) d found = grind (arith, found_from (i + 1) k fs d)

  nowhere_from : (i : ℕ) (fs : List Field) → position_from (λ f. bytes_eq name f.0) i fs ≡ None → value_under name fs ≡ None
  nowhere_from i [] found = grind arith
  nowhere_from i (f ∷ fs) found = grind (arith, nowhere_from (i + 1) fs)

  pub place_within : (k : ℕ) (fs : List Field) → place_under name fs ≡ Some k → k < length fs
  place_within k fs found = omega (arith, (found_from 0 k fs ([], boolean false) found).1)

  pub value_there : (k : ℕ) (fs : List Field) (d : Field) → place_under name fs ≡ Some k → value_under name fs ≡ Some (get_or fs k d).1
  value_there k fs d found = let here : k - 0 ≡ k = omega arith in rw here at (found_from 0 k fs d found).2

  pub value_nowhere : (fs : List Field) → place_under name fs ≡ None → value_under name fs ≡ None
  value_nowhere fs found = nowhere_from 0 fs found

-- for `push`: what the search for a name says of it
pub ruleset places = (zero_names_none)
