-- How indexes that are still to be made are found.
use Rattle.std.specs.Prelude.{◌≡◌, ◌++◌, true, ℕ, List, [], ◌∷◌, is_some}
use Rattle.std.specs.BTreeMap.{BTreeMap, get_by_text}
use Rattle.std.specs.BTreeSet.{BTreeSet, contains_text}
use Rattle.std.specs.List.{list_any}
use Rattle.std.specs.Str.{bytes_eq}
use Rattle.std.specs.declared.string.String.{String}
use Rattle.dv_keyed.specs.Index.{IndexForm}

-- the components of a path, each after a dot
abbrev pub joined : List (List ℕ) → List ℕ
joined [] = []
joined (c ∷ cs) = 46 ∷ c ++ joined cs

-- the name of each index is among the keys of a map, and its path's text in a set
pub record AreFound {Y : Type 0} (names : BTreeMap (String Y) ℕ) (paths : BTreeSet (String Y)) (indexes : List IndexForm) : Type 0 where
  pub named : (name : List ℕ) → list_any (λ x. bytes_eq name x.name) indexes ≡ true → is_some (get_by_text names name) ≡ true
  pub pathed : (text : List ℕ) → list_any (λ x. bytes_eq text (joined x.path)) indexes ≡ true → contains_text paths text ≡ true
