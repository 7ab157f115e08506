-- Paths in groups of those that begin with one component, and what they take away of values.
use Rattle.std.specs.Prelude.{◌≡◌, ◌≢◌, ⊤, ℕ, List, [], ◌∷◌, ◌++◌, Some, Bool, true, false}
use Rattle.std.specs.Option.{unwrap_or}
use Rattle.dv_value.specs.Tree.{Tree, null, Field}
use Rattle.dv_candidates.specs.Path.{index_of}
use Rattle.dv_path.specs.Removing.{left_behind, remove_element, remove_field}

-- a component, and what follows it in each of some paths
abbrev pub Group : Type 0
Group = List ℕ × List (List (List ℕ))

abbrev pub begun : List ℕ → List (List (List ℕ)) → List (List (List ℕ))
begun name [] = []
begun name (rest ∷ rests) = (name ∷ rest) ∷ begun name rests

-- the paths of all groups
abbrev pub ungrouped : List Group → List (List (List ℕ))
ungrouped [] = []
ungrouped (g ∷ gs) = begun g.0 g.1 ++ ungrouped gs

-- each group has a path
abbrev pub AreFilled : List Group → Type 0
AreFilled [] = ⊤
AreFilled (g ∷ gs) = (g.1 ≢ []) × AreFilled gs

-- each path has a component
abbrev pub AreSome : List (List (List ℕ)) → Type 0
AreSome [] = ⊤
AreSome ([] ∷ paths) = ⊥
AreSome ((name ∷ path) ∷ paths) = AreSome paths

-- each path has two components or more
abbrev pub AreLong : List (List (List ℕ)) → Type 0
AreLong [] = ⊤
AreLong ((a ∷ b ∷ path) ∷ paths) = AreLong paths
AreLong (path ∷ paths) = ⊥

-- the paths that have a component
abbrev pub with_component : List (List (List ℕ)) → List (List (List ℕ))
with_component [] = []
with_component ([] ∷ paths) = with_component paths
with_component ((name ∷ path) ∷ paths) = (name ∷ path) ∷ with_component paths

-- the paths are in these groups
pub record IsGrouping (groups : List Group) (paths : List (List (List ℕ))) : Type 0 where
  pub whole : ungrouped groups ≡ with_component paths
  pub filled : AreFilled groups

-- a group of this name, which may have been the last one, and those before it
pub record HasGroup (groups before : List Group) (name : List ℕ) (g : Group) : Type 0 where
  pub named : g.0 ≡ name
  pub whole : ungrouped before ++ begun name g.1 ≡ ungrouped groups
  pub filled : AreFilled groups → AreFilled before

-- whether the first path has no component
abbrev pub begins_with_none : List (List (List ℕ)) → Bool
begins_with_none ([] ∷ paths) = true
begins_with_none paths = false

-- a value without what the paths lead to in it, one after the other, and null if the value itself is removed
abbrev pub left_of_each : List (List (List ℕ)) → Tree → Tree
left_of_each [] v = v
left_of_each (path ∷ paths) v = left_of_each paths (unwrap_or (left_behind path v) null)

-- elements without what the paths lead to in them
abbrev pub remove_each_element : List Tree → List (List (List ℕ)) → List Tree
remove_each_element vs [] = vs
remove_each_element vs ([] ∷ paths) = remove_each_element vs paths
remove_each_element vs ((name ∷ path) ∷ paths) = remove_each_element (remove_element (left_behind path) (index_of name) vs) paths

-- fields without what the paths of groups lead to in them, and elements without that of one group, and of some
abbrev pub with_groups : List Field → List Group → List Field
with_groups fs [] = fs
with_groups fs (g ∷ gs) = with_groups (remove_field (λ v. Some (left_of_each g.1 v)) g.0 fs) gs

abbrev pub elements_with_group : List Tree → Group → List Tree
elements_with_group vs g = remove_element (λ v. Some (left_of_each g.1 v)) (index_of g.0) vs

abbrev pub elements_with_groups : List Tree → List Group → List Tree
elements_with_groups vs [] = vs
elements_with_groups vs (g ∷ gs) = elements_with_groups (remove_element (λ v. Some (left_of_each g.1 v)) (index_of g.0) vs) gs
