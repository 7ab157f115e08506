-- Words that the laws about paths use.
use Rattle.std.specs.Prelude.{◌≡◌, ℕ, List, ◌∷◌, Some, Ok}
use Rattle.dv_value.specs.Names.{value_under}
use Rattle.dv_value.specs.Tree.{Tree, Field, document, fields_of}
use Rattle.dv_candidates.specs.Ways.{HasNoArray}
use Rattle.dv_path.specs.Placing.{put}

-- a law for all fields and each path, of which `name` is the first component
abbrev pub ForEachPath : (List Field → List ℕ → List (List ℕ) → Type 0) → Type 0
ForEachPath Law = (fields : List Field) (name : List ℕ) (path : List (List ℕ)) → Law fields name path

-- the same for each value that is put there, and all fields that may come of it
abbrev pub ForEachPut : (List Field → List ℕ → List (List ℕ) → Tree → List Field → Type 0) → Type 0
ForEachPut Law = ForEachPath (λ fields name path. (v : Tree) (after : List Field) → Law fields name path v after)

-- the value can be put at the path
abbrev pub CanPut : List Field → List (List ℕ) → Tree → Type 0
CanPut fields path v = (after : List Field) × (put fields path v ≡ Ok after)

-- the path enters no array of the document
abbrev pub EntersNoArray : List (List ℕ) → List Field → Type 0
EntersNoArray path fields = HasNoArray path (Some (document (fields_of fields)))

-- two documents have the same value under the name, or both have none
abbrev pub SameUnder : List ℕ → List Field → List Field → Type 0
SameUnder name old new = value_under name new ≡ value_under name old

-- the first field is this one
abbrev pub IsFirst : Field → List Field → Type 0
IsFirst f fields = (rest : List Field) × (fields ≡ f ∷ rest)

-- the first field has this name
abbrev pub IsFirstName : List ℕ → List Field → Type 0
IsFirstName name fields = (g : Field) × (rest : List Field) × (fields ≡ g ∷ rest) × (g.0 ≡ name)
