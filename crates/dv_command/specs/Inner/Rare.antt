-- The fields that most finds don't have.
use Rattle.std.specs.Prelude.{ℕ, Bool, List, [], ◌∷◌, codes}
use Rattle.std.specs.List.{list_any}
use Rattle.dv_value.specs.Tree.{Field}
use Rattle.dv_command.specs.Fields.{is_listed_name}

-- the names of a find's fields besides those of its collection, its filter and its projection
abbrev pub rare_names : List (List ℕ)
rare_names = codes "sort" ∷ codes "skip" ∷ codes "limit" ∷ codes "batchSize" ∷ codes "singleBatch" ∷ []

-- whether the name is among these
abbrev pub is_rare : List ℕ → Bool
is_rare name = is_listed_name name rare_names

-- whether a field has such a name
abbrev pub has_rare : List Field → Bool
has_rare body = list_any (λ f. is_rare f.0) body
