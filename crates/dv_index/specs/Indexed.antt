-- A collection with its indexes, as users see it: documents in the order of `_id`, and indexes in the order of creation. The entries of
-- the indexes aren't part of this: they show only in what a find costs.
use Rattle.std.specs.Prelude.{ℕ, Bool, not, ◌&&◌, List, [], ◌∷◌, map, Option, None, Some, slice_get}
use Rattle.std.specs.List.{filter}
use Rattle.std.specs.Option.{option_map}
use Rattle.std.specs.Str.{bytes_eq}
use Rattle.dv_value.specs.Tree.{Field}
use Rattle.dv_match.specs.Filter.{Condition, Members}
use Rattle.dv_keyed.specs.Choice.{chosen}
use Rattle.dv_keyed.specs.Index.{IndexForm, id_form}
use Rattle.dv_index.specs.Search.{covered}

-- a collection and its indexes
pub record IndexedTree : Type 0 where
  pub documents : List (List Field)
  pub indexes : List IndexForm

-- a collection without documents, with the index `_id_` alone
abbrev pub empty_indexed : IndexedTree
empty_indexed = record { documents = []; indexes = id_form ∷ [] }

-- whether dropping this name drops the index; `_id_` is never dropped
abbrev pub is_dropped : List ℕ → IndexForm → Bool
is_dropped name x = bytes_eq x.name name && not (bytes_eq x.name id_form.name)

-- the indexes after dropping this name
abbrev pub without_index : List ℕ → List IndexForm → List IndexForm
without_index name xs = filter (λ x. not (is_dropped name x)) xs

-- the paths of the indexes
abbrev pub paths_of : List IndexForm → List (List (List ℕ))
paths_of xs = map (λ x. x.path) xs

-- the name of a plan's index; none for a scan
abbrev pub name_at : Option (ℕ × Condition) → List IndexForm → Option (List ℕ)
name_at None xs = None
name_at (Some plan) xs = option_map (λ x. x.name) (slice_get xs plan.0)

-- the name of the index that a filter uses; none for a scan
abbrev pub index_chosen : Members → List IndexForm → Option (List ℕ)
index_chosen filter xs = name_at (chosen filter (paths_of xs)) xs

-- the number of documents that this index covers, or of all documents for a scan
abbrev pub documents_covered : Members → IndexedTree → ℕ
documents_covered filter c = covered (chosen filter (paths_of c.indexes)) (paths_of c.indexes) c.documents
