-- How documents are grouped by their keys (MongoDB manual, "$group (aggregation)"). That groups are in the order of their keys is this
-- server's own.
use Rattle.std.specs.Prelude.{List, [], ◌∷◌, map, if◌then◌else◌}
use Rattle.std.specs.Ordering.{is_eq, match_ordering}
use Rattle.dv_value.specs.Tree.{Tree, Field}
use Rattle.dv_order.specs.Order.{order}

-- a document with its key
abbrev pub Keyed : Type 0
Keyed = Tree × List Field

-- ascending keys with one more, unless one of them equals it
abbrev pub with_key : Tree → List Tree → List Tree
with_key k [] = k ∷ []
with_key k (l ∷ ls) = match_ordering (order k l) (k ∷ l ∷ ls) (l ∷ ls) (l ∷ with_key k ls)

-- ascending keys with the keys of these documents
abbrev pub keys_from : List Tree → List Keyed → List Tree
keys_from ks [] = ks
keys_from ks (d ∷ ds) = keys_from (with_key d.0 ks) ds

-- the keys of the documents, ascending, each once
abbrev pub group_keys : List Keyed → List Tree
group_keys ds = keys_from [] ds

-- the documents whose key equals k, in their order
abbrev pub documents_under_key : Tree → List Keyed → List (List Field)
documents_under_key k [] = []
documents_under_key k (d ∷ ds) = if is_eq (order k d.0) then d.1 ∷ documents_under_key k ds else documents_under_key k ds

-- the documents of each group, in ascending order of the keys
unfoldable pub groups_of : List Keyed → List (List (List Field))
groups_of ds = map (λ k. documents_under_key k ds) (group_keys ds)
