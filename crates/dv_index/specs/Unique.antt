-- Unique indexes (MongoDB manual, "Unique Indexes"): no two documents have the same key under the path. The keys of a document are
-- those of its leaves. That Missing counts as null, so that only one document may lack the path, is the manual's rule too ("Unique
-- Index and Missing Field"); that a whole array is a key besides its elements is this server's own.
use Rattle.std.specs.Prelude.{ℕ, ◌&&◌, ◌||◌, not, Bool, true, false, List, [], ◌∷◌}
use Rattle.std.specs.List.{list_any}
use Rattle.dv_value.specs.Tree.{Field}
use Rattle.dv_order.specs.Order.{canon}
use Rattle.dv_order.specs.Key.{value}
use Rattle.dv_path.specs.LeafKeys.{is_leaf_key, leaf_values}
use Rattle.dv_coll.specs.Collection.{has_key, id_key, replaced}
use Rattle.dv_keyed.specs.Index.{IndexForm}

-- whether two documents have a key in common under the path
unfoldable pub share_key : List (List ℕ) → List Field → List Field → Bool
share_key path d e = list_any (λ v. is_leaf_key (value (canon v)) path e) (leaf_values path d)

-- whether a document with another `_id` than d's has one of d's keys under the path
abbrev pub is_key_taken : List (List ℕ) → List Field → List (List Field) → Bool
is_key_taken path d documents = list_any (λ e. not (has_key (id_key d) e) && share_key path d e) documents

-- whether d breaks a unique index, together with the documents with other `_id`s
abbrev pub clashes : List IndexForm → List Field → List (List Field) → Bool
clashes indexes d documents = list_any (λ x. x.unique && is_key_taken x.path d documents) indexes

-- whether any of these breaks a unique index as it replaces the document with its `_id`; they are replaced one after the other
abbrev pub replacing_clashes : List IndexForm → List (List Field) → List (List Field) → Bool
replacing_clashes indexes [] documents = false
replacing_clashes indexes (d ∷ ds) documents = clashes indexes d documents || replacing_clashes indexes ds (replaced d documents)

-- whether no two of the documents have a key in common under the path
abbrev pub are_apart : List (List ℕ) → List (List Field) → Bool
are_apart path [] = true
are_apart path (d ∷ ds) = not (list_any (share_key path d) ds) && are_apart path ds

-- whether the index is unique, and two of the documents have a key in common under its path
abbrev pub is_broken : IndexForm → List (List Field) → Bool
is_broken x documents = x.unique && not (are_apart x.path documents)

-- whether the documents break one of the indexes
abbrev pub are_broken : List IndexForm → List (List Field) → Bool
are_broken indexes documents = list_any (λ x. is_broken x documents) indexes
