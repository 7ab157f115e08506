-- What statements change: one document after another.
use Rattle.std.specs.Prelude.{ℕ, ◌||◌, Bool, false, List, [], ◌∷◌, Result, Ok, Err, is_some, if◌then◌else◌}
use Rattle.dv_value.specs.Tree.{Field}
use Rattle.dv_order.specs.Key.{KeyTree}
use Rattle.dv_coll.specs.Collection.{id_key, found, inserted, removed, replaced}
use Rattle.dv_refusal.specs.declared.refusal.Refusal.{Refusal}
use Rattle.dv_refusal.specs.declared.refusal.Refusal.TheVariants.{DuplicateKey}
use Rattle.dv_value.specs.Results.{◌>>=◌}
use Rattle.dv_keyed.specs.Index.{IndexForm}
use Rattle.dv_index.specs.Unique.{clashes}
use Rattle.dv_catalog.specs.State.{Collection, Namespaces, documents_of, with_documents}

-- a document to insert or replace, or the key of the `_id` whose document is removed
pub data Change : Type 0 where
  put : List Field → Change
  gone : KeyTree → Change

-- the documents with d in place of the one with an equal `_id`, or inserted if there is none
abbrev pub with_put : List Field → List (List Field) → List (List Field)
with_put d documents = if is_some (found (id_key d) documents) then replaced d documents else inserted d documents

-- the documents after a change
abbrev pub with_change : List (List Field) → Change → List (List Field)
with_change documents (put d) = with_put d documents
with_change documents (gone k) = removed k documents

-- the documents after these changes, one after the other
abbrev pub with_changes : List (List Field) → List Change → List (List Field)
with_changes documents [] = documents
with_changes documents (change ∷ changes) = with_changes (with_change documents change) changes

-- the collections after these changes of one of them; without changes, the collection isn't created
abbrev pub apply : List ℕ → List Change → Namespaces → Namespaces
apply namespace [] namespaces = namespaces
apply namespace (change ∷ changes) namespaces =
    with_documents namespace (with_changes (documents_of namespace namespaces) (change ∷ changes)) namespaces

-- the effect of a statement: the number of documents that it counts, and its changes in order
pub record Effect : Type 0 where
  pub matched : ℕ
  pub changes : List Change

-- the changes of a statement; none if it is refused
abbrev pub changes_of : Result Effect Refusal → List Change
changes_of (Ok effect) = effect.changes
changes_of (Err refusal) = []

-- what a statement does: its effect on the documents of a collection, or its refusal
abbrev pub Statement : Type 0
Statement = List (List Field) → Result Effect Refusal

-- ---- unique indexes

-- whether a change breaks a unique index: a document with another `_id` has one of the new document's keys
abbrev pub clashes_by : List IndexForm → Change → List (List Field) → Bool
clashes_by indexes (put d) documents = clashes indexes d documents
clashes_by indexes (gone k) documents = false

-- whether any of these changes breaks a unique index, made one after the other
abbrev pub breaks : List IndexForm → List Change → List (List Field) → Bool
breaks indexes [] documents = false
breaks indexes (change ∷ changes) documents = clashes_by indexes change documents || breaks indexes changes (with_change documents change)

-- the effect, or a refusal with 11000 if one of its changes breaks a unique index
abbrev pub unless_it_breaks : Collection → Effect → Result Effect Refusal
unless_it_breaks c effect = if breaks c.indexes effect.changes c.documents then Err DuplicateKey else Ok effect

-- the effect of a statement on a collection: it is refused by its own rules first, then if one of its changes breaks a unique index
abbrev pub done_to : Collection → Statement → Result Effect Refusal
done_to c statement = statement c.documents >>= unless_it_breaks c
