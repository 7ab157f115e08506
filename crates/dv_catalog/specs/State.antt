-- The collections and views that commands read and change. That no two documents of a collection have the same `_id` is the MongoDB
-- manual's rule ("Documents", "The _id Field"); so are the rows of a view ("Views"), and the index on `_id` that each collection has
-- and that can't be dropped ("Indexes", "Default Index"). The order of documents by `_id` is this server's own.
use Rattle.std.specs.Prelude.{◌||◌, not, Bool, ℕ, List, [], Option, Some, None, filter}
use Rattle.std.specs.Cmp.Lexicographic.{slice_cmp}
use Rattle.std.specs.FinMap as finite
use Rattle.std.specs.List.{AllByRecursion, list_any}
use Rattle.std.specs.Ordering.{nat_cmp}
use Rattle.std.specs.Str.{bytes_eq}
use Rattle.dv_value.specs.Tree.{Field}
use Rattle.dv_coll.specs.Collection.{HasId, IsAscending}
use Rattle.dv_keyed.specs.Index.{IndexForm}
use Rattle.dv_index.specs.Indexed.{IndexedTree, empty_indexed}
use Rattle.dv_pipe.specs.Stages.{Lists}
use Rattle.dv_views.specs.Forms.{ViewForm, rows_over}

-- The documents of a collection in the order of `_id`, and its indexes in the order of creation, `_id_` first, each with its name, its
-- path and whether it is unique. The entries of an index are not part of it.
abbrev pub Collection : Type 0
Collection = IndexedTree

-- what is stored under a namespace: a collection; views are stored separately
pub data Standing : Type 0 where
  collection : Collection → Standing

-- the collections, by namespace
abbrev pub Namespaces : Type 0
Namespaces = finite.FinMap (slice_cmp nat_cmp) Standing

-- the collections, and the views in the order of creation; no namespace has both
pub record State : Type 0 where
  pub namespaces : Namespaces
  pub views : List ViewForm

-- no collections and no views
abbrev pub empty_state : State
empty_state = record { namespaces = finite.empty; views = [] }

-- ---- collections

-- the collection that was found, or an empty one
abbrev pub collection_at : Option Standing → Collection
collection_at None = empty_indexed
collection_at (Some (collection c)) = c

-- the collection of a namespace; if it doesn't exist, an empty one with the index `_id_` alone
abbrev pub collection_of : List ℕ → Namespaces → Collection
collection_of namespace namespaces = collection_at (finite.get namespaces namespace)

-- the documents of a collection
abbrev pub documents_of : List ℕ → Namespaces → List (List Field)
documents_of namespace namespaces = (collection_of namespace namespaces).documents

-- the indexes of a collection
abbrev pub indexes_of : List ℕ → Namespaces → List IndexForm
indexes_of namespace namespaces = (collection_of namespace namespaces).indexes

-- the collections, with these documents in one of them, which is created if it doesn't exist
abbrev pub with_documents : List ℕ → List (List Field) → Namespaces → Namespaces
with_documents namespace documents namespaces =
    finite.insert namespaces namespace (collection (record (collection_of namespace namespaces) { documents = documents }))

-- the collections, with these indexes of one of them, which is created if it doesn't exist
abbrev pub with_indexes : List ℕ → List IndexForm → Namespaces → Namespaces
with_indexes namespace indexes namespaces =
    finite.insert namespaces namespace (collection (record (collection_of namespace namespaces) { indexes = indexes }))

-- the documents of each collection, by namespace
abbrev pub lists_of : Namespaces → Lists
lists_of namespaces namespace = documents_of namespace namespaces

-- each document begins with its `_id`, and the `_id`s ascend strictly, with the width of integers ignored
abbrev pub AreOrdered : List (List Field) → Type 0
AreOrdered documents = IsAscending documents × AllByRecursion HasId documents

-- the documents of each namespace begin with their `_id`s, which ascend strictly
abbrev pub IsOrdered : State → Type 0
IsOrdered state = (namespace : List ℕ) → AreOrdered (documents_of namespace state.namespaces)

-- ---- views

-- whether the view has this name
abbrev pub has_name : List ℕ → ViewForm → Bool
has_name namespace v = bytes_eq namespace v.name

-- whether there is a view with this name
abbrev pub is_view : List ℕ → List ViewForm → Bool
is_view namespace views = list_any (has_name namespace) views

-- whether there is a collection with this name
abbrev pub is_collection : List ℕ → Namespaces → Bool
is_collection namespace namespaces = finite.contains_key namespaces namespace

-- whether there is a collection or view with this name
abbrev pub is_there : List ℕ → State → Bool
is_there namespace state = is_collection namespace state.namespaces || is_view namespace state.views

-- the views without the one with this name
abbrev pub without_view : List ℕ → List ViewForm → List ViewForm
without_view namespace views = filter (λ v. not (has_name namespace v)) views

-- the rows of a namespace: a collection's documents, or the rows of a view's pipeline over the current rows of what it reads; none if the
-- namespace doesn't exist
abbrev pub rows_of : List ℕ → State → List (List Field)
rows_of namespace state = rows_over state.views (lists_of state.namespaces) namespace
