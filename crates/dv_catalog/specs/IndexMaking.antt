-- How indexes are created and dropped, and which one an explain reports (MongoDB manual, "createIndexes", "dropIndexes", "explain").
-- The limit, the order of the refusals, and that an entry is refused if another index has its name or path, are this server's own.
use Rattle.std.specs.Prelude.{◌&&◌, ◌||◌, Bool, ℕ, List, [], ◌∷◌, ◌++◌, Option, Some, None, Result, Ok, Err, codes, drop, length, nat_lt, if◌then◌else◌}
use Rattle.std.specs.FinMap as finite
use Rattle.std.specs.Bool.{beq}
use Rattle.std.specs.List.{list_any}
use Rattle.std.specs.Str.{bytes_eq}
use Rattle.dv_refusal.specs.declared.refusal.Refusal.{Refusal}
use Rattle.dv_refusal.specs.declared.refusal.Refusal.TheVariants.{BadValue, DuplicateKey, NamespaceNotFound, IndexNotFound, ConflictingUpdateOperators, OnView, LimitReached}
use Rattle.dv_value.specs.Results.{◌>>=◌}
use Rattle.dv_keyed.specs.Choice.{same_path}
use Rattle.dv_keyed.specs.Index.{IndexForm, id_form}
use Rattle.dv_index.specs.Indexed.{documents_covered, index_chosen, is_dropped, without_index}
use Rattle.dv_index.specs.Unique.{are_broken}
use Rattle.dv_match.specs.Filter.{Members}
use Rattle.dv_catalog.specs.State.{Collection, Standing, State, collection, collection_of, indexes_of, is_collection, is_view, rows_of, with_indexes}

-- the greatest number of indexes of a collection, `_id_` included
abbrev pub index_limit : ℕ
index_limit = 64

-- whether two indexes are the same: name, path, and whether they are unique
abbrev pub is_same : IndexForm → IndexForm → Bool
is_same x y = bytes_eq x.name y.name && same_path x.path y.path && beq x.unique y.unique

-- whether two indexes have the same name or the same path
abbrev pub is_alike : IndexForm → IndexForm → Bool
is_alike x y = bytes_eq x.name y.name || same_path x.path y.path

-- whether an entry of a createIndexes changes nothing: it is on `_id`, or the same index exists
abbrev pub is_made : IndexForm → List IndexForm → Bool
is_made x indexes = same_path x.path id_form.path || list_any (is_same x) indexes

-- ---- creating

-- the indexes with one more, unless the same one exists; refused with 40 if another index has its name or its path
abbrev pub with_index : IndexForm → List IndexForm → Result (List IndexForm) Refusal
with_index x indexes =
    if is_made x indexes then Ok indexes
    else if list_any (is_alike x) indexes then Err ConflictingUpdateOperators
    else Ok (indexes ++ x ∷ [])

-- the indexes after each entry in turn, or the first refusal; the indexes of earlier entries count as existing
abbrev pub with_entries : List IndexForm → List IndexForm → Result (List IndexForm) Refusal
with_entries [] indexes = Ok indexes
with_entries (x ∷ xs) indexes = with_index x indexes >>= λ more. with_entries xs more

-- refuses more than 64 indexes with 903
abbrev pub within_limit : List IndexForm → Result (List IndexForm) Refusal
within_limit indexes = if nat_lt index_limit (length indexes) then Err LimitReached else Ok indexes

-- refuses a new unique index with 11000 if two documents have a key in common
abbrev pub unless_broken : Collection → List IndexForm → Result (List IndexForm) Refusal
unless_broken c indexes = if are_broken (drop (length c.indexes) indexes) c.documents then Err DuplicateKey else Ok indexes

-- the indexes after all entries for a collection, or the refusal, so that none is created
abbrev pub with_all : List IndexForm → Collection → Result (List IndexForm) Refusal
with_all entries c = with_entries entries c.indexes >>= within_limit >>= unless_broken c

-- ---- dropping

-- the indexes without the one with this name, or for `*` without all but `_id_`; refused with 2 for `_id_`, and with 27 if no index has
-- the name
abbrev pub without_named : List ℕ → List IndexForm → Result (List IndexForm) Refusal
without_named name indexes =
    if bytes_eq name (codes "*") then Ok (id_form ∷ [])
    else if bytes_eq name id_form.name then Err BadValue
    else if list_any (is_dropped name) indexes then Ok (without_index name indexes)
    else Err IndexNotFound

-- ---- commands

-- the state with these indexes of a namespace, or their refusal
abbrev pub with_indexes_so : List ℕ → Result (List IndexForm) Refusal → State → Result State Refusal
with_indexes_so namespace made state = made >>= λ indexes. Ok (record state { namespaces = with_indexes namespace indexes state.namespaces })

-- the state after a createIndexes, which creates the collection if it doesn't exist; refused with 902 on a view
abbrev pub indexes_created : List ℕ → List IndexForm → State → Result State Refusal
indexes_created namespace entries state =
    if is_view namespace state.views then Err OnView
    else with_indexes_so namespace (with_all entries (collection_of namespace state.namespaces)) state

-- the state after a dropIndexes; refused with 902 on a view, and with 26 if the namespace doesn't exist
abbrev pub indexes_dropped : List ℕ → List ℕ → State → Result State Refusal
indexes_dropped namespace name state =
    if is_view namespace state.views then Err OnView
    else if is_collection namespace state.namespaces then with_indexes_so namespace (without_named name (indexes_of namespace state.namespaces)) state
    else Err NamespaceNotFound

-- ---- explaining

-- how the documents of a find are read: from a view, by the index with this name, or all (a scan)
pub data Way : Type 0 where
  over_view : Way
  by_index : List ℕ → Way
  over_all : Way

-- what an explain reports: how documents are read, and how many of them have a leaf within the bounds, or all if no index is used
pub record Explained : Type 0 where
  pub way : Way
  pub documents : ℕ

-- how documents are read: by the index with this name, or all if there is no name
abbrev pub way_by : Option (List ℕ) → Way
way_by None = over_all
way_by (Some name) = by_index name

-- what an explain reports for a filter on a collection
abbrev pub explained_of : Members → Collection → Explained
explained_of filter c = record { way = way_by (index_chosen filter c.indexes); documents = documents_covered filter c }

-- what an explain reports for a filter on a collection; one that doesn't exist has no documents
abbrev pub explained_at : Members → Option Standing → Explained
explained_at filter None = record { way = over_all; documents = 0 }
explained_at filter (Some (collection c)) = explained_of filter c

-- what an explain reports for a filter on a namespace; on a view, the number of its rows
abbrev pub explained : List ℕ → Members → State → Explained
explained namespace filter state =
    if is_view namespace state.views then record { way = over_view; documents = length (rows_of namespace state) }
    else explained_at filter (finite.get state.namespaces namespace)
