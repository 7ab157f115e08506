-- How explanations are represented in memory, and what the parts of createIndexes and dropIndexes do.
use Rattle.std.specs.Prelude.{ℕ, List, length, Result, Ok, Err, if◌then◌else◌}
use Rattle.std.specs.String.{string_bytes}
use Rattle.dv_refusal.specs.declared.refusal.Refusal.{Refusal}
use Rattle.dv_refusal.specs.declared.refusal.Refusal.TheVariants.{NamespaceNotFound}
use Rattle.dv_value.specs.Results.{◌>>=◌}
use Rattle.dv_keyed.specs.Index.{IndexForm}
use Rattle.dv_catalog.specs.declared.explained.Explained.{Explained}
use Rattle.dv_catalog.specs.declared.explained.Access.{Access}
use Rattle.dv_catalog.specs.declared.explained.Access.TheVariants.{View, Index, All}
use Rattle.dv_catalog.specs.declared.indexing.IndexCounts.{IndexCounts}
use Rattle.dv_catalog.specs.IndexMaking as making
use Rattle.dv_catalog.specs.State.{Collection, Namespaces, collection_of, indexes_of, is_collection, with_indexes}

abbrev pub way_seen : Access → making.Way
way_seen View = making.over_view
way_seen (Index name) = making.by_index (string_bytes name)
way_seen All = making.over_all

abbrev pub explained_seen : Explained → making.Explained
explained_seen e = record { way = way_seen e.way; documents = e.documents }

-- a collection with the indexes that are made, or their refusal
abbrev pub collection_so : Collection → Result (List IndexForm) Refusal → Result Collection Refusal
collection_so c made = made >>= λ indexes. Ok (record c { indexes = indexes })

-- the same for the collection of a namespace
abbrev pub namespaces_so : List ℕ → Result (List IndexForm) Refusal → Namespaces → Result Namespaces Refusal
namespaces_so namespace made namespaces = made >>= λ indexes. Ok (with_indexes namespace indexes namespaces)

-- the collections after a createIndexes, or its refusal
abbrev pub indexes_created_in : List ℕ → List IndexForm → Namespaces → Result Namespaces Refusal
indexes_created_in namespace entries namespaces = namespaces_so namespace (making.with_all entries (collection_of namespace namespaces)) namespaces

-- the collections after a dropIndexes, or its refusal
abbrev pub indexes_dropped_in : List ℕ → List ℕ → Namespaces → Result Namespaces Refusal
indexes_dropped_in namespace name namespaces =
    if is_collection namespace namespaces then namespaces_so namespace (making.without_named name (indexes_of namespace namespaces)) namespaces else Err NamespaceNotFound

-- how many indexes a namespace had in the old collections, and has in the new ones
abbrev pub index_counts : List ℕ → Namespaces → Namespaces → IndexCounts
index_counts namespace old new = record { before = length (indexes_of namespace old); after = length (indexes_of namespace new) }
