-- The replies to commands on indexes (MongoDB manual, "createIndexes", "dropIndexes", "explain": their output).
use Rattle.std.specs.Prelude.{ℕ, List, map, length, Option, Some, None, Result, Ok, codes}
use Rattle.dv_value.specs.Tree.{Field}
use Rattle.dv_refusal.specs.declared.refusal.Refusal.{Refusal}
use Rattle.dv_value.specs.Results.{◌>>=◌}
use Rattle.dv_command.specs.Asked.{CreateIndexes, DropIndexes, Explain}
use Rattle.dv_command.specs.Entries.{IndexAsked}
use Rattle.dv_command.specs.Replies.{create_indexes_reply, drop_indexes_reply, explain_reply}
use Rattle.dv_keyed.specs.Index.{IndexForm}
use Rattle.dv_catalog.specs.IndexMaking.{Explained, Way, over_view, by_index, over_all, explained, indexes_created, indexes_dropped}
use Rattle.dv_catalog.specs.State.{State, indexes_of}

-- the index that an entry of a createIndexes asks for
abbrev pub form_asked : IndexAsked → IndexForm
form_asked x = record { name = x.name; path = x.path; unique = x.unique }

-- the number of indexes of a namespace
abbrev pub index_count : List ℕ → State → ℕ
index_count namespace state = length (indexes_of namespace state.namespaces)

-- the reply to a createIndexes, and the state after it
abbrev pub indexed : CreateIndexes → State → Result (List Field × State) Refusal
indexed asked state =
    indexes_created asked.namespace (map form_asked asked.indexes) state >>= λ made.
    Ok (create_indexes_reply (index_count asked.namespace state) (index_count asked.namespace made), made)

-- the reply to a dropIndexes, and the state after it
abbrev pub unindexed : DropIndexes → State → Result (List Field × State) Refusal
unindexed asked state =
    indexes_dropped asked.namespace asked.index state >>= λ left.
    Ok (drop_indexes_reply (index_count asked.namespace state), left)

-- the field `stage` of an explain's reply
abbrev pub way_stage : Way → List ℕ
way_stage over_view = codes "VIEW"
way_stage (by_index name) = codes "IXSCAN"
way_stage over_all = codes "COLLSCAN"

-- the index of an explain's reply, if there is one
abbrev pub index_name : Way → Option (List ℕ)
index_name over_view = None
index_name (by_index name) = Some name
index_name over_all = None

-- the reply with this report
abbrev pub explained_reply : Explained → List Field
explained_reply told = explain_reply (way_stage told.way) (index_name told.way) told.documents

-- the reply to an explain: how its find reads the documents
abbrev pub find_explained : Explain → State → List Field
find_explained asked state = explained_reply (explained asked.find.namespace asked.find.filter state)
