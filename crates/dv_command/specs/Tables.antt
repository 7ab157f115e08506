-- Which fields commands and their entries accept (MongoDB manual, "insert", "update", "delete", "find", "aggregate", "getMore",
-- "killCursors", "create", "drop", "createIndexes", "dropIndexes", "explain"). The choice among the manual's fields, and the command
-- viewStats, are this server's own.
use Rattle.std.specs.Prelude.{ℕ, List, [], ◌∷◌, codes}
use Rattle.dv_command.specs.Kinds.{Kind}
use Rattle.dv_command.specs.Kinds as kinds
use Rattle.dv_command.specs.Fields.{Table}

-- the field `$db`, whose value is checked separately, before all other fields
abbrev pub database_field : List ℕ × Kind
database_field = (codes "$db", kinds.anything)

-- the fields of an insert, update or delete, by the names of the command and of its list
abbrev pub write_table : List ℕ → List ℕ → Table
write_table command list = database_field ∷ (command, kinds.text) ∷ (list, kinds.documents) ∷ (codes "ordered", kinds.boolean) ∷ []

-- the fields of a find, alone or in an explain
abbrev pub find_fields : Table
find_fields =
    (codes "find", kinds.text) ∷ (codes "filter", kinds.document) ∷ (codes "sort", kinds.document) ∷ (codes "skip", kinds.natural) ∷ (codes "limit", kinds.natural)
    ∷ (codes "batchSize", kinds.natural) ∷ (codes "singleBatch", kinds.boolean) ∷ (codes "projection", kinds.empty_document) ∷ []

abbrev pub find_table : Table
find_table = database_field ∷ find_fields

-- the fields of an explain; the command that it explains is checked separately
abbrev pub explain_table : Table
explain_table = database_field ∷ (codes "explain", kinds.anything) ∷ (codes "verbosity", kinds.anything) ∷ []

abbrev pub aggregate_table : Table
aggregate_table =
    database_field ∷ (codes "aggregate", kinds.text) ∷ (codes "pipeline", kinds.array) ∷ (codes "cursor", kinds.cursor) ∷ (codes "allowDiskUse", kinds.anything) ∷ []

abbrev pub get_more_table : Table
get_more_table = database_field ∷ (codes "getMore", kinds.integer) ∷ (codes "collection", kinds.text) ∷ (codes "batchSize", kinds.natural) ∷ []

abbrev pub kill_cursors_table : Table
kill_cursors_table = database_field ∷ (codes "killCursors", kinds.text) ∷ (codes "cursors", kinds.integers) ∷ []

abbrev pub create_table : Table
create_table = database_field ∷ (codes "create", kinds.text) ∷ (codes "viewOn", kinds.text) ∷ (codes "pipeline", kinds.array) ∷ []

abbrev pub drop_table : Table
drop_table = database_field ∷ (codes "drop", kinds.text) ∷ []

abbrev pub create_indexes_table : Table
create_indexes_table = database_field ∷ (codes "createIndexes", kinds.text) ∷ (codes "indexes", kinds.documents) ∷ []

abbrev pub drop_indexes_table : Table
drop_indexes_table = database_field ∷ (codes "dropIndexes", kinds.text) ∷ (codes "index", kinds.text) ∷ []

abbrev pub view_stats_table : Table
view_stats_table = database_field ∷ (codes "viewStats", kinds.text) ∷ []

-- the fields of an entry of a delete
abbrev pub deletion_table : Table
deletion_table = (codes "q", kinds.document) ∷ (codes "limit", kinds.how_many) ∷ []

-- the fields of an entry of an update
abbrev pub updating_table : Table
updating_table = (codes "q", kinds.document) ∷ (codes "u", kinds.update) ∷ (codes "multi", kinds.boolean) ∷ (codes "upsert", kinds.only_false) ∷ []

-- the fields of an entry of a createIndexes
abbrev pub index_table : Table
index_table = (codes "key", kinds.single) ∷ (codes "name", kinds.text) ∷ (codes "v", kinds.anything) ∷ (codes "unique", kinds.boolean) ∷ []
