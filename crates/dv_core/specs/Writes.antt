-- Inserts, updates and deletes (MongoDB manual, "insert", "update", "delete"): what each does for one entry, and its reply.
use Rattle.std.specs.Prelude.{ℕ, List, map}
use Rattle.dv_value.specs.Tree.{Tree, Field}
use Rattle.dv_catalog.specs.Changes.{Statement}
use Rattle.dv_catalog.specs.Effects.{put_new, update_chosen, delete_chosen}
use Rattle.dv_command.specs.Asked as asking
use Rattle.dv_command.specs.Entries.{updating_of, deletion_of}
use Rattle.dv_command.specs.Replies.{write_reply, update_reply}
use Rattle.dv_command.specs.declared.asking.WriteKind.{WriteKind}
use Rattle.dv_command.specs.declared.asking.WriteKind.TheVariants.{Insert, Update, Delete}
use Rattle.dv_value.specs.Results.{◌>>=◌}
use Rattle.dv_core.specs.Storable.{storable}
use Rattle.dv_core.specs.Statements.{WriteSteps}

-- the statement of an insert: a document, which is made storable first
abbrev pub insert_one : List Field → Statement
insert_one d documents = storable d >>= λ stored. put_new stored documents

-- the statement of an update: an entry, which is parsed first
abbrev pub update_one : List Field → Statement
update_one entry documents = updating_of entry >>= λ updating. update_chosen updating documents

-- the statement of a delete: an entry, which is parsed first
abbrev pub delete_one : List Field → Statement
delete_one entry documents = deletion_of entry >>= λ deletion. delete_chosen deletion documents

-- the statement of an entry
abbrev pub statement_of : WriteKind → List Field → Statement
statement_of Insert = insert_one
statement_of Update = update_one
statement_of Delete = delete_one

-- the reply of a write; that of an update also has the number of changed documents
abbrev pub reply_by : WriteKind → ℕ → ℕ → List Tree → List Field
reply_by Insert n changed errors = write_reply n errors
reply_by Update n changed errors = update_reply n changed errors
reply_by Delete n changed errors = write_reply n errors

-- a write from the parsed command: each entry is a statement
abbrev pub write_by : asking.Write → WriteSteps
write_by asked = record { namespace = asked.namespace; ordered = asked.ordered; statements = map (statement_of asked.kind) asked.entries; reply = reply_by asked.kind }
