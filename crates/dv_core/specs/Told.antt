-- The result of a command before its reply is built: a batch of rows, or an outcome.
use Rattle.std.specs.Prelude.{◌<◌, ◌^◌, Bool, true, false, List, ℕ, codes, map, ⊤}
use Rattle.std.specs.String.{string_bytes}
use Rattle.dv_value.specs.Tree.{Field}
use Rattle.dv_command.specs.Replies.{batch_reply, document_of}
use Rattle.dv_core.specs.declared.outcome.Batch.{Batch}
use Rattle.dv_core.specs.declared.outcome.Outcome.{Outcome}
use Rattle.dv_core.specs.declared.outcome.Outcome.TheVariants.{Reply}
use Rattle.dv_core.specs.declared.outcome.Told.{Told}
use Rattle.dv_core.specs.declared.outcome.Told.TheVariants as tells

-- the name of the rows in a reply: `firstBatch` or `nextBatch`
abbrev pub batch_name : Bool → List ℕ
batch_name true = codes "firstBatch"
batch_name false = codes "nextBatch"

-- the reply with a batch: that of `first_batch_reply` or `next_batch_reply`
abbrev pub batch_told : Batch → List Field
batch_told batch = batch_reply (batch_name batch.is_first) (string_bytes batch.namespace) batch.id (map document_of batch.rows.items)

-- the outcome that the result represents
abbrev pub outcome_told : Told → Outcome
outcome_told (tells.Batch batch) = Reply (batch_told batch)
outcome_told (tells.Outcome outcome) = outcome

-- the id of a batch fits in an int64
abbrev pub HasLongId : Told → Type 0
HasLongId (tells.Batch batch) = batch.id < 2 ^ 63
HasLongId (tells.Outcome outcome) = ⊤
