-- The replies to a find and an aggregate (MongoDB manual, "find", "aggregate": their output, `batchSize`, `singleBatch`). Which rows
-- can't be returned is this server's own.
use Rattle.std.specs.Prelude.{◌≡◌, ℕ, not, Bool, false, List, [], ◌∷◌, map, Option, Some, None, Result, Ok, Err, if◌then◌else◌}
use Rattle.std.specs.List.{list_all}
use Rattle.dv_value.specs.Tree.{Field}
use Rattle.dv_cursor.specs.Batch.{batch, rows_behind}
use Rattle.dv_cursor.specs.Cursors.{Cursors, added, free_id}
use Rattle.dv_refusal.specs.declared.refusal.Refusal.{Refusal}
use Rattle.dv_refusal.specs.declared.refusal.Refusal.TheVariants.{LimitReached, TooLarge}
use Rattle.dv_value.specs.Results.{◌>>=◌}
use Rattle.dv_command.specs.Asked.{Aggregate, Find}
use Rattle.dv_command.specs.Replies.{document_of, first_batch_reply}
use Rattle.dv_catalog.specs.Scan.{scan}
use Rattle.dv_catalog.specs.State.{State, rows_of}
use Rattle.dv_catalog.specs.Views.{aggregated}
use Rattle.dv_core.specs.Storable.{is_within_limits}

-- whether one of the rows is over the limits for documents
abbrev pub has_too_large : List (List Field) → Bool
has_too_large rows = not (list_all is_within_limits rows)

-- the rows that a cursor keeps after a first batch; none if that is the only batch
abbrev pub kept_by_cursor : ℕ → Bool → List (List Field) → List (List Field)
kept_by_cursor count single rows = if single then [] else rows_behind count rows

-- the id of a new cursor over these rows, and the cursors with it; refused with 903 if there is no id
abbrev pub kept_under : Option ℕ → ℕ → List ℕ → List (List Field) → Cursors → Result (ℕ × Cursors) Refusal
kept_under None session namespace rows cursors = Err LimitReached
kept_under (Some id) session namespace rows cursors = Ok (id, added session namespace rows cursors)

-- the id of a new cursor over these rows, and the cursors with it; without rows there is no new cursor, and the id is 0
abbrev pub kept : ℕ → List ℕ → List (List Field) → Cursors → Result (ℕ × Cursors) Refusal
kept session namespace [] cursors = Ok (0, cursors)
kept session namespace (row ∷ rows) cursors = kept_under (free_id cursors) session namespace (row ∷ rows) cursors

-- the reply with the first batch; refused with 901 if one of the rows is over the limits
abbrev pub replied : List ℕ → ℕ → List (List Field) → ℕ × Cursors → Result (List Field × Cursors) Refusal
replied namespace count rows told =
    if has_too_large rows then Err TooLarge else Ok (first_batch_reply namespace told.0 (map document_of (batch count rows)), told.1)

-- the reply with the first batch of these rows, and the cursors with a new one that keeps the others
abbrev pub first_batch : ℕ → List ℕ → ℕ → Bool → List (List Field) → Cursors → Result (List Field × Cursors) Refusal
first_batch session namespace count single rows cursors = kept session namespace (kept_by_cursor count single rows) cursors >>= replied namespace count rows

-- the first batch of these rows is refused so, whatever its session and its namespace are
abbrev pub FirstIsRefused : Refusal → ℕ → Bool → List (List Field) → Cursors → Type 0
FirstIsRefused refusal count single rows cursors =
    (session : ℕ) (namespace : List ℕ) → first_batch session namespace count single rows cursors ≡ Err refusal

-- the reply to a find, and the cursors after it
abbrev pub reply_to_find : ℕ → Find → State → Cursors → Result (List Field × Cursors) Refusal
reply_to_find session asked state cursors =
    first_batch session asked.namespace asked.batch_size asked.single_batch (scan asked.filter asked.sort asked.skip asked.limit (rows_of asked.namespace state)) cursors

-- the reply to an aggregate, and the cursors after it
abbrev pub reply_to_aggregate : ℕ → Aggregate → State → Cursors → Result (List Field × Cursors) Refusal
reply_to_aggregate session asked state cursors =
    first_batch session asked.namespace asked.batch_size false (aggregated asked.stages asked.namespace state) cursors
