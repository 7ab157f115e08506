-- The replies to commands on cursors (MongoDB manual, "getMore", "killCursors").
use Rattle.std.specs.Prelude.{ℕ, ℤ, pos, negsuc, ◌==◌, Bool, List, [], ◌∷◌, length, map, is_some, Option, Some, None, Result, Ok, Err, if◌then◌else◌}
use Rattle.dv_value.specs.Tree.{Tree, int64, Field}
use Rattle.dv_cursor.specs.Batch.{batch, rows_behind}
use Rattle.dv_cursor.specs.Cursors.{Cursors, rows_to_come, advanced, closed}
use Rattle.dv_refusal.specs.declared.refusal.Refusal.{Refusal}
use Rattle.dv_refusal.specs.declared.refusal.Refusal.TheVariants.{CursorNotFound}
use Rattle.dv_command.specs.Asked.{GetMore, KillCursors}
use Rattle.dv_command.specs.Replies.{document_of, next_batch_reply, kill_cursors_reply}

-- the rows not yet returned by the cursor with this session, namespace and id, if there is one; no cursor has a negative id
abbrev pub rows_asked : ℕ → List ℕ → ℤ → Cursors → Option (List (List Field))
rows_asked session namespace (pos id) cursors = rows_to_come session namespace id cursors
rows_asked session namespace (negsuc n) cursors = None

-- the id as a natural number
abbrev pub cursor_number : ℤ → ℕ
cursor_number (pos id) = id
cursor_number (negsuc n) = 0

-- ---- getMore

-- the wanted number of rows; 0 means as many as fit in a reply
abbrev pub rows_wanted : ℕ → List (List Field) → ℕ
rows_wanted count rows = if count == 0 then length rows else count

-- the id in the reply: 0 if no rows are left after the batch
abbrev pub id_behind : ℕ → List (List Field) → ℕ
id_behind id [] = 0
id_behind id (row ∷ rows) = id

-- the reply with the next batch and the cursors after it; refused with 43 if there is no such cursor
abbrev pub next_of : ℕ → List ℕ → ℕ → ℕ → Option (List (List Field)) → Cursors → Result (List Field × Cursors) Refusal
next_of session namespace id count None cursors = Err CursorNotFound
next_of session namespace id count (Some rows) cursors =
    Ok (next_batch_reply namespace (id_behind id (rows_behind (rows_wanted count rows) rows)) (map document_of (batch (rows_wanted count rows) rows)), advanced session id (length (batch (rows_wanted count rows) rows)) cursors)

-- the reply to a getMore, and the cursors after it
abbrev pub next_batch : ℕ → GetMore → Cursors → Result (List Field × Cursors) Refusal
next_batch session asked cursors = next_of session asked.namespace (cursor_number asked.id) asked.batch_size (rows_asked session asked.namespace asked.id cursors) cursors

-- ---- killCursors

-- the cursors without the one with this id, if it exists
abbrev pub without_cursor : ℕ → List ℕ → ℤ → Cursors → Cursors
without_cursor session namespace id cursors = if is_some (rows_asked session namespace id cursors) then closed session (cursor_number id) cursors else cursors

-- whether there is a cursor with each of these ids, closed one after the other
abbrev pub went_each : ℕ → List ℕ → List ℤ → Cursors → List Bool
went_each session namespace [] cursors = []
went_each session namespace (id ∷ ids) cursors = is_some (rows_asked session namespace id cursors) ∷ went_each session namespace ids (without_cursor session namespace id cursors)

-- the cursors without those with these ids
abbrev pub without_cursors : ℕ → List ℕ → List ℤ → Cursors → Cursors
without_cursors session namespace [] cursors = cursors
without_cursors session namespace (id ∷ ids) cursors = without_cursors session namespace ids (without_cursor session namespace id cursors)

-- the ids of the closed cursors, in order
abbrev pub gone_ids : List ℤ → List Bool → List Tree
gone_ids (id ∷ ids) (went ∷ others) = if went then int64 id ∷ gone_ids ids others else gone_ids ids others
gone_ids ids others = []

-- the ids of which there was no cursor, in order
abbrev pub missing_ids : List ℤ → List Bool → List Tree
missing_ids (id ∷ ids) (went ∷ others) = if went then missing_ids ids others else int64 id ∷ missing_ids ids others
missing_ids ids others = []

-- the reply to a killCursors, and the cursors after it
abbrev pub killed : ℕ → KillCursors → Cursors → List Field × Cursors
killed session asked cursors =
    let went = went_each session asked.namespace asked.ids cursors in
    (kill_cursors_reply (gone_ids asked.ids went) (missing_ids asked.ids went), without_cursors session asked.namespace asked.ids cursors)
