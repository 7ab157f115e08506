-- Batches one after the other, and cursors over whole runs.
use Rattle.std.specs.Prelude.{ℕ, ◌≤◌, ◌⊎◌, ◌++◌, List, [], ◌∷◌, Option, Some, None, length, ◌==◌, ◌&&◌, Bool, if◌then◌else◌}
use Rattle.std.specs.FinMap as finite
use Rattle.dv_value.specs.Tree.{Field}
use Rattle.dv_cursor.specs.Batch.{batch, batch_limit, rows_behind, total_size}
use Rattle.dv_cursor.specs.Cursors.{Cursor, Cursors, free_id, added, advanced, closed, without_session}

abbrev pub Rows : Type 0
Rows = List (List Field)

-- at most `count` rows, and within the limit of bytes if there is more than one
abbrev pub IsWithinBatch : ℕ → Rows → Type 0
IsWithinBatch count rows = (length rows ≤ count) × ((length rows ≤ 1) ⊎ (total_size rows ≤ batch_limit))

-- the rows of batches of at most so many rows, one batch after the other
abbrev pub batches_joined : List ℕ → Rows → Rows
batches_joined [] rows = []
batches_joined (count ∷ counts) rows = batch count rows ++ batches_joined counts (rows_behind count rows)

-- the rows after these batches
abbrev pub behind_all : List ℕ → Rows → Rows
behind_all [] rows = rows
behind_all (count ∷ counts) rows = behind_all counts (rows_behind count rows)

-- what may happen to cursors
pub data Event : Type 0 where
  -- one is added for a session and a namespace, over these rows, if there is room
  add : ℕ → List ℕ → Rows → Event
  -- so many rows of the one of a session under an id are removed
  advance : ℕ → ℕ → ℕ → Event
  -- the one of a session under an id is removed
  close : ℕ → ℕ → Event
  -- a session ends
  end : ℕ → Event

-- the cursors with one more, under this id, if there is an id
abbrev pub added_under : Option ℕ → ℕ → List ℕ → Rows → Cursors → Cursors
added_under None session namespace rows cursors = cursors
added_under (Some id) session namespace rows cursors = added session namespace rows cursors

abbrev pub after_event : Event → Cursors → Cursors
after_event (add session namespace rows) cursors = added_under (free_id cursors) session namespace rows cursors
after_event (advance session id count) cursors = advanced session id count cursors
after_event (close session id) cursors = closed session id cursors
after_event (end session) cursors = without_session session cursors

abbrev pub with_cursor_id : Option ℕ → List ℕ → List ℕ
with_cursor_id None ids = ids
with_cursor_id (Some id) ids = id ∷ ids

-- the id that an event gives
abbrev pub id_given : Event → Cursors → Option ℕ
id_given (add session namespace rows) cursors = free_id cursors
id_given event cursors = None

-- the ids that are given in a run of events
abbrev pub ids_given : List Event → Cursors → List ℕ
ids_given [] cursors = []
ids_given (event ∷ events) cursors = with_cursor_id (id_given event cursors) (ids_given events (after_event event cursors))

-- whether these are the session and the id of a cursor
abbrev pub is_cursor_place : ℕ → ℕ → ℕ → ℕ → Bool
is_cursor_place other number session id = (other == session) && (number == id)

-- the cursor of a session under an id, if there is one
abbrev pub cursor_at : ℕ → ℕ → Cursors → Option Cursor
cursor_at session id cursors = finite.get cursors.kept (session, id)

-- the same, if the cursor of a session under a number was changed to this one
abbrev pub changed_at : ℕ → ℕ → Option Cursor → ℕ → ℕ → Cursors → Option Cursor
changed_at other number changed session id cursors = if is_cursor_place other number session id then changed else cursor_at session id cursors

-- a new cursor over these rows
abbrev pub opened : List ℕ → Rows → Option Cursor
opened namespace rows = Some (record { namespace = namespace; rows = rows })
