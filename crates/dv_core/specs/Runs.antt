-- What the replies of a run say about the rows of a cursor.
use Rattle.std.specs.Prelude.{◌≡◌, ◌≢◌, ◌⊎◌, ℕ, ℤ, pos, negsuc, ◌==◌, ◌&&◌, ◌||◌, not, Bool, true, false, List, [], ◌∷◌, ◌++◌, map, Option, Some, None, Result, Ok, Err, if◌then◌else◌}
use Rattle.dv_value.specs.Tree.{Field}
use Rattle.dv_command.specs.Asked.{Aggregate, Asked, Find, GetMore, get_more, asked_by}
use Rattle.dv_command.specs.Replies.{document_of, first_batch_reply, next_batch_reply}
use Rattle.dv_command.specs.declared.command.Command.{Command}
use Rattle.dv_refusal.specs.declared.refusal.Refusal.{Refusal}
use Rattle.dv_catalog.specs.Marks.{Marks}
use Rattle.dv_catalog.specs.Scan.{scan}
use Rattle.dv_catalog.specs.State.{rows_of}
use Rattle.dv_catalog.specs.State as stored
use Rattle.dv_catalog.specs.Views.{aggregated}
use Rattle.dv_cursor.specs.Batch.{batch, rows_behind}
use Rattle.dv_cursor.specs.Cursors.{rows_to_come}
use Rattle.dv_core.specs.More.{rows_asked, rows_wanted}
use Rattle.dv_core.specs.State.{State, empty_store_state, standing}
use Rattle.dv_core.specs.Step.{Answer, answered, step, end_session}

-- an event of a run: a command of a session is carried out as defined; a session ends; a command runs out of memory and leaves these
-- collections and views; the marks of the views become these
pub data Move : Type 0 where
  carries : ℕ → Command → Move
  ends : ℕ → Move
  wants : stored.State → Move
  stands : Marks → Move

-- the state after an event
abbrev pub state_after_move : Move → State → State
state_after_move (carries session command) state = (step state session command).state
state_after_move (ends session) state = end_session session state
state_after_move (wants catalog) state = record state { catalog = catalog }
state_after_move (stands marks) state = standing marks state

-- ---- one event

-- whether the id in a command is this number
abbrev pub is_cursor_number : ℕ → ℤ → Bool
is_cursor_number id (pos n) = n == id
is_cursor_number id (negsuc n) = false

-- whether a getMore of a session asks for the cursor with this session and id
abbrev pub asks_for : ℕ → ℕ → ℕ → GetMore → Bool
asks_for session id other asked = (other == session) && is_cursor_number id asked.id

-- the next batch of the rows not yet returned, if there is a cursor
abbrev pub next_rows : ℕ → Option (List (List Field)) → List (List Field)
next_rows count None = []
next_rows count (Some rows) = batch (rows_wanted count rows) rows

-- whether there are no rows
abbrev pub is_nil : List (List Field) → Bool
is_nil [] = true
is_nil (row ∷ rows) = false

-- whether the next batch is the last one, so that its reply has the id 0
abbrev pub is_last_batch : ℕ → Option (List (List Field)) → Bool
is_last_batch count None = false
is_last_batch count (Some rows) = is_nil (rows_behind (rows_wanted count rows) rows)

-- the rows that a getMore returns from the cursor with this session and id; none for other commands
abbrev pub asked_rows : ℕ → ℕ → ℕ → Result Asked Refusal → State → List (List Field)
asked_rows session id other (Ok (get_more asked)) state =
    if asks_for session id other asked then next_rows asked.batch_size (rows_asked other asked.namespace asked.id state.cursors) else []
asked_rows session id other asked state = []

-- whether such a getMore returns the last batch
abbrev pub asked_last : ℕ → ℕ → ℕ → Result Asked Refusal → State → Bool
asked_last session id other (Ok (get_more asked)) state =
    asks_for session id other asked && is_last_batch asked.batch_size (rows_asked other asked.namespace asked.id state.cursors)
asked_last session id other asked state = false

-- the rows that the reply to an event returns from the cursor with this session and id, even if the reply is missing
abbrev pub rows_told : ℕ → ℕ → Move → State → List (List Field)
rows_told session id (carries other command) state = asked_rows session id other (asked_by command) state
rows_told session id (ends other) state = []
rows_told session id (wants catalog) state = []
rows_told session id (stands marks) state = []

-- whether that reply says, by the id 0, that no rows are left
abbrev pub tells_last : ℕ → ℕ → Move → State → Bool
tells_last session id (carries other command) state = asked_last session id other (asked_by command) state
tells_last session id (ends other) state = false
tells_last session id (wants catalog) state = false
tells_last session id (stands marks) state = false

-- the command asks more of the cursor of its session with this id, which has rows to come
abbrev pub AsksMore : ℕ → ℕ → Command → GetMore → State → Type 0
AsksMore session id command asked state =
    (asked_by command ≡ Ok (get_more asked)) × (asked.id ≡ pos id)
    × ((rows : List (List Field)) × (rows_to_come session asked.namespace id state.cursors ≡ Some rows))

-- the reply to a getMore with the rows that it returns from the cursor with this session and id; its id is 0 if these are the last
abbrev pub reply_told : ℕ → ℕ → Command → GetMore → State → List Field
reply_told session id command asked state =
    let move = carries session command in
    next_batch_reply asked.namespace (if tells_last session id move state then 0 else id) (map document_of (rows_told session id move state))

-- ---- a run

-- the state after these events
abbrev pub state_behind_all : List Move → State → State
state_behind_all [] state = state
state_behind_all (move ∷ moves) state = state_behind_all moves (state_after_move move state)

-- the state after these events, from an empty store on
abbrev pub state_of_run : List Move → State
state_of_run moves = state_behind_all moves empty_store_state

-- an event leads to the new state, once the marks of its views have become those of the new state
abbrev pub LeadsTo : Move → State → State → Type 0
LeadsTo move old new = new ≡ state_behind_all (move ∷ stands new.marks ∷ []) old

-- some command that ran out of memory leads to the new state
abbrev pub WantLeadsTo : State → State → Type 0
WantLeadsTo old new = (catalog : stored.State) × LeadsTo (wants catalog) old new

-- the rows that the replies to these events return from the cursor
abbrev pub all_told : ℕ → ℕ → List Move → State → List (List Field)
all_told session id [] state = []
all_told session id (move ∷ moves) state = rows_told session id move state ++ all_told session id moves (state_after_move move state)

-- whether one of these replies says that no rows are left
abbrev pub is_told_out : ℕ → ℕ → List Move → State → Bool
is_told_out session id [] state = false
is_told_out session id (move ∷ moves) state = tells_last session id move state || is_told_out session id moves (state_after_move move state)

-- the first batch and the rows returned after it are a prefix of the rows; they are all rows once a reply has said that none are left
pub record BatchesAreFront (count : ℕ) (rows told : List (List Field)) (out : Bool) : Type 0 where
  pub rest : List (List Field)
  pub front : (batch count rows ++ told) ++ rest ≡ rows
  pub whole : out ≡ true → rest ≡ []

-- What the reply to a find or an aggregate over these rows, and later events, say about the rows. The reply has the first batch and an
-- id. The id 0 says that no rows are left, or that the batch was to be the only one; with another id the rows of the cursor follow in
-- later replies.
pub record IsToldOf (session : ℕ) (namespace : List ℕ) (count : ℕ) (single : Bool) (rows : List (List Field)) (reply : List Field) (state : State) : Type 0 where
  pub id : ℕ
  pub first : reply ≡ first_batch_reply namespace id (map document_of (batch count rows))
  pub none : id ≡ 0 → BatchesAreFront count rows [] (not single)
  pub later : id ≢ 0 → (moves : List Move) → BatchesAreFront count rows (all_told session id moves state) (is_told_out session id moves state)

-- the answer to a find or an aggregate over these rows: it is refused, or returns them in this way
abbrev pub Shows : ℕ → List ℕ → ℕ → Bool → List (List Field) → State → Answer → Type 0
Shows session namespace count single rows state answer =
    ((refusal : Refusal) × (answer ≡ answered state (Err refusal))) ⊎ IsToldOf session namespace count single rows answer.reply answer.state

-- the answer to a find of a session: it is refused, or returns the documents that the find asks for
abbrev pub ShowsFound : Find → State → ℕ → Answer → Type 0
ShowsFound asked state session answer =
    Shows session asked.namespace asked.batch_size asked.single_batch
    (scan asked.filter asked.sort asked.skip asked.limit (rows_of asked.namespace state.catalog)) state answer

-- the answer to an aggregate of a session: it is refused, or returns the rows of the pipeline
abbrev pub ShowsAggregated : Aggregate → State → ℕ → Answer → Type 0
ShowsAggregated asked state session answer =
    Shows session asked.namespace asked.batch_size false (aggregated asked.stages asked.namespace state.catalog) state answer
