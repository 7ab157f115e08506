-- The reference machine: the reply to each command, and the state after it. The marks of the views are defined separately, in `Marks`.
use Rattle.std.specs.Prelude.{◌≡◌, ℕ, ◌⊎◌, Bool, true, false, List, [], Option, Some, None, Result, Ok, Err, if◌then◌else◌}
use Rattle.dv_value.specs.Tree.{Field}
use Rattle.dv_command.specs.declared.command.Command.{Command}
use Rattle.dv_refusal.specs.declared.refusal.Refusal.{Refusal}
use Rattle.dv_refusal.specs.declared.refusal.Refusal.TheVariants.{OnView, WantOfMemory}
use Rattle.dv_command.specs.Asked.{Asked, hello, ping, find, aggregate, get_more, kill_cursors, create, drop, create_indexes, drop_indexes, explain, view_stats, asked_by}
use Rattle.dv_command.specs.Asked as asking
use Rattle.dv_value.specs.Results.{◌>>=◌}
use Rattle.dv_command.specs.Replies.{reply_of, hello_reply, drop_reply, refusal_reply}
use Rattle.dv_core.specs.declared.outcome.Outcome.{Outcome}
use Rattle.dv_core.specs.declared.outcome.Outcome.TheVariants.{Reply, Wanting, NoReply}
use Rattle.dv_catalog.specs.Marks.{Marks}
use Rattle.dv_catalog.specs.State.{is_view}
use Rattle.dv_catalog.specs.State as stored
use Rattle.dv_catalog.specs.Views.{created, dropped}
use Rattle.dv_core.specs.Statements.{WriteSteps, Written, carry_out, IsCutWrite}
use Rattle.dv_core.specs.Writes.{write_by}
use Rattle.dv_core.specs.Find.{reply_to_find, reply_to_aggregate}
use Rattle.dv_core.specs.Indexes.{find_explained, indexed, unindexed}
use Rattle.dv_core.specs.Marks.{AreMarkedAll, AreMarkedByCut, AreMarkedForWant, marks_behind_all}
use Rattle.dv_core.specs.More.{killed, next_batch}
use Rattle.dv_core.specs.State.{State, marked, standing}
use Rattle.dv_core.specs.Stats.{view_told}
use Rattle.dv_cursor.specs.Cursors.{Cursors, without_session}

-- the reply to a command, and the state after it
pub record Answer : Type 0 where
  pub reply : List Field
  pub state : State

-- ---- the commands: each returns a reply and a state, or a refusal

-- what there is to do for a command, which may be refused
pub data Task : Type 0 where
  -- to give this reply, and to change nothing
  telling : Result (List Field) Refusal → Task
  -- to write documents
  writing : WriteSteps → Task
  -- to open, advance or close cursors: a reply, and the cursors after it
  moving : Result (List Field × Cursors) Refusal → Task
  -- to create or drop collections, views or indexes: a reply, and the collections and views after it
  making : Result (List Field × stored.State) Refusal → Task

-- this reply with a result, or its refusal
abbrev pub replying : {S : Type 0} → List Field → Result S Refusal → Result (List Field × S) Refusal
replying reply made = made >>= λ left. Ok (reply, left)

-- what there is to do for a parsed command of a session
abbrev pub task_of : State → ℕ → Asked → Task
task_of state session hello = telling (Ok hello_reply)
task_of state session ping = telling (Ok (reply_of []))
task_of state session (asking.write asked) = writing (write_by asked)
task_of state session (find asked) = moving (reply_to_find session asked state.catalog state.cursors)
task_of state session (aggregate asked) = moving (reply_to_aggregate session asked state.catalog state.cursors)
task_of state session (get_more asked) = moving (next_batch session asked state.cursors)
task_of state session (kill_cursors asked) = moving (Ok (killed session asked state.cursors))
task_of state session (create asked) = making (replying (reply_of []) (created asked.namespace asked.view state.catalog))
task_of state session (drop asked) = making (replying (drop_reply asked.namespace) (dropped asked.namespace state.catalog))
task_of state session (create_indexes asked) = making (indexed asked state.catalog)
task_of state session (drop_indexes asked) = making (unindexed asked state.catalog)
task_of state session (explain asked) = telling (Ok (find_explained asked state.catalog))
task_of state session (view_stats asked) = telling (view_told asked (marked state))

-- the answer to a command that changes nothing
abbrev pub read_answer : State → Result (List Field) Refusal → Result Answer Refusal
read_answer state result = result >>= λ reply. Ok (record { reply = reply; state = state })

-- the answer to a write whose statements have done this
abbrev pub write_answer : State → WriteSteps → Written → Answer
write_answer old write did =
    record { reply = write.reply did.n did.changed did.errors; state = record old { catalog = record old.catalog { namespaces = did.namespaces } } }

-- the answer to a write; one to a view is refused with 902
abbrev pub carried_out : State → WriteSteps → Result Answer Refusal
carried_out state write =
    if is_view write.namespace state.catalog.views then Err OnView else Ok (write_answer state write (carry_out write state.catalog.namespaces))

-- the answer to a command that changes cursors
abbrev pub on_cursors : State → Result (List Field × Cursors) Refusal → Result Answer Refusal
on_cursors state result = result >>= λ told. Ok (record { reply = told.0; state = record state { cursors = told.1 } })

-- the answer to a command that changes collections or views
abbrev pub on_catalog : State → Result (List Field × stored.State) Refusal → Result Answer Refusal
on_catalog state result = result >>= λ told. Ok (record { reply = told.0; state = record state { catalog = told.1 } })

-- the answer to a command for which this is to do
abbrev pub answer_of : State → Task → Result Answer Refusal
answer_of state (telling result) = read_answer state result
answer_of state (writing write) = carried_out state write
answer_of state (moving result) = on_cursors state result
answer_of state (making result) = on_catalog state result

-- the answer to a parsed command of a session
abbrev pub answer_to : State → ℕ → Asked → Result Answer Refusal
answer_to state session asked = answer_of state (task_of state session asked)

-- the answer to a command; a refused one leaves the state unchanged
abbrev pub answered : State → Result Answer Refusal → Answer
answered state (Ok answer) = answer
answered state (Err refusal) = record { reply = refusal_reply refusal; state = state }

-- one step: the reply to a command of a session, and the state after it
abbrev pub step : State → ℕ → Command → Answer
step state session command = answered state (asked_by command >>= answer_to state session)

-- ---- running out of memory

-- the write of a command, if it is one
abbrev pub asked_write : Asked → Option WriteSteps
asked_write (asking.write asked) = Some (write_by asked)
asked_write asked = None

-- whether a command creates or drops collections, views or indexes
abbrev pub makes : Asked → Bool
makes (create asked) = true
makes (drop asked) = true
makes (create_indexes asked) = true
makes (drop_indexes asked) = true
makes asked = false

-- whether a command creates or drops indexes
abbrev pub indexes : Asked → Bool
indexes (create_indexes asked) = true
indexes (drop_indexes asked) = true
indexes asked = false

-- whether a command opens, advances or closes cursors
abbrev pub moves : Asked → Bool
moves (find asked) = true
moves (aggregate asked) = true
moves (get_more asked) = true
moves (kill_cursors asked) = true
moves asked = false

-- the answers and marks of a write that runs out of memory in one of its statements; a write to a view isn't carried out
abbrev pub WriteCut : State → Option WriteSteps → Answer → Marks → Type 0
WriteCut old None answer marks = ⊥
WriteCut old (Some write) answer marks =
    (is_view write.namespace old.catalog.views ≡ false)
    × ((left : Written) × (cut : IsCutWrite write old.catalog.namespaces left) × (answer ≡ write_answer old write left)
    × AreMarkedByCut write.namespace write.ordered old.catalog.views write.statements old.catalog.namespaces left cut old.marks marks)

-- the answers and marks of a write that runs out of memory in one of its statements; a command that is refused when it is parsed has
-- none
abbrev pub Cut : State → Result Asked Refusal → Answer → Marks → Type 0
Cut old (Ok asked) answer marks = WriteCut old (asked_write asked) answer marks
Cut old (Err refusal) answer marks = ⊥

-- the answers and marks of a command that runs out of memory: it is refused with 900 and changes nothing, or it is a write that ends in
-- one of its statements
abbrev pub Wants : State → Command → Answer → Marks → Type 0
Wants old command answer marks = ((answer ≡ answered old (Err WantOfMemory)) × AreMarkedForWant old (asked_by command) marks) ⊎ Cut old (asked_by command) answer marks

-- What a command of a session may lead to, and the state after it. With `Reply` it is the defined step. With `Wanting` the reply
-- reports that memory ran out. With `NoReply` memory ran out for the reply itself, after either of these. The marks are stated
-- separately, since views may become stale.
abbrev pub MemoryStep : State → ℕ → Command → Outcome → State → Type 0
MemoryStep old session command (Reply reply) new =
    (step old session command ≡ record { reply = reply; state = standing old.marks new }) × AreMarkedAll old (asked_by command) new.marks
MemoryStep old session command (Wanting reply) new = Wants old command (record { reply = reply; state = standing old.marks new }) new.marks
MemoryStep old session command NoReply new =
    ((standing old.marks new ≡ (step old session command).state) × AreMarkedAll old (asked_by command) new.marks)
    ⊎ ((answer : Answer) × Wants old command answer new.marks × (standing old.marks new ≡ answer.state))

-- the step if memory never runs out: live views count all of its work
abbrev pub counted_step : State → ℕ → Command → Answer
counted_step state session command =
    let answer = step state session command in
    record { reply = answer.reply; state = standing (marks_behind_all state (asked_by command)) answer.state }

-- whether an outcome reports that memory ran out, also by a missing reply
abbrev pub TellsOfWant : Outcome → Type 0
TellsOfWant (Reply reply) = ⊥
TellsOfWant (Wanting reply) = Unit {0}
TellsOfWant NoReply = Unit {0}

-- nothing has changed, except that some of the stale views that the command needs may have been recomputed
abbrev pub IsLeft : State → Result Asked Refusal → State → Type 0
IsLeft old asked new = (new.catalog ≡ old.catalog) × (new.cursors ≡ old.cursors) × AreMarkedForWant old asked new.marks

-- ---- the end of a session

-- the state after the end of a session: its cursors are closed
abbrev pub end_session : ℕ → State → State
end_session session state = record state { cursors = without_session session state.cursors }
