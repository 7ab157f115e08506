-- A step without regard to the marks of views.
use Rattle.std.proofs.Common.{◌≡◌, ◌⊎◌, ℕ, false, Option, Some, None, Result, Ok, Err, inl, inr}
use Rattle.dv_catalog.specs.Marks.{Marks}
use Rattle.dv_catalog.specs.State.{is_view}
use Rattle.dv_command.specs.Asked.{Asked, asked_by}
use Rattle.dv_command.specs.declared.command.Command.{Command}
use Rattle.dv_refusal.specs.declared.refusal.Refusal.{Refusal}
use Rattle.dv_refusal.specs.declared.refusal.Refusal.TheVariants.{WantOfMemory}
use Rattle.dv_core.specs.declared.outcome.Outcome.{Outcome}
use Rattle.dv_core.specs.declared.outcome.Outcome.TheVariants.{Reply, Wanting, NoReply}
use Rattle.dv_core.specs.State.{State, standing}
use Rattle.dv_core.specs.Statements.{WriteSteps, Written, IsCutWrite}
use Rattle.dv_core.specs.Step.{Answer, Cut, MemoryStep, Wants, WriteCut, answered, step, write_answer, asked_write}

abbrev pub BareWriteCut : State → Option WriteSteps → Answer → Type 0
BareWriteCut old None answer = ⊥
BareWriteCut old (Some write) answer =
    (is_view write.namespace old.catalog.views ≡ false) × ((left : Written) × IsCutWrite write old.catalog.namespaces left × (answer ≡ write_answer old write left))

abbrev pub BareCut : State → Result Asked Refusal → Answer → Type 0
BareCut old (Ok asked) answer = BareWriteCut old (asked_write asked) answer
BareCut old (Err refusal) answer = ⊥

abbrev pub BareWants : State → Command → Answer → Type 0
BareWants old command answer = (answer ≡ answered old (Err WantOfMemory)) ⊎ BareCut old (asked_by command) answer

abbrev pub BareStep : State → ℕ → Command → Outcome → State → Type 0
BareStep old session command (Reply reply) new = step old session command ≡ record { reply = reply; state = new }
BareStep old session command (Wanting reply) new = BareWants old command (record { reply = reply; state = new })
BareStep old session command NoReply new = (new ≡ (step old session command).state) ⊎ ((answer : Answer) × BareWants old command answer × (new ≡ answer.state))

bare_write : (old : State) (write : Option WriteSteps) (answer : Answer) (marks : Marks) → WriteCut old write answer marks → BareWriteCut old write answer
bare_write old None answer marks cut = cut
bare_write old (Some write) answer marks (on, (left, is_cut, answers, marked)) = (on, (left, is_cut, answers))

pub bare_cut : (old : State) (asked : Result Asked Refusal) (answer : Answer) (marks : Marks) → Cut old asked answer marks → BareCut old asked answer
bare_cut old (Ok asked) answer marks cut = bare_write old (asked_write asked) answer marks cut
bare_cut old (Err refusal) answer marks cut = cut

pub bare_wants : (old : State) (command : Command) (answer : Answer) (marks : Marks) → Wants old command answer marks → BareWants old command answer
bare_wants old command answer marks (inl (refused, left)) = inl refused
bare_wants old command answer marks (inr cut) = inr (bare_cut old (asked_by command) answer marks cut)

-- each step is one, if the new state is given the old marks
pub bare : (old new : State) (session : ℕ) (command : Command) (outcome : Outcome) → MemoryStep old session command outcome new → BareStep old session command outcome (standing old.marks new)
bare old new session command (Reply reply) (is, marked) = is
bare old new session command (Wanting reply) wants = bare_wants old command (record { reply = reply; state = standing old.marks new }) new.marks wants
bare old new session command NoReply (inl (is, marked)) = inl is
bare old new session command NoReply (inr (answer, wants, is)) = inr (answer, bare_wants old command answer new.marks wants, is)
