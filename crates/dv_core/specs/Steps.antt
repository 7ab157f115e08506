-- What all steps of a command have in common: what they keep, and how the command is answered, in whichever session.
use Rattle.std.specs.Prelude.{◌≡◌, ℕ, false, List, [], ◌∷◌, Some, Result, Ok, Err, codes, pos}
use Rattle.dv_value.specs.Names.{value_under}
use Rattle.dv_value.specs.Tree.{Field, int32}
use Rattle.dv_command.specs.Asked.{Asked, Write, asked_by}
use Rattle.dv_command.specs.Asked as asking
use Rattle.dv_command.specs.Replies.{document_of, write_error, write_reply}
use Rattle.dv_command.specs.declared.asking.WriteKind.TheVariants.{Insert}
use Rattle.dv_command.specs.declared.command.Command.{Command}
use Rattle.dv_refusal.specs.declared.refusal.Refusal.{Refusal}
use Rattle.dv_catalog.specs.State.{is_view}
use Rattle.dv_core.specs.Load.{insert_alone}
use Rattle.dv_core.specs.State.{HasSameDocuments, State}
use Rattle.dv_core.specs.Step.{Answer, IsLeft, MemoryStep, answered, step}
use Rattle.dv_core.specs.declared.outcome.Outcome.{Outcome}
use Rattle.dv_core.specs.declared.outcome.Outcome.TheVariants.{Reply}

-- ---- what steps keep

-- each step of a command that asks this, or is refused when it is parsed, leads to a state that is so related to the one before
abbrev pub EachStep : Result Asked Refusal → (State → State → Type 0) → Type 0
EachStep asked IsRelated =
    (old new : State) (session : ℕ) (command : Command) (outcome : Outcome) → asked_by command ≡ asked
    → MemoryStep old session command outcome new → IsRelated old new

-- each step of such a command keeps this part of the state
abbrev pub Keeps : {A : Type 0} → Result Asked Refusal → (State → A) → Type 0
Keeps asked part = EachStep asked (λ old new. part new ≡ part old)

-- each step of such a command keeps the documents of this namespace
abbrev pub KeepsDocuments : Result Asked Refusal → List ℕ → Type 0
KeepsDocuments asked namespace = EachStep asked (HasSameDocuments namespace)

-- the reply says that its command was refused: it has `ok: 0`
abbrev pub SaysRefused : List Field → Type 0
SaysRefused reply = value_under (codes "ok") reply ≡ Some (int32 (pos 0))

-- each step with this outcome changes nothing, except that some of the stale views that its command needs may have been recomputed
abbrev pub ChangesNothing : Outcome → Type 0
ChangesNothing outcome =
    (old new : State) (session : ℕ) (command : Command) → MemoryStep old session command outcome new → IsLeft old (asked_by command) new

-- ---- how commands are answered

-- a command of a session may have this answer: a reply, and the state after it
abbrev pub IsAllowed : State → ℕ → Command → Answer → Type 0
IsAllowed old session command answer = MemoryStep old session command (Reply answer.reply) answer.state

-- this holds of the answer to each command that asks this, and of its session
abbrev pub EachAnswer : State → Asked → (ℕ → Answer → Type 0) → Type 0
EachAnswer state asked IsSo = (session : ℕ) (command : Command) → asked_by command ≡ Ok asked → IsSo session (step state session command)

-- each command that asks this has this answer
abbrev pub IsAnswered : State → Asked → Answer → Type 0
IsAnswered state asked answer = EachAnswer state asked (λ session given. given ≡ answer)

-- each command that asks this is refused so, and changes nothing
abbrev pub IsRefused : State → Asked → Refusal → Type 0
IsRefused state asked refusal = IsAnswered state asked (answered state (Err refusal))

-- an insert of this document alone is refused so, and not because its namespace is a view
abbrev pub CollectionRefuses : Refusal → List ℕ → List Field → State → Type 0
CollectionRefuses refusal namespace d state = (is_view namespace state.catalog.views ≡ false) × (insert_alone namespace d state ≡ Err refusal)

-- the answer to an insert of one document into a collection, by what it leaves or why its statement is refused
abbrev pub answer_alone : State → Result State Refusal → Answer
answer_alone state (Ok new) = record { reply = write_reply 1 []; state = new }
answer_alone state (Err refusal) = record { reply = write_reply 0 (document_of (write_error 0 refusal) ∷ []); state = state }

-- if a write inserts this document alone, it is answered by this result of the insert
abbrev pub AnswersInsert : State → Write → List Field → Result State Refusal → Type 0
AnswersInsert state asked d result = asked.kind ≡ Insert → asked.entries ≡ d ∷ [] → IsAnswered state (asking.write asked) (answer_alone state result)
