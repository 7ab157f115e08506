-- What carrying out one message answers.
use Rattle.std.proofs.Common.{true, ◌≡◌, ℕ, ◌<◌, ◌⊎◌, List, [], ◌∷◌, ◌++◌, length, Some, Result, Ok, Err, refl, sym, ap, subst, ◌∙◌, arith, inl, inr}
use Rattle.std.specs.Prelude.{⊤}
use Rattle.std.proofs.lemmas.List.{append-nil}
use Rattle.dv_value.specs.declared.fault.BsonFault.TheVariants as bson
use Rattle.dv_catalog.specs.Marks.{Marks}
use Rattle.dv_value.specs.Results.{◌>>=◌}
use Rattle.dv_command.specs.Asked.{Asked, asked_by}
use Rattle.dv_command.specs.declared.command.Command.{Command}
use Rattle.dv_command.specs.declared.command.Command.TheVariants.{Invalid}
use Rattle.dv_refusal.specs.declared.refusal.Refusal.{Refusal}
use Rattle.dv_refusal.specs.declared.refusal.Refusal.TheVariants.{WantOfMemory}
use Rattle.dv_core.specs.Marks.{AreMarkedAll, AreMarkedForWant}
use Rattle.dv_core.specs.declared.outcome.Outcome.{Outcome}
use Rattle.dv_core.specs.declared.outcome.Outcome.TheVariants.{Reply, Wanting, NoReply}
use Rattle.dv_core.specs.State.{State, standing}
use Rattle.dv_message.specs.declared.fault.CloseFault.TheVariants.{NoMemory}
use Rattle.dv_message.specs.Message.{Message, message_spelling, Conversation, reading, closed}
use Rattle.dv_core.specs.Step.{Answer, Cut, MemoryStep, TellsOfWant, answer_to, answered, counted_step, end_session, step}
use Rattle.dv_wire.specs.Schedule.{Run, in_front, silence, unanswered, bytes_to, CarriesOutMessages, CarriesOutBy, SessionSteps, plain_messages}
use Rattle.dv_message.specs.Commands.{command_of}
use Rattle.dv_wire.specs.declared.session.Counts.{Counts}
use Rattle.dv_wire.specs.Inner.View.{Answered, Counted, GoesOn}
use Rattle.dv_wire.proofs.Runs.{follows_shut, follows_on, follows_cases}

-- a message has bytes
pub message_spelling-some : (request_id response_to flags : ℕ) (sections : List ℕ) → 0 < length (message_spelling request_id response_to flags sections)
unfolding message_spelling
message_spelling-some request_id response_to flags sections = omega arith

-- ---- the command in a message

-- if nothing changed, the marks are among those that any command may leave that is refused because memory ran out
pub unmarked : (old : State) (asked : Result Asked Refusal) (marks : Marks) → marks ≡ old.marks → AreMarkedForWant old asked marks
unmarked old (Ok asked) marks same = inl same
unmarked old (Err refusal) marks same = same

-- if memory ran out while a command was read, its outcome is one that any command may have
steps_unread : (session : ℕ) (old new : State) (command : Command) (outcome : Outcome) → MemoryStep old session (Invalid bson.NoMemory) outcome new → TellsOfWant outcome → MemoryStep old session command outcome new
steps_unread session old new command (Reply reply) steps told = absurd told
steps_unread session old new command (Wanting reply) (inl (refused, same)) told = inl (refused, unmarked old (asked_by command) new.marks same)
steps_unread session old new command (Wanting reply) (inr cut) told = absurd cut
steps_unread session old new command NoReply (inl (left, same)) told = inr (answered old (Err WantOfMemory), inl (refl, unmarked old (asked_by command) new.marks same), left)
steps_unread session old new command NoReply (inr (answer, inl (refused, same), left)) told = inr (answer, inl (refused, unmarked old (asked_by command) new.marks same), left)
steps_unread session old new command NoReply (inr (answer, inr cut, left)) told = absurd cut

pub steps_as : (session : ℕ) (old new : State) (meant read : Command) (outcome : Outcome) → (meant ≡ read) ⊎ (read ≡ Invalid bson.NoMemory)
    → MemoryStep old session read outcome new → (read ≡ Invalid bson.NoMemory → TellsOfWant outcome) → MemoryStep old session meant outcome new
steps_as session old new meant read outcome (inl e) steps told = rw e steps
steps_as session old new meant read outcome (inr e) steps told = steps_unread session old new meant outcome (rw e at steps) (told e)

-- the answers of a command for which memory runs out, by what it asks
abbrev WantsAsked : State → Result Asked Refusal → Answer → Marks → Type 0
WantsAsked old asked answer marks = ((answer ≡ answered old (Err WantOfMemory)) × AreMarkedForWant old asked marks) ⊎ Cut old asked answer marks

-- commands that ask the same lead to the same
pub steps_alike : (session : ℕ) (old new : State) (meant read : Command) (outcome : Outcome) → asked_by meant ≡ asked_by read → MemoryStep old session read outcome new → MemoryStep old session meant outcome new
steps_alike session old new meant read (Reply reply) same steps =
    let answer : Answer = record { reply = reply; state = standing old.marks new } in
    subst (λ (asked : Result Asked Refusal). (answered old (asked >>= answer_to old session) ≡ answer) × AreMarkedAll old asked new.marks) (sym same) steps
steps_alike session old new meant read (Wanting reply) same steps =
    let answer : Answer = record { reply = reply; state = standing old.marks new } in
    subst (λ (asked : Result Asked Refusal). WantsAsked old asked answer new.marks) (sym same) steps
steps_alike session old new meant read NoReply same steps =
    subst (λ (asked : Result Asked Refusal).
    ((standing old.marks new ≡ (answered old (asked >>= answer_to old session)).state) × AreMarkedAll old asked new.marks)
    ⊎ ((answer : Answer) × WantsAsked old asked answer new.marks × (standing old.marks new ≡ answer.state))) (sym same) steps

-- ---- one message

module _ (session : ℕ) (old new : State) (message : Message) (outcome : Outcome) (steps : MemoryStep old session (command_of message) outcome new) where
  -- its answer, and the session goes on
  carries_on : (bytes : List ℕ) → bytes_to message outcome ≡ Some bytes → GoesOn session old (message ∷ []) (bytes ∷ []) new
  carries_on bytes is = (
    outcome,
    new,
    steps,
    follows_on (bytes_to message outcome) new (CarriesOutMessages session new [] (reading [])) bytes (silence new (reading [])) (record { answers = bytes ∷ []; state = new; conversation = reading [] }) is refl refl,
  )

  -- in place of its answer the session is closed
  closes : CarriesOutMessages session old (message ∷ []) (reading []) (unanswered new (closed NoMemory))
  closes = (outcome, new, steps, follows_shut (bytes_to message outcome) new (CarriesOutMessages session new [] (reading [])) (unanswered new (closed NoMemory)) refl)

  module _ (before after : List ℕ) (c d : Counts) where
    pub is_answered : (bytes : List ℕ) → bytes_to message outcome ≡ Some bytes → after ≡ before ++ bytes → Counted c (bytes ∷ []) d
        → Answered before after c d (λ all. GoesOn session old (message ∷ []) all new)
    is_answered bytes is appended counted = (bytes ∷ [], appended ∙ ap (λ (b : List ℕ). before ++ b) (sym (append-nil bytes)), counted, carries_on bytes is)

    pub is_closed : after ≡ before → Counted c ([] ∷ []) d
        → Answered before after c d (λ all. CarriesOutMessages session old (message ∷ []) (reading []) (record { answers = all; state = new; conversation = closed NoMemory }))
    is_closed same counted = ([] ∷ [], same ∙ sym (append-nil before), counted, closes)

-- ---- the plain run

-- steps that may be those in which memory never runs out, from states of which this holds
pub record Allows (Step : SessionSteps) (Kept : State → Type 0) : Type 0 where
  pub steps : (state : State) (session : ℕ) (command : Command) → Kept state → let answer = counted_step state session command in Step state session command (Reply answer.reply) answer.state
  pub kept : (state : State) (session : ℕ) (command : Command) → Kept state → Kept (counted_step state session command).state
  pub ended : (session : ℕ) (state : State) → Kept state → Kept (end_session session state)

abbrev pub IsAllowed : Type 0
IsAllowed = (state : State) (session : ℕ) (command : Command) → let answer = counted_step state session command in MemoryStep state session command (Reply answer.reply) answer.state

pub allows_any : IsAllowed → Allows MemoryStep (λ state. ⊤)
allows_any allowed = record { steps = λ state session command kept. allowed state session command; kept = λ state session command kept. tt; ended = λ session state kept. tt }

module _ (Step : SessionSteps) (Kept : State → Type 0) (allows : Allows Step Kept) where
  -- the plain run is one of those that are allowed
  pub plain_carries : (session : ℕ) (old : State) (messages : List Message) (conversation : Conversation) → Kept old
      → CarriesOutBy Step session old messages conversation (plain_messages session old messages conversation)
  unfolding plain_messages
  plain_carries session old [] conversation kept = refl
  plain_carries session old (message ∷ messages) conversation kept =
      let answer = counted_step old session (command_of message) in
      let behind = allows.kept old session (command_of message) kept in (
        Reply answer.reply,
        answer.state,
        allows.steps old session (command_of message) kept,
        inl (plain_messages session answer.state messages conversation, plain_carries session answer.state messages conversation behind, refl),
      )

  pub plain_kept : (session : ℕ) (old : State) (messages : List Message) (conversation : Conversation) → Kept old → Kept (plain_messages session old messages conversation).state
  unfolding plain_messages
  plain_kept session old [] conversation kept = kept
  plain_kept session old (message ∷ messages) conversation kept =
      plain_kept session (counted_step old session (command_of message)).state messages conversation (allows.kept old session (command_of message) kept)

-- ---- a message with moreToCome

goes_on_done : (session : ℕ) (old mid : State) (message : Message) (outcome : Outcome) (conversation : Conversation) (run : Run) (bytes : List ℕ) → message.more_to_come ≡ true
    → MemoryStep old session (command_of message) outcome mid → bytes_to message outcome ≡ Some bytes → run ≡ in_front (bytes ∷ []) (silence mid conversation)
    → run ≡ unanswered (standing run.state.marks (step old session (command_of message)).state) conversation
goes_on_done session old mid message (Reply reply) conversation run bytes more steps is e =
    let nothing : [] ≡ bytes = (let sent : Some [] ≡ Some bytes = rw more at is in cc) in
    let same : (step old session (command_of message)).state ≡ standing old.marks mid = ap (λ (a : Answer). a.state) steps.0 in
    let stands : mid ≡ standing run.state.marks (step old session (command_of message)).state =
    ap (λ (s : State). standing mid.marks s) (sym same) ∙ ap (λ (m : Marks). standing m (step old session (command_of message)).state) (sym (ap (λ (r : Run). r.state.marks) e)) in
    e ∙ ap (λ (b : List ℕ). in_front (b ∷ []) (silence mid conversation)) (sym nothing) ∙ ap (λ (s : State). unanswered s conversation) stands
goes_on_done session old mid message (Wanting reply) conversation run bytes more steps is e = let sent = rw more at is in absurd cc
goes_on_done session old mid message NoReply conversation run bytes more steps is e = absurd cc

-- if the session goes on, the message's step was carried out
pub silent_done : (session : ℕ) (old : State) (message : Message) (kept : List ℕ) (run : Run) → message.more_to_come ≡ true → CarriesOutMessages session old (message ∷ []) (reading kept) run
    → run.conversation ≡ reading kept → run ≡ unanswered (standing run.state.marks (step old session (command_of message)).state) (reading kept)
silent_done session old message kept run more (outcome, mid, steps, follows) on =
    elim (follows_cases (bytes_to message outcome) mid (CarriesOutMessages session mid [] (reading kept)) run follows) [
      | inl shut ↦ let e = sym on ∙ ap (λ (r : Run). r.conversation) shut in absurd cc
      | inr a ↦ goes_on_done session old mid message outcome (reading kept) run a.bytes more steps a.is (a.both ∙ ap (in_front (a.bytes ∷ [])) a.behind)
    ]
