-- A play and the plain one, if each step keeps what their states have in common.
use Rattle.std.proofs.Common.{◌≡◌, ◌≤◌, ℕ, zero, suc, ◌⊎◌, Bool, true, false, List, [], ◌∷◌, ◌++◌, length, map, take, Option, Some, None, Ok, Err, MatchOption, refl, sym, ap, ap₂, subst, ◌∙◌, inl, inr, if◌then◌else◌, lt-ltb, le-ltb}
use Rattle.std.specs.List.{AllByRecursion, concat}
use Rattle.std.proofs.lemmas.Bool.{and_from, and_left, and_right}
use Rattle.dv_value.specs.Tree.{Field}
use Rattle.dv_command.specs.declared.command.Command.{Command}
use Rattle.dv_core.specs.State.{State}
use Rattle.dv_core.specs.Step.{counted_step, end_session}
use Rattle.dv_core.specs.declared.outcome.Outcome.{Outcome}
use Rattle.dv_core.specs.declared.outcome.Outcome.TheVariants.{NoReply, Reply, Wanting}
use Rattle.dv_wire.specs.declared.events.Event.{Event}
use Rattle.dv_wire.specs.declared.events.Event.TheVariants as events
use Rattle.dv_wire.specs.declared.events.Said.{Said}
use Rattle.dv_wire.specs.declared.events.Said.TheVariants as said
use Rattle.dv_message.specs.declared.fault.CloseFault.TheVariants.{NoMemory}
use Rattle.dv_wire.specs.declared.fault.HubFault.TheVariants as hub_faults
use Rattle.dv_wire.specs.declared.hub.Fed.{Fed}
use Rattle.dv_wire.specs.declared.hub.Fed.TheVariants as fed
use Rattle.dv_message.specs.Commands.{command_of}
use Rattle.dv_message.specs.Message.{Conversation, Message, Split, closed, reading, split}
use Rattle.dv_wire.specs.Order.{Happening, Moment, OfCommands, Played, comes, heard, is_room, moments_heard, order, plain_event, plain_fed, plain_play, with_next}
use Rattle.dv_wire.specs.Playing.{HappensBy, PlaysBy}
use Rattle.dv_wire.specs.Schedule.{CarriesOutBy, HearsBy, Run, SessionSteps, TakesBy, World, bytes_of, bytes_to, conversation_of, end, fed_of, number_limit, plain_messages, plain_run, reply_bytes, session_limit, silence, takes_all, takes_some, with_conversation, world_behind}
use Rattle.dv_wire.specs.Wants.{HoldsWant, IsReplyOfWant, SaysWant, sent}
use Rattle.dv_wire.proofs.Orders.{plain_conversation}
use Rattle.dv_wire.proofs.Runs.{follows_cases}
use Rattle.dv_wire.proofs.Wanting.{holds_behind}

-- what such steps keep, for the commands that are meant
pub record Keeps (Step : SessionSteps) (Alike : State → State → Type 0) (Meant : Command → Type 0) : Type 0 where
  pub replied : (real plain new : State) (session : ℕ) (command : Command) (reply : List Field) → Alike real plain → Meant command → Step real session command (Reply reply) new
      → (reply ≡ (counted_step plain session command).reply) × Alike new (counted_step plain session command).state
  pub wanting : (old new : State) (session : ℕ) (command : Command) (reply : List Field) → Step old session command (Wanting reply) new → IsReplyOfWant reply
  pub ended : (session : ℕ) (real plain : State) → Alike real plain → Alike (end_session session real) (end_session session plain)

-- the world with this state instead of its own
abbrev pub at : State → World → World
at state world = record { state = state; next = world.next; sessions = world.sessions }

-- the answers are the same, and the states are in the relation `Alike`
record AreRunsAlike (Alike : State → State → Type 0) (run plain : Run) : Type 0 where
  answers : run.answers ≡ plain.answers
  state : Alike run.state plain.state
  conversation : run.conversation ≡ plain.conversation

-- the worlds are the same, except for their states, which are in the relation `Alike`
pub record AreAlike (Alike : State → State → Type 0) (world plain : World) : Type 0 where
  pub state : Alike world.state plain.state
  pub others : at plain.state world ≡ plain

-- the plain machine reports the same, and the worlds after it are `AreAlike`
pub record IsPlayAlike (Alike : State → State → Type 0) (told : List Said) (new : World) (plain : Played) : Type 0 where
  pub said : told ≡ plain.said
  pub world : AreAlike Alike new plain.world

no_room : (world : World) → (session_limit ≤ length world.sessions) ⊎ (number_limit ≤ world.next) → is_room world.next world.sessions ≡ false
no_room world (inl many) = and_left _ _ (le-ltb (length world.sessions) session_limit many)
no_room world (inr last) = and_right _ _ (le-ltb world.next number_limit last)

-- ---- the commands of a schedule

module _ (Meant : Command → Type 0) where
  abbrev AreMeant : List Message → Type 0
  AreMeant messages = AllByRecursion (λ m. Meant (command_of m)) messages

  meant_first : (session : ℕ) (messages : List Message) (later : List Moment) → OfCommands Meant (map (comes session) messages ++ later)
      → AreMeant messages × OfCommands Meant later
  meant_first session [] later all = (tt, all)
  meant_first session (message ∷ messages) later all = let others = meant_first session messages later all.1 in ((all.0, others.0), others.1)

  AreMeant-take : (count : ℕ) (messages : List Message) → AreMeant messages → AreMeant (take count messages)
  AreMeant-take zero messages all = tt
  AreMeant-take (suc count) [] all = tt
  AreMeant-take (suc count) (message ∷ messages) all = (all.0, AreMeant-take count messages all.1)

module _ (Step : SessionSteps) (Alike : State → State → Type 0) (Meant : Command → Type 0) (keeps : Keeps Step Alike Meant) where
  -- ---- one message after the other

  -- a message gets the reply of its step, or its reply reports that memory ran out
  module _ (session : ℕ) (old mid : State) (message : Message) (bytes : List ℕ) where
    abbrev IsReplied : Type 0
    IsReplied = (reply : List Field) × (bytes ≡ reply_bytes message reply) × Step old session (command_of message) (Reply reply) mid

    abbrev IsWant : Type 0
    IsWant = (reply : List Field) × (bytes ≡ sent (message.request_id, reply)) × IsReplyOfWant reply

    answered_so : (outcome : Outcome) → Step old session (command_of message) outcome mid → bytes_to message outcome ≡ Some bytes → IsReplied ⊎ IsWant
    answered_so (Reply reply) steps is = inl (reply, cc, steps)
    answered_so (Wanting reply) steps is = inr (reply, told message.more_to_come is, keeps.wanting old mid session (command_of message) reply steps)
      where
        told : (more : Bool) → (if more then None else Some (if more then [] else sent (message.request_id, reply))) ≡ Some bytes → bytes ≡ sent (message.request_id, reply)
        told true is = absurd cc
        told false is = cc
    answered_so NoReply steps is = absurd cc

  silence_alike : (session : ℕ) (real plain : State) (conversation : Conversation) (run : Run) → run ≡ silence real conversation → Alike real plain → AreRunsAlike Alike run (plain_messages session plain [] conversation)
  unfolding plain_messages
  silence_alike session real plain conversation run nothing alike =
      subst (λ (r : Run). AreRunsAlike Alike r (silence plain conversation)) (sym nothing) (record { answers = refl; state = alike; conversation = refl })

  carries_alike : (session : ℕ) (real plain : State) (messages : List Message) (conversation : Conversation) (run : Run) → CarriesOutBy Step session real messages conversation run
      → Alike real plain → AreMeant Meant messages → (run.conversation ≡ closed NoMemory → ⊥) → (HoldsWant (bytes_of run) → ⊥) → AreRunsAlike Alike run (plain_messages session plain messages conversation)
  unfolding plain_messages
  carries_alike session real plain [] conversation run carried alike meant goes_on none = silence_alike session real plain conversation run carried alike
  carries_alike session real plain (message ∷ messages) conversation run (outcome, mid, steps, follows) alike meant goes_on none =
      elim (follows_cases (bytes_to message outcome) mid (CarriesOutBy Step session mid messages conversation) run follows) [
        | inl shut ↦ absurd (goes_on (ap (λ (r : Run). r.conversation) shut))
        | inr a ↦
            let rest : List ℕ = bytes_of a.others in
            elim (answered_so session real mid message a.bytes outcome steps a.is) [
              | inl here ↦
                  let bytes : bytes_of run ≡ reply_bytes message here.0 ++ rest = ap bytes_of a.both ∙ ap (λ (b : List ℕ). b ++ rest) here.1 in
                  let kept = keeps.replied real plain mid session (command_of message) here.0 alike meant.0 here.2 in
                  let others = carries_alike session mid (counted_step plain session (command_of message)).state messages conversation a.others a.behind kept.1 meant.1
                  (λ shut. goes_on (ap (λ (r : Run). r.conversation) a.both ∙ shut)) (λ holds. none (subst HoldsWant (sym bytes) (holds_behind message here.0 rest holds))) in
                  record {
                    answers = ap (λ (r : Run). r.answers) a.both ∙ ap₂ (λ (b : List ℕ) (bs : List (List ℕ)). b ∷ bs) (here.1 ∙ ap (reply_bytes message) kept.0) others.answers;
                    state = subst (λ (r : Run). Alike r.state (plain_messages session (counted_step plain session (command_of message)).state messages conversation).state) (sym a.both) others.state;
                    conversation = ap (λ (r : Run). r.conversation) a.both ∙ others.conversation;
                  }
              | inr want ↦ absurd (none ([], (message.request_id, want.0), rest, ap bytes_of a.both ∙ ap (λ (b : List ℕ). b ++ rest) want.1, want.2))
            ]
      ]

  takes_alike : (session : ℕ) (real plain : State) (stream : Split) (run : Run) → TakesBy Step session real stream run → Alike real plain → AreMeant Meant stream.messages
      → (run.conversation ≡ closed NoMemory → ⊥) → (HoldsWant (bytes_of run) → ⊥) → AreRunsAlike Alike run (plain_run session plain stream)
  takes_alike session real plain stream run (takes_all carried) alike meant goes_on none = carries_alike session real plain stream.messages stream.conversation run carried alike meant goes_on none
  takes_alike session real plain stream run (takes_some count carried) alike meant goes_on none =
      let some = carries_alike session real plain (take count stream.messages) (closed NoMemory) run carried alike (AreMeant-take Meant count stream.messages meant) goes_on none in
      absurd (goes_on (some.conversation ∙ plain_conversation session plain (take count stream.messages) (closed NoMemory)))

  -- ---- one event after the other

  -- the plain machine reports the same of an event, the worlds after it are `AreAlike`, and the commands of later events are meant
  -- ones
  record IsHappeningAlike (first : Said) (new : World) (plain : Happening) (later : List Event) : Type 0 where
    said : first ≡ plain.said
    world : AreAlike Alike new plain.world
    meant : OfCommands Meant (order new.next new.sessions later)

  behind_so : (first : Said) (new world : World) (plain : Happening) (later : List Event) → first ≡ plain.said → new ≡ world → AreAlike Alike world plain.world
      → OfCommands Meant (order world.next world.sessions later) → IsHappeningAlike first new plain later
  behind_so first new world plain later same is alike meant = record {
    said = same;
    world = subst (λ (w : World). AreAlike Alike w plain.world) (sym is) alike;
    meant = subst (λ (w : World). OfCommands Meant (order w.next w.sessions later)) (sym is) meant;
  }

  -- for a session that takes what it heard
  runs_alike : (old new : World) (plain : State) (session : ℕ) (bytes : List ℕ) (told : Fed) (stream : Split) (run : Run) (later : List Event) → bytes ≡ bytes_of run → told ≡ fed_of run.conversation
      → new ≡ world_behind session run old → AreRunsAlike Alike run (plain_run session plain stream)
      → OfCommands Meant (order old.next (with_conversation session stream.conversation old.sessions) later)
      → IsHappeningAlike (said.Fed told bytes) new (plain_fed session (at plain old) (Some stream)) later
  runs_alike old new plain session bytes told stream run later are stands behind alike meant =
      let ends : run.conversation ≡ stream.conversation = alike.conversation ∙ plain_conversation session plain stream.messages stream.conversation in
      behind_so (said.Fed told bytes) new (world_behind session run old) (plain_fed session (at plain old) (Some stream)) later (ap₂ said.Fed (stands ∙ ap fed_of alike.conversation) (are ∙ ap concat alike.answers)) behind
      (record {
        state = alike.state;
        others = ap (λ (c : Conversation). record { state = (plain_run session plain stream).state; next = old.next; sessions = with_conversation session c old.sessions }) alike.conversation;
      })
      (subst (λ (c : Conversation). OfCommands Meant (order old.next (with_conversation session c old.sessions) later)) (sym ends) meant)

  comes_alike : (old new : World) (plain : State) (session : ℕ) (piece bytes : List ℕ) (replies : List (List ℕ)) (told : Fed) (later : List Event) (here : Option Conversation) → bytes ≡ concat replies
      → MatchOption here ((replies ≡ []) × (told ≡ fed.Unknown) × (new ≡ old))
      (λ before. (run : Run) × HearsBy Step session old.state before piece run × (replies ≡ run.answers) × (told ≡ fed_of run.conversation) × (new ≡ world_behind session run old))
      → (SaysWant (said.Fed told bytes) → ⊥) → Alike old.state plain → OfCommands Meant (moments_heard session old.sessions (heard piece here) (λ ss. order old.next ss later))
      → IsHappeningAlike (said.Fed told bytes) new (plain_fed session (at plain old) (heard piece here)) later
  comes_alike old new plain session piece bytes replies told later None are (nothing, unknown, same) none alike meant =
      behind_so (said.Fed told bytes) new old (plain_fed session (at plain old) None) later (ap₂ said.Fed unknown (are ∙ ap concat nothing)) same (record { state = alike; others = refl }) meant
  comes_alike old new plain session piece bytes replies told later (Some (reading kept)) are (run, takes, same, stands, behind) none alike meant =
      let stream = split (kept ++ piece) in
      let all : bytes ≡ bytes_of run = are ∙ ap concat same in
      let parts = meant_first Meant session stream.messages (order old.next (with_conversation session stream.conversation old.sessions) later) meant in
      let runs = takes_alike session old.state plain stream run takes alike parts.0 (λ shut. none (inl (stands ∙ ap fed_of shut))) (λ holds. none (inr (subst HoldsWant (sym all) holds))) in
      runs_alike old new plain session bytes told stream run later all stands behind runs parts.1
  comes_alike old new plain session piece bytes replies told later (Some (closed fault)) are (run, nothing, same, stands, behind) none alike meant =
      runs_alike old new plain session bytes told (record { messages = []; conversation = closed fault }) run later (are ∙ ap concat same) stands behind (silence_alike session old.state plain (closed fault) run nothing alike) meant

  event_alike : (old new : World) (plain : State) (event : Event) (first : Said) (later : List Event) → HappensBy Step old event first new → (SaysWant first → ⊥) → Alike old.state plain
      → OfCommands Meant (order old.next old.sessions (event ∷ later)) → IsHappeningAlike first new (plain_event (at plain old) event) later
  unfolding order
  event_alike old new plain events.Open (said.Opened (Ok session)) later (few, left, number, behind) none alike meant =
      let room : is_room old.next old.sessions ≡ true = and_from _ _ (lt-ltb (length old.sessions) session_limit few) (lt-ltb old.next number_limit left) in
      let opened : World = record { state = old.state; next = suc old.next; sessions = with_next old.next old.sessions } in
      rw room (behind_so (said.Opened (Ok session)) new opened _ later (ap (λ n. said.Opened (Ok (record { number = n }))) number) behind (record { state = alike; others = refl }) (rw room at meant).1)
  event_alike old new plain events.Open (said.Opened (Err hub_faults.TooManySessions)) later (full, same) none alike meant =
      let none_left = no_room old full in
      rw none_left (behind_so (said.Opened (Err hub_faults.TooManySessions)) new old _ later refl same (record { state = alike; others = refl }) (rw none_left at meant).1)
  event_alike old new plain events.Open (said.Opened (Err hub_faults.NoMemory)) later same none alike meant = absurd (none refl)
  event_alike old new plain events.Open (said.Fed told bytes) later happens none alike meant = absurd happens
  event_alike old new plain events.Open (said.Ended unfinished) later happens none alike meant = absurd happens
  event_alike old new plain (events.Piece session piece) (said.Opened result) later happens none alike meant = absurd happens
  event_alike old new plain (events.Piece session piece) (said.Fed told bytes) later (replies, are, came) none alike meant =
      comes_alike old new plain session.number piece bytes replies told later (conversation_of session.number old.sessions) are came none alike meant
  event_alike old new plain (events.Piece session piece) (said.Ended unfinished) later happens none alike meant = absurd happens
  event_alike old new plain (events.End session) (said.Opened result) later happens none alike meant = absurd happens
  event_alike old new plain (events.End session) (said.Fed told bytes) later happens none alike meant = absurd happens
  event_alike old new plain (events.End session) (said.Ended unfinished) later (dropped, behind) none alike meant =
      behind_so (said.Ended unfinished) new (end session.number old) (plain_event (at plain old) (events.End session)) later (ap said.Ended dropped) behind
      (record { state = keeps.ended session.number old.state plain alike; others = refl }) meant.1

  pub plays_alike : (old new : World) (plain : State) (all : List Event) (told : List Said) → PlaysBy Step old all told new → AllByRecursion (λ s. SaysWant s → ⊥) told → Alike old.state plain
      → OfCommands Meant (order old.next old.sessions all) → IsPlayAlike Alike told new (plain_play (at plain old) all)
  unfolding plain_play
  plays_alike old new plain [] told (nothing, same) none alike meant =
      record { said = nothing; world = subst (λ (w : World). AreAlike Alike w (at plain old)) (sym same) (record { state = alike; others = refl }) }
  plays_alike old new plain (event ∷ later) told (first, others, mid, is, happens, plays) none alike meant =
      let each = subst (AllByRecursion (λ (s : Said). SaysWant s → ⊥)) is none in
      let happening = plain_event (at plain old) event in
      let here = event_alike old mid plain event first later happens each.0 alike meant in
      let rest = subst (λ (w : World). IsPlayAlike Alike others new (plain_play w later)) here.world.others
      (plays_alike mid new happening.world.state later others plays each.1 here.world.state here.meant) in
      record { said = is ∙ ap₂ (λ (s : Said) (ss : List Said). s ∷ ss) here.said rest.said; world = rest.world }
