-- A schedule in which memory never runs out is the machine's run in the schedule's order.
use Rattle.std.proofs.Common.{◌≡◌, ℕ, suc, Bool, true, false, ◌&&◌, cond, eqb, ltb, List, [], ◌∷◌, ◌++◌, length, map, Option, Some, None, refl, sym, ap, ◌∙◌, append_assoc, inl, inr}
use Rattle.std.proofs.lemmas.Bool.{cases_Bool, and_parts, ltb-true, ltb-false}
use Rattle.dv_core.specs.State.{State}
use Rattle.dv_core.specs.Step.{counted_step, end_session}
use Rattle.dv_wire.specs.declared.events.Event.{Event}
use Rattle.dv_wire.specs.declared.events.Event.TheVariants as events
use Rattle.dv_message.specs.Message.{Message, Conversation, reading, closed, Split, split}
use Rattle.dv_message.specs.Commands.{command_of}
use Rattle.dv_wire.specs.Schedule.{SessionSteps, World, silence, conversation_of, number_limit, plain_messages, plain_run, reply_bytes, bytes_of, session_limit, takes_all, with_conversation, world_behind}
use Rattle.dv_wire.specs.Playing.{Happens, HappensBy, PlaysBy}
use Rattle.dv_wire.specs.Order.{Moment, opens, comes, ends, is_room, heard, moments_heard, order, state_left, replies_behind, plain_fed, plain_event, plain_play, answers}
use Rattle.dv_wire.proofs.Replies.{Allows, plain_carries, plain_kept}

-- ---- one message after the other

pub plain_conversation : (session : ℕ) (state : State) (messages : List Message) (conversation : Conversation) → (plain_messages session state messages conversation).conversation ≡ conversation
unfolding plain_messages
plain_conversation session state [] conversation = refl
plain_conversation session state (message ∷ messages) conversation = plain_conversation session (counted_step state session (command_of message)).state messages conversation

plain_state : (session : ℕ) (state : State) (messages : List Message) (conversation : Conversation)
    → (plain_messages session state messages conversation).state ≡ state_left state (map (comes session) messages)
unfolding plain_messages
plain_state session state [] conversation = refl
plain_state session state (message ∷ messages) conversation = plain_state session (counted_step state session (command_of message)).state messages conversation

both_or_none : (here : Bool) (first others : List ℕ) → cond here first [] ++ cond here others [] ≡ cond here (first ++ others) []
both_or_none true first others = refl
both_or_none false first others = refl

same_anyway : (here : Bool) (bytes : List ℕ) → bytes ≡ cond here bytes bytes
same_anyway true bytes = refl
same_anyway false bytes = refl

plain_bytes : (listener session : ℕ) (state : State) (messages : List Message) (conversation : Conversation)
    → replies_behind listener state (map (comes session) messages) ≡ cond (eqb session listener) (bytes_of (plain_messages session state messages conversation)) []
unfolding plain_messages
plain_bytes listener session state [] conversation = same_anyway (eqb session listener) []
plain_bytes listener session state (message ∷ messages) conversation =
    let answer = counted_step state session (command_of message) in
    ap (λ (bytes : List ℕ). cond (eqb session listener) (reply_bytes message answer.reply) [] ++ bytes) (plain_bytes listener session answer.state messages conversation)
    ∙ both_or_none (eqb session listener) (reply_bytes message answer.reply) (bytes_of (plain_messages session answer.state messages conversation))

-- ---- some moments, and then others

state_append : (state : State) (first later : List Moment) → state_left state (first ++ later) ≡ state_left (state_left state first) later
state_append state [] later = refl
state_append state (opens ∷ first) later = state_append state first later
state_append state (comes session message ∷ first) later = state_append (counted_step state session (command_of message)).state first later
state_append state (ends session ∷ first) later = state_append (end_session session state) first later

replies_append : (listener : ℕ) (state : State) (first later : List Moment)
    → replies_behind listener state (first ++ later) ≡ replies_behind listener state first ++ replies_behind listener (state_left state first) later
replies_append listener state [] later = refl
replies_append listener state (opens ∷ first) later = replies_append listener state first later
replies_append listener state (comes session message ∷ first) later =
    let answer = counted_step state session (command_of message) in
    let reply = cond (eqb session listener) (reply_bytes message answer.reply) [] in
    ap (λ (bytes : List ℕ). reply ++ bytes) (replies_append listener answer.state first later)
    ∙ sym (append_assoc reply (replies_behind listener answer.state first) (replies_behind listener (state_left answer.state first) later))
replies_append listener state (ends session ∷ first) later = replies_append listener (end_session session state) first later

-- ---- one event after the other

abbrev IsState : List Event → Type 0
IsState later = (world : World) → (plain_play world later).world.state ≡ state_left world.state (order world.next world.sessions later)

abbrev IsAnswered : ℕ → List Event → Type 0
IsAnswered listener later = (world : World) → answers listener later (plain_play world later).said ≡ replies_behind listener world.state (order world.next world.sessions later)

module _ (session : ℕ) (world : World) (later : List Event) where
  -- the moments after the messages that are heard
  abbrev behind : Conversation → List Moment
  behind conversation = order world.next (with_conversation session conversation world.sessions) later

  fed_state : IsState later → (h : Option Split)
      → (plain_play (plain_fed session world h).world later).world.state ≡ state_left world.state (moments_heard session world.sessions h (λ ss. order world.next ss later))
  fed_state others None = others world
  fed_state others (Some s) =
      let run = plain_run session world.state s in
      others (world_behind session run world)
      ∙ ap (λ (c : Conversation). state_left run.state (behind c)) (plain_conversation session world.state s.messages s.conversation)
      ∙ ap (λ (state : State). state_left state (behind s.conversation)) (plain_state session world.state s.messages s.conversation)
      ∙ sym (state_append world.state (map (comes session) s.messages) (behind s.conversation))

  fed_answers : (listener : ℕ) (piece : List ℕ) → IsAnswered listener later → (h : Option Split)
      → answers listener (events.Piece (record { number = session }) piece ∷ later) ((plain_fed session world h).said ∷ (plain_play (plain_fed session world h).world later).said)
      ≡ replies_behind listener world.state (moments_heard session world.sessions h (λ ss. order world.next ss later))
  fed_answers listener piece others None = ap (λ (bytes : List ℕ). bytes ++ answers listener later (plain_play world later).said) (sym (same_anyway (eqb session listener) [])) ∙ others world
  fed_answers listener piece others (Some s) =
      let run = plain_run session world.state s in
      let said_now = cond (eqb session listener) (bytes_of run) [] in
      ap (λ (bytes : List ℕ). said_now ++ bytes)
      (others (world_behind session run world)
      ∙ ap (λ (c : Conversation). replies_behind listener run.state (behind c)) (plain_conversation session world.state s.messages s.conversation)
      ∙ ap (λ (state : State). replies_behind listener state (behind s.conversation)) (plain_state session world.state s.messages s.conversation))
      ∙ ap (λ (bytes : List ℕ). bytes ++ replies_behind listener (state_left world.state (map (comes session) s.messages)) (behind s.conversation))
      (sym (plain_bytes listener session world.state s.messages s.conversation))
      ∙ sym (replies_append listener world.state (map (comes session) s.messages) (behind s.conversation))

pub ordered_state : (world : World) (all : List Event) → (plain_play world all).world.state ≡ state_left world.state (order world.next world.sessions all)
unfolding plain_play order
ordered_state world [] = refl
ordered_state world (events.Open ∷ later) =
    elim (cases_Bool (is_room world.next world.sessions)) [
      | inl room ↦ rw room (ordered_state (record { state = world.state; next = suc world.next; sessions = world.sessions ++ (world.next, reading []) ∷ [] }) later)
      | inr full ↦ rw full (ordered_state world later)
    ]
ordered_state world (events.Piece session piece ∷ later) =
    fed_state session.number world later (λ w. ordered_state w later) (heard piece (conversation_of session.number world.sessions))
ordered_state world (events.End session ∷ later) = ordered_state _ later

pub ordered_answers : (listener : ℕ) (world : World) (all : List Event) → answers listener all (plain_play world all).said ≡ replies_behind listener world.state (order world.next world.sessions all)
unfolding plain_play order
ordered_answers listener world [] = refl
ordered_answers listener world (events.Open ∷ later) =
    elim (cases_Bool (is_room world.next world.sessions)) [
      | inl room ↦ rw room (ordered_answers listener (record { state = world.state; next = suc world.next; sessions = world.sessions ++ (world.next, reading []) ∷ [] }) later)
      | inr full ↦ rw full (ordered_answers listener world later)
    ]
ordered_answers listener world (events.Piece session piece ∷ later) =
    fed_answers session.number world later listener piece (λ w. ordered_answers listener w later) (heard piece (conversation_of session.number world.sessions))
ordered_answers listener world (events.End session ∷ later) = ordered_answers listener _ later

pub same_order : (world : World) (one two : List Event) → order world.next world.sessions one ≡ order world.next world.sessions two
    → ((plain_play world one).world.state ≡ (plain_play world two).world.state)
    × ((session : ℕ) → answers session one (plain_play world one).said ≡ answers session two (plain_play world two).said)
same_order world one two same = (
  ordered_state world one ∙ ap (state_left world.state) same ∙ sym (ordered_state world two),
  λ session. ordered_answers session world one ∙ ap (replies_behind session world.state) same ∙ sym (ordered_answers session world two),
)

-- ---- the plain run is one of those that are allowed

full_by : (a b : Bool) → a && b ≡ false → (P : Type 0) → (a ≡ false → P) → (b ≡ false → P) → P
full_by true b e P left right = right e
full_by false b e P left right = left refl

abbrev fewer : World → Bool
fewer world = ltb (length world.sessions) session_limit

abbrev left : World → Bool
left world = ltb world.next number_limit

plain_opens : (world : World) → Happens world events.Open (plain_event world events.Open).said (plain_event world events.Open).world
plain_opens world =
    elim (cases_Bool (is_room world.next world.sessions)) [
      | inl room ↦ let parts = and_parts (fewer world) (left world) room in rw room (ltb-true (length world.sessions) session_limit parts.0, ltb-true world.next number_limit parts.1, refl, refl)
      | inr full ↦ rw full (full_by (fewer world) (left world) full _ (λ e. inl (ltb-false (length world.sessions) session_limit e)) (λ e. inr (ltb-false world.next number_limit e)), refl)
    ]

module _ (Step : SessionSteps) (Kept : State → Type 0) (allows : Allows Step Kept) where
  plain_feeds : (world : World) (session : ℕ) (piece : List ℕ) (here : Option Conversation) → conversation_of session world.sessions ≡ here → Kept world.state
      → HappensBy Step world (events.Piece (record { number = session }) piece) (plain_fed session world (heard piece here)).said (plain_fed session world (heard piece here)).world
  unfolding plain_messages
  plain_feeds world session piece None e kept = ([], refl, rw e (refl, refl, refl))
  plain_feeds world session piece (Some (reading bytes)) e kept =
      let s = split (bytes ++ piece) in
      let run = plain_run session world.state s in
      (run.answers, refl, rw e (run, takes_all (plain_carries Step Kept allows session world.state s.messages s.conversation kept), refl, refl, refl))
  plain_feeds world session piece (Some (closed fault)) e kept = ([], refl, rw e (silence world.state (closed fault), refl, refl, refl, refl))

  plain_happens : (world : World) (event : Event) → Kept world.state → HappensBy Step world event (plain_event world event).said (plain_event world event).world
  plain_happens world events.Open kept = plain_opens world
  plain_happens world (events.Piece session piece) kept = plain_feeds world session.number piece (conversation_of session.number world.sessions) refl kept
  plain_happens world (events.End session) kept = (refl, refl)

  fed_kept : (world : World) (session : ℕ) (h : Option Split) → Kept world.state → Kept (plain_fed session world h).world.state
  fed_kept world session None kept = kept
  fed_kept world session (Some s) kept = plain_kept Step Kept allows session world.state s.messages s.conversation kept

  event_kept : (world : World) (event : Event) → Kept world.state → Kept (plain_event world event).world.state
  event_kept world events.Open kept = elim (cases_Bool (is_room world.next world.sessions)) [ inl room ↦ rw room kept | inr full ↦ rw full kept ]
  event_kept world (events.Piece session piece) kept = fed_kept world session.number (heard piece (conversation_of session.number world.sessions)) kept
  event_kept world (events.End session) kept = allows.ended session.number world.state kept

  pub plain_plays : (world : World) (all : List Event) → Kept world.state → PlaysBy Step world all (plain_play world all).said (plain_play world all).world
  unfolding plain_play
  plain_plays world [] kept = (refl, refl)
  plain_plays world (event ∷ later) kept =
      let first = plain_event world event in
      (first.said, (plain_play first.world later).said, first.world, refl, plain_happens world event kept, plain_plays first.world later (event_kept world event kept))
