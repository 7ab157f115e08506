-- The order in which the messages of a schedule take effect, and a schedule in which memory never runs out.
use Rattle.std.specs.Prelude.{◌≡◌, ℕ, suc, Bool, ◌&&◌, List, [], ◌∷◌, ◌++◌, length, map, Option, Some, None, Ok, Err, nat_lt, ◌==◌, if◌then◌else◌, ⊤}
use Rattle.std.specs.List.{AllByRecursion}
use Rattle.dv_command.specs.declared.command.Command.{Command}
use Rattle.dv_core.specs.State.{State}
use Rattle.dv_core.specs.Step.{counted_step, end_session}
use Rattle.dv_wire.specs.declared.events.Event.{Event}
use Rattle.dv_wire.specs.declared.events.Event.TheVariants as events
use Rattle.dv_wire.specs.declared.events.Said.{Said}
use Rattle.dv_wire.specs.declared.events.Said.TheVariants as said
use Rattle.dv_wire.specs.declared.fault.HubFault.TheVariants.{TooManySessions}
use Rattle.dv_wire.specs.declared.hub.Fed.TheVariants as fed
use Rattle.dv_message.specs.Message.{Message, Conversation, reading, closed, Split, split}
use Rattle.dv_message.specs.Commands.{command_of}
use Rattle.dv_wire.specs.Schedule.{World, conversation_of, end, fed_of, number_limit, plain_run, reply_bytes, session_limit, sessions_but, unfinished_in, with_conversation, world_behind, bytes_of}

-- ---- what takes effect, and when

-- what takes effect: a session is opened or refused; the last byte of a session's message arrives; a session ends
pub data Moment : Type 0 where
  opens : Moment
  comes : ℕ → Message → Moment
  ends : ℕ → Moment

-- whether another session can be opened
abbrev pub is_room : ℕ → List (ℕ × Conversation) → Bool
is_room next sessions = nat_lt (length sessions) session_limit && nat_lt next number_limit

-- the sessions with a new one, which has the next number
abbrev pub with_next : ℕ → List (ℕ × Conversation) → List (ℕ × Conversation)
with_next next sessions = sessions ++ (next, reading []) ∷ []

-- the messages that a piece completes, and the conversation after it; none if the session doesn't exist
abbrev pub heard : List ℕ → Option Conversation → Option Split
heard piece None = None
heard piece (Some (reading kept)) = Some (split (kept ++ piece))
heard piece (Some (closed fault)) = Some (record { messages = []; conversation = closed fault })

-- the messages that a piece completes, in order, followed by the later moments
abbrev pub moments_heard : ℕ → List (ℕ × Conversation) → Option Split → (List (ℕ × Conversation) → List Moment) → List Moment
moments_heard session sessions None others = others sessions
moments_heard session sessions (Some s) others = map (comes session) s.messages ++ others (with_conversation session s.conversation sessions)

-- the moments of a schedule in order, from the next session's number and the open sessions
unfoldable pub order : ℕ → List (ℕ × Conversation) → List Event → List Moment
order next sessions [] = []
order next sessions (events.Open ∷ later) = opens ∷ (if is_room next sessions then order (suc next) (with_next next sessions) later else order next sessions later)
order next sessions (events.Piece session piece ∷ later) =
    moments_heard session.number sessions (heard piece (conversation_of session.number sessions)) (λ ss. order next ss later)
order next sessions (events.End session ∷ later) = ends session.number ∷ order next (sessions_but session.number sessions) later

-- the moments of a schedule in order, from this world on
abbrev pub order_of : World → List Event → List Moment
order_of world all = order world.next world.sessions all

-- the command of a message has this property; other moments have none
abbrev pub OfCommand : (Command → Type 0) → Moment → Type 0
OfCommand Meant opens = ⊤
OfCommand Meant (comes session message) = Meant (command_of message)
OfCommand Meant (ends session) = ⊤

-- the command of each message among the moments has this property
abbrev pub OfCommands : (Command → Type 0) → List Moment → Type 0
OfCommands Meant moments = AllByRecursion (OfCommand Meant) moments

-- ---- a machine that takes one moment after the other

-- the state after these moments, if memory never runs out
abbrev pub state_left : State → List Moment → State
state_left state [] = state
state_left state (opens ∷ later) = state_left state later
state_left state (comes session message ∷ later) = state_left (counted_step state session (command_of message)).state later
state_left state (ends session ∷ later) = state_left (end_session session state) later

-- the bytes of the replies to one session in these moments, if memory never runs out
abbrev pub replies_behind : ℕ → State → List Moment → List ℕ
replies_behind session state [] = []
replies_behind session state (opens ∷ later) = replies_behind session state later
replies_behind session state (comes other message ∷ later) =
    (if other == session then reply_bytes message (counted_step state other (command_of message)).reply else []) ++ replies_behind session (counted_step state other (command_of message)).state later
replies_behind session state (ends other ∷ later) = replies_behind session (end_session other state) later

-- ---- a schedule in which memory never runs out

-- what is reported of an event, and the world after it
pub record Happening : Type 0 where
  pub said : Said
  pub world : World

-- what is reported of a piece with these messages, and the world after it
abbrev pub plain_fed : ℕ → World → Option Split → Happening
plain_fed session world None = record { said = said.Fed fed.Unknown []; world = world }
plain_fed session world (Some s) = record {
  said = said.Fed (fed_of (plain_run session world.state s).conversation) (bytes_of (plain_run session world.state s));
  world = world_behind session (plain_run session world.state s) world;
}

-- what is reported of an event, and the world after it, if memory never runs out
abbrev pub plain_event : World → Event → Happening
plain_event world events.Open =
    if is_room world.next world.sessions
    then record { said = said.Opened (Ok (record { number = world.next })); world = record { state = world.state; next = suc world.next; sessions = with_next world.next world.sessions } }
    else record { said = said.Opened (Err TooManySessions); world = world }
plain_event world (events.Piece session piece) = plain_fed session.number world (heard piece (conversation_of session.number world.sessions))
plain_event world (events.End session) = record { said = said.Ended (unfinished_in (conversation_of session.number world.sessions)); world = end session.number world }

-- what is reported of the events of a schedule, and the world after them
pub record Played : Type 0 where
  pub said : List Said
  pub world : World

-- what is reported of an event and of the later ones, and the world after them
abbrev pub played_behind : Happening → (World → Played) → Played
played_behind first others = record { said = first.said ∷ (others first.world).said; world = (others first.world).world }

-- what is reported of a schedule's events, and the world after them, if memory never runs out
unfoldable pub plain_play : World → List Event → Played
plain_play world [] = record { said = []; world = world }
plain_play world (event ∷ later) = played_behind (plain_event world event) (λ behind. plain_play behind later)

-- ---- the replies to one session

-- the bytes of the replies to an event, if it is a piece of this session
abbrev pub replies_in : ℕ → Event → Said → List ℕ
replies_in session (events.Piece other piece) (said.Fed told bytes) = if other.number == session then bytes else []
replies_in session event other = []

-- the bytes of all replies to a session in a schedule
abbrev pub answers : ℕ → List Event → List Said → List ℕ
answers session [] all = []
answers session (event ∷ later) [] = []
answers session (event ∷ later) (first ∷ others) = replies_in session event first ++ answers session later others

-- ---- a schedule, and the one in which memory never runs out

-- this is reported and left by the schedule in which memory never runs out
abbrev pub IsPlain : World → List Event → List Said → World → Type 0
IsPlain old all told new = (told ≡ (plain_play old all).said) × (new ≡ (plain_play old all).world)

-- both schedules leave the same state and give the same replies to each session, if memory never runs out
abbrev pub ComeToSame : World → List Event → List Event → Type 0
ComeToSame world one two =
    ((plain_play world one).world.state ≡ (plain_play world two).world.state)
    × ((session : ℕ) → answers session one (plain_play world one).said ≡ answers session two (plain_play world two).said)

-- the state after a schedule, if its moments are taken one after the other
abbrev pub state_in_order : World → List Event → State
state_in_order world all = state_left world.state (order_of world all)

-- the replies to each session are those of the moments that are taken one after the other
abbrev pub RepliesInOrder : World → List Event → List Said → Type 0
RepliesInOrder world all told = (session : ℕ) → answers session all told ≡ replies_behind session world.state (order_of world all)

-- the state and the replies to each session are those of the moments that are taken one after the other
abbrev pub IsInOrder : World → List Event → List Said → State → Type 0
IsInOrder world all told state = (state ≡ state_in_order world all) × RepliesInOrder world all told
