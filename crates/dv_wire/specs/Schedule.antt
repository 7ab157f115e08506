-- Sessions and their events: a session is opened, a piece of its bytes arrives, the session ends.
use Rattle.std.specs.Prelude.{◌≡◌, ℕ, suc, ◌≤◌, ◌<◌, ◌^◌, ◌⊎◌, List, [], ◌∷◌, ◌++◌, length, take, Option, Some, None, Result, Ok, Err, MatchOption, ◌==◌, if◌then◌else◌}
use Rattle.std.specs.List.{concat}
use Rattle.dv_value.specs.Tree.{Field}
use Rattle.dv_value.specs.Spelling.{spelling}
use Rattle.dv_message.specs.declared.fault.CloseFault.{CloseFault}
use Rattle.dv_message.specs.declared.fault.CloseFault.TheVariants.{NoMemory}
use Rattle.dv_wire.specs.declared.fault.HubFault.{HubFault}
use Rattle.dv_wire.specs.declared.fault.HubFault.TheVariants as hub_faults
use Rattle.dv_command.specs.declared.command.Command.{Command}
use Rattle.dv_core.specs.declared.outcome.Outcome.{Outcome}
use Rattle.dv_core.specs.declared.outcome.Outcome.TheVariants.{Reply, Wanting, NoReply}
use Rattle.dv_wire.specs.declared.hub.SessionId.{SessionId}
use Rattle.dv_wire.specs.declared.hub.Fed.{Fed}
use Rattle.dv_wire.specs.declared.hub.Fed.TheVariants as fed
use Rattle.dv_message.specs.Sections.{body, section_spelling}
use Rattle.dv_message.specs.Message.{Message, front_length, message_spelling, Conversation, reading, closed, Split, split}
use Rattle.dv_message.specs.Commands.{command_of}
use Rattle.dv_catalog.specs.Marks.{Marks}
use Rattle.dv_core.specs.State.{State, standing}
use Rattle.dv_core.specs.Step.{Answer, MemoryStep, counted_step, end_session, step}

-- ---- the messages of a session, one after the other

-- the bytes of a reply; empty if the message has the flag moreToCome
abbrev pub reply_bytes : Message → List Field → List ℕ
reply_bytes message reply = if message.more_to_come then [] else message_spelling 0 message.request_id 0 (section_spelling (body (spelling reply)))

-- The bytes that are sent for the outcome of a message, which may be empty; `None` if the session is closed instead: there is no reply,
-- or moreToCome would suppress a reply that reports that memory ran out. So no command fails unreported.
abbrev pub bytes_to : Message → Outcome → Option (List ℕ)
bytes_to message (Reply reply) = Some (reply_bytes message reply)
bytes_to message (Wanting reply) = if message.more_to_come then None else Some (reply_bytes message reply)
bytes_to message NoReply = None

-- what messages lead to: the bytes sent for each message that is carried out, which may be empty; the state after them; and the
-- conversation after them
pub record Run : Type 0 where
  pub answers : List (List ℕ)
  pub state : State
  pub conversation : Conversation

-- all bytes that are sent
abbrev pub bytes_of : Run → List ℕ
bytes_of run = concat run.answers

-- a run with these bytes of replies before its own
abbrev pub in_front : List (List ℕ) → Run → Run
in_front answers others = record { answers = answers ++ others.answers; state = others.state; conversation = others.conversation }

-- the run in which no message is carried out, with the conversation that is given
abbrev pub silence : State → Conversation → Run
silence state conversation = record { answers = []; state = state; conversation = conversation }

-- the run in which one message is carried out and nothing is sent for it, with the conversation that is given
abbrev pub unanswered : State → Conversation → Run
unanswered state conversation = record { answers = [] ∷ []; state = state; conversation = conversation }

-- After a step its bytes are sent, which may be empty, and then the other messages follow. The session is closed instead if the step
-- gives `None`, or if memory runs out for its bytes.
abbrev pub Follows : Option (List ℕ) → State → (Run → Type 0) → Run → Type 0
Follows None state Others run = run ≡ unanswered state (closed NoMemory)
Follows (Some bytes) state Others run = ((others : Run) × Others others × (run ≡ in_front (bytes ∷ []) others)) ⊎ (run ≡ unanswered state (closed NoMemory))

-- which outcomes a command of a session may have, and with which state after it
abbrev pub SessionSteps : Type 1
SessionSteps = State → ℕ → Command → Outcome → State → Type 0

-- the messages of a session are carried out in order by these steps, and then the conversation is as given; or the session is closed at
-- one of them
abbrev pub CarriesOutBy : SessionSteps → ℕ → State → List Message → Conversation → Run → Type 0
CarriesOutBy Step session old [] conversation run = run ≡ silence old conversation
CarriesOutBy Step session old (message ∷ messages) conversation run =
    (outcome : Outcome) × (mid : State) × Step old session (command_of message) outcome mid
    × Follows (bytes_to message outcome) mid (CarriesOutBy Step session mid messages conversation) run

-- the messages of a session are carried out in order by steps of the reference machine, which may run out of memory; the session may be
-- closed at one of them
abbrev pub CarriesOutMessages : ℕ → State → List Message → Conversation → Run → Type 0
CarriesOutMessages = CarriesOutBy MemoryStep

-- a message of a session is carried out, and the session goes on with these bytes of an unfinished message
abbrev pub GoesOn : ℕ → State → Message → List ℕ → Run → Type 0
GoesOn session old message kept run = CarriesOutMessages session old (message ∷ []) (reading kept) run × (run.conversation ≡ reading kept)

-- the run in which the step of a message is done and nothing is sent for it, with these marks of the views
abbrev pub done_unanswered : ℕ → State → Message → List ℕ → Marks → Run
done_unanswered session old message kept marks = unanswered (standing marks (step old session (command_of message)).state) (reading kept)

-- the run of a message with this answer, followed by the run of the other messages
abbrev pub plain_behind : Message → Answer → (State → Run) → Run
plain_behind message answer others = in_front (reply_bytes message answer.reply ∷ []) (others answer.state)

-- what the messages of a session lead to if memory never runs out: each is carried out by its step, and live views count its work
unfoldable pub plain_messages : ℕ → State → List Message → Conversation → Run
plain_messages session state [] conversation = silence state conversation
plain_messages session state (message ∷ messages) conversation =
    plain_behind message (counted_step state session (command_of message)) (λ behind. plain_messages session behind messages conversation)

-- what the stream of a session leads to if memory never runs out
abbrev pub plain_run : ℕ → State → Split → Run
plain_run session state stream = plain_messages session state stream.messages stream.conversation

-- what the bytes of a session lead to if memory never runs out
abbrev pub plain_bytes : ℕ → State → List ℕ → Run
plain_bytes session state bytes = plain_run session state (split bytes)

-- what a session may do with a stream
pub data TakesBy (Step : SessionSteps) (session : ℕ) (old : State) (stream : Split) (run : Run) : Type 0 where
  -- all its messages are carried out
  takes_all : CarriesOutBy Step session old stream.messages stream.conversation run → TakesBy Step session old stream run
  -- memory runs out for its bytes after some of the messages, and the session is closed
  takes_some : (count : ℕ) → CarriesOutBy Step session old (take count stream.messages) (closed NoMemory) run → TakesBy Step session old stream run

-- what a session may do with a stream by steps of the reference machine
abbrev pub TakesSplit : ℕ → State → Split → Run → Type 0
TakesSplit = TakesBy MemoryStep

-- a session receives a piece of its bytes; a closed one ignores it
abbrev pub HearsBy : SessionSteps → ℕ → State → Conversation → List ℕ → Run → Type 0
HearsBy Step session old (reading kept) piece run = TakesBy Step session old (split (kept ++ piece)) run
HearsBy Step session old (closed fault) piece run = run ≡ silence old (closed fault)

-- a session receives a piece of its bytes, and its messages are carried out by steps of the reference machine
abbrev pub Hears : ℕ → State → Conversation → List ℕ → Run → Type 0
Hears = HearsBy MemoryStep

-- ---- all sessions

-- the state, the number of the next session, and the sessions that were opened and have not ended, with their conversations
pub record World : Type 0 where
  pub state : State
  pub next : ℕ
  pub sessions : List (ℕ × Conversation)

-- the world before the first session is opened
abbrev pub world_of : State → World
world_of state = record { state = state; next = 0; sessions = [] }

-- the conversation of the session with this number, if there is one
abbrev pub conversation_of : ℕ → List (ℕ × Conversation) → Option Conversation
conversation_of session [] = None
conversation_of session (s ∷ ss) = if s.0 == session then Some s.1 else conversation_of session ss

-- no session has this number
abbrev pub IsUnknown : ℕ → World → Type 0
IsUnknown session world = conversation_of session world.sessions ≡ None

-- the session with this number keeps these bytes of an unfinished message
abbrev pub IsReading : ℕ → List ℕ → World → Type 0
IsReading session kept world = conversation_of session world.sessions ≡ Some (reading kept)

-- the session with this number was closed by this fault
abbrev pub IsClosed : ℕ → CloseFault → World → Type 0
IsClosed session fault world = conversation_of session world.sessions ≡ Some (closed fault)

-- the session with this number has the same conversation in both worlds, or isn't there in either
abbrev pub HasSameConversation : ℕ → World → World → Type 0
HasSameConversation session old new = conversation_of session new.sessions ≡ conversation_of session old.sessions

-- the sessions with this conversation for one of them
abbrev pub with_conversation : ℕ → Conversation → List (ℕ × Conversation) → List (ℕ × Conversation)
with_conversation session now [] = []
with_conversation session now (s ∷ ss) = if s.0 == session then (session, now) ∷ ss else s ∷ with_conversation session now ss

-- the sessions without the one with this number
abbrev pub sessions_but : ℕ → List (ℕ × Conversation) → List (ℕ × Conversation)
sessions_but session [] = []
sessions_but session (s ∷ ss) = if s.0 == session then ss else s ∷ sessions_but session ss

-- the greatest number of sessions that were opened and have not ended
abbrev pub session_limit : ℕ
session_limit = 1000

-- the greatest number of sessions in all; they are numbered from 0
abbrev pub number_limit : ℕ
number_limit = 2 ^ 32

-- ---- events

-- a session is opened with the next number; refused if 1,000 were opened and have not ended, those closed by a fault included; if the
-- numbers are used up; or if memory runs out
abbrev pub Opens : World → Result SessionId HubFault → World → Type 0
Opens old (Ok session) new =
    (length old.sessions < session_limit) × (old.next < number_limit) × (session.number ≡ old.next)
    × (new ≡ record { state = old.state; next = suc old.next; sessions = old.sessions ++ (old.next, reading []) ∷ [] })
Opens old (Err hub_faults.TooManySessions) new = ((session_limit ≤ length old.sessions) ⊎ (number_limit ≤ old.next)) × (new ≡ old)
Opens old (Err hub_faults.NoMemory) new = new ≡ old

-- what is reported of a conversation: open, or closed by a fault
abbrev pub fed_of : Conversation → Fed
fed_of (reading bytes) = fed.Open
fed_of (closed fault) = fed.Closed fault

-- the world after a run of one session
abbrev pub world_behind : ℕ → Run → World → World
world_behind session run old = record { state = run.state; next = old.next; sessions = with_conversation session run.conversation old.sessions }

-- A piece of a session's bytes arrives: the replies to its messages, and whether the session is still open. A session that doesn't
-- exist gets no reply.
abbrev pub ComesBy : SessionSteps → World → ℕ → List ℕ → List (List ℕ) → Fed → World → Type 0
ComesBy Step old session piece answers told new =
    MatchOption (conversation_of session old.sessions)
    ((answers ≡ []) × (told ≡ fed.Unknown) × (new ≡ old))
    (λ before. (run : Run) × HearsBy Step session old.state before piece run × (answers ≡ run.answers) × (told ≡ fed_of run.conversation) × (new ≡ world_behind session run old))

-- a piece of a session's bytes arrives, and its messages are carried out by steps of the reference machine
abbrev pub Comes : World → ℕ → List ℕ → List (List ℕ) → Fed → World → Type 0
Comes = ComesBy MemoryStep

-- a piece of a session's bytes arrives: the bytes of all replies, and whether the session is still open
abbrev pub FeedsBy : SessionSteps → World → ℕ → List ℕ → List ℕ → Fed → World → Type 0
FeedsBy Step old session piece bytes told new = (answers : List (List ℕ)) × (bytes ≡ concat answers) × ComesBy Step old session piece answers told new

-- a piece of a session's bytes arrives, and its messages are carried out by steps of the reference machine: the bytes of all replies,
-- and whether the session is still open
abbrev pub Feeds : World → ℕ → List ℕ → List ℕ → Fed → World → Type 0
Feeds = FeedsBy MemoryStep

-- no bytes are sent, and only this is reported
abbrev pub SaysOnly : Fed → List ℕ → Fed → Type 0
SaysOnly told bytes answer = (bytes ≡ []) × (answer ≡ told)

-- whatever piece of a session's bytes arrives, this holds of the bytes of all replies, of what is reported, and of the world after it
abbrev pub EachPiece : World → ℕ → (List ℕ → Fed → World → Type 0) → Type 0
EachPiece old session IsSo = (piece bytes : List ℕ) (answer : Fed) (new : World) → Feeds old session piece bytes answer new → IsSo bytes answer new

-- pieces of a session's bytes arrive, one directly after the other: the bytes of all replies, and whether the session is still open at
-- the end
abbrev pub FeedsAllBy : SessionSteps → World → ℕ → List ℕ → List (List ℕ) → List ℕ → Fed → World → Type 0
FeedsAllBy Step old session piece [] bytes answer new = FeedsBy Step old session piece bytes answer new
FeedsAllBy Step old session piece (next ∷ pieces) bytes answer new =
    (first : List ℕ) × (others : List ℕ) × (mid : World) × (told : Fed) × (bytes ≡ first ++ others)
    × FeedsBy Step old session piece first told mid × FeedsAllBy Step mid session next pieces others answer new

-- pieces of a session's bytes arrive, one directly after the other, and their messages are carried out by steps of the reference
-- machine
abbrev pub FeedsAll : World → ℕ → List ℕ → List (List ℕ) → List ℕ → Fed → World → Type 0
FeedsAll = FeedsAllBy MemoryStep

-- the bytes of all pieces
abbrev pub stream_of : List ℕ → List (List ℕ) → List ℕ
stream_of piece [] = piece
stream_of piece (next ∷ pieces) = piece ++ stream_of next pieces

-- pieces of a session's bytes arrive, and what is answered and left is as this run says
abbrev pub FeedsRun : World → ℕ → List ℕ → List (List ℕ) → Run → Type 0
FeedsRun world session piece pieces run = FeedsAll world session piece pieces (bytes_of run) (fed_of run.conversation) (world_behind session run world)

-- these bytes are appended to what was there
abbrev pub Appends : List ℕ → List ℕ → (List ℕ → Type 0) → Type 0
Appends old new AreAnswered = (bytes : List ℕ) × (new ≡ old ++ bytes) × AreAnswered bytes

-- the number of bytes of the unfinished message of a session; 0 if it is closed or doesn't exist
abbrev pub unfinished_in : Option Conversation → ℕ
unfinished_in None = 0
unfinished_in (Some (closed fault)) = 0
unfinished_in (Some (reading kept)) = length kept

-- how many bytes of a piece belong to the session's next message, as far as its length is known; all if the session ignores them
abbrev pub whole_front : Option Conversation → List ℕ → ℕ
whole_front None piece = length piece
whole_front (Some (closed fault)) piece = length piece
whole_front (Some (reading kept)) piece = front_length kept piece

-- a session ends: the bytes of its unfinished message are dropped, and its cursors are closed
abbrev pub end : ℕ → World → World
end session old = record { state = end_session session old.state; next = old.next; sessions = sessions_but session old.sessions }
