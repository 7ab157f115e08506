-- Worked examples of sessions: how they are opened and end, and what is answered to a message.
use Rattle.std.specs.Prelude.{◌≡◌, ◌<◌, ℕ, suc, length, Bool, true, false, List, [], ◌∷◌, ◌++◌, Some, None, Ok, Err, pos, codes}
use Rattle.dv_value.specs.Tree.{string, int32, Field}
use Rattle.dv_message.specs.declared.fault.CloseFault.TheVariants.{BadLength, NoMemory}
use Rattle.dv_message.specs.Message.{Conversation, reading, closed, split}
use Rattle.dv_message.specs.Inner.Examples.{asks, empty_document, op_msg_header}
use Rattle.dv_wire.specs.declared.fault.HubFault.TheVariants.{TooManySessions}
use Rattle.dv_wire.specs.declared.hub.SessionId.{SessionId}
use Rattle.dv_core.specs.declared.outcome.Outcome.TheVariants.{Reply, Wanting, NoReply}
use Rattle.dv_core.specs.State.{State}
use Rattle.dv_core.specs.Step.{end_session}
use Rattle.dv_wire.specs.Schedule.{World, Opens, reply_bytes, bytes_to, CarriesOutMessages, plain_run, unanswered, unfinished_in, end}

-- {ping: 1, $db: "t"}, its bytes, and a message with it and these flags
abbrev pub ping_fields : List Field
ping_fields = (codes "ping", int32 (pos 1)) ∷ (codes "$db", string (codes "t")) ∷ []

abbrev pub ping_document : List ℕ
ping_document = 26 ∷ 0 ∷ 0 ∷ 0 ∷ 16 ∷ 112 ∷ 105 ∷ 110 ∷ 103 ∷ 0 ∷ 1 ∷ 0 ∷ 0 ∷ 0 ∷ 2 ∷ 36 ∷ 100 ∷ 98 ∷ 0 ∷ 2 ∷ 0 ∷ 0 ∷ 0 ∷ 116 ∷ 0 ∷ 0 ∷ []

abbrev pub ping_message : ℕ → List ℕ
ping_message flags = op_msg_header 47 ++ flags ∷ 0 ∷ 0 ∷ 0 ∷ 0 ∷ ping_document

-- the reply {ok: 1}, and the message with it
abbrev pub ok : List Field
ok = (codes "ok", int32 (pos 1)) ∷ []

abbrev pub pong : List ℕ
pong = 34 ∷ 0 ∷ 0 ∷ 0 ∷ 0 ∷ 0 ∷ 0 ∷ 0 ∷ 7 ∷ 0 ∷ 0 ∷ 0 ∷ 221 ∷ 7 ∷ 0 ∷ 0 ∷ 0 ∷ 0 ∷ 0 ∷ 0 ∷ 0 ∷ 13 ∷ 0 ∷ 0 ∷ 0 ∷ 16 ∷ 111 ∷ 107 ∷ 0 ∷ 1 ∷ 0 ∷ 0 ∷ 0 ∷ 0 ∷ []

-- a world with these sessions
abbrev pub world : State → ℕ → List (ℕ × Conversation) → World
world state next sessions = record { state = state; next = next; sessions = sessions }

abbrev pub id : ℕ → SessionId
id number = record { number = number }

pub record SessionExamples : Type 0 where
  pub first : (state : State) → Opens (world state 0 []) (Ok (id 0)) (world state 1 ((0, reading []) ∷ []))
  -- 1,000 sessions may be opened and not ended, closed ones included; another one is opened only once one of them has ended
  pub another : (state : State) (next : ℕ) (sessions : List (ℕ × Conversation)) → length sessions ≡ 999 → next < 4294967296
      → Opens (world state next sessions) (Ok (id next)) (world state (suc next) (sessions ++ (next, reading []) ∷ []))
  pub too_many : (state : State) (next : ℕ) (sessions : List (ℕ × Conversation)) (session : SessionId) (new : World) → length sessions ≡ 1000
      → Opens (world state next sessions) (Ok session) new → ⊥
  pub not_too_many : (state : State) (new : World) → Opens (world state 0 []) (Err TooManySessions) new → ⊥
  pub after_an_end : (state : State) (others : List (ℕ × Conversation)) → length others ≡ 999
      → Opens (end 0 (world state 1000 ((0, closed BadLength) ∷ others))) (Ok (id 1000)) (world (end_session 0 state) 1001 (others ++ (1000, reading []) ∷ []))
  -- there are 4,294,967,296 numbers
  pub last_number : (state : State) → Opens (world state 4294967295 []) (Ok (id 4294967295)) (world state 4294967296 ((4294967295, reading []) ∷ []))
  pub no_number : (state : State) (session : SessionId) (new : World) → Opens (world state 4294967296 []) (Ok session) new → ⊥
  pub unfinished : unfinished_in (Some (reading (26 ∷ 0 ∷ []))) ≡ 2
  pub none_unfinished : unfinished_in (Some (closed BadLength)) ≡ 0
  -- a ping is answered, but not if moreToCome leaves its reply out; the last message is not whole
  pub pings : (state : State) (session : ℕ)
      → plain_run session state (split (ping_message 0 ++ ping_message 2 ++ ping_message 0 ++ 47 ∷ [])) ≡ record { answers = pong ∷ [] ∷ pong ∷ []; state = state; conversation = reading (47 ∷ []) }

pub record WantOverBytes : Type 0 where
  -- moreToCome leaves a reply out, but not one that reports that memory ran out: its session can't go on
  pub plain : (reply : List Field) → bytes_to (asks true empty_document) (Reply reply) ≡ Some []
  pub untold : (reply : List Field) → bytes_to (asks true empty_document) (Wanting reply) ≡ None
  pub told : (reply : List Field) → bytes_to (asks false empty_document) (Wanting reply) ≡ Some (reply_bytes (asks false empty_document) reply)
  pub no_reply : (more_to_come : Bool) → bytes_to (asks more_to_come empty_document) NoReply ≡ None
  -- a command that runs out of memory, and waits for no reply
  pub refused : (state : State) (session : ℕ) → CarriesOutMessages session state (asks true empty_document ∷ []) (reading []) (unanswered state (closed NoMemory))
