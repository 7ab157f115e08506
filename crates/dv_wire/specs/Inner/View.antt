-- The part of `View` that only bodies and proofs need.
use Rattle.std.specs.Prelude.{◌≡◌, ◌<◌, ◌≤◌, ◌+◌, ◌^◌, ◌⊎◌, ℕ, List, [], ◌∷◌, ◌++◌, length, drop, Option, Some, None, Result, Ok, Err}
use Rattle.std.specs.List.{concat}
use Rattle.std.specs.Io.KnownBytes.{Consumes, IsAtEnd}
use Rattle.std.specs.Io.KnownBytes.{Appends as KnownAppends}
use Rattle.dv_value.specs.Tree.{Field}
use Rattle.dv_value.specs.Spelling.{spelling}
use Rattle.dv_message.specs.declared.fault.CloseFault.{CloseFault}
use Rattle.dv_message.specs.declared.fault.CloseFault.TheVariants.{NoMemory}
use Rattle.dv_wire.specs.declared.session.Conversation.TheVariants.{Closed}
use Rattle.dv_wire.specs.declared.session.Counts.{Counts}
use Rattle.dv_message.specs.Sections.{body, section_spelling}
use Rattle.dv_message.specs.Message.{Message, message_spelling, Conversation, reading, closed}
use Rattle.dv_core.specs.State.{State}
use Rattle.dv_core.specs.Told.{batch_told}
use Rattle.dv_wire.specs.declared.reply.Body.{Body}
use Rattle.dv_wire.specs.declared.reply.Body.TheVariants as bodies
use Rattle.dv_wire.specs.Schedule.{CarriesOutMessages, Comes, Hears, Run, World, bytes_of, world_behind}
use Rattle.dv_wire.specs.Service.{closing_of, most_reads, reply_count}
use Rattle.dv_wire.specs.declared.fault.RunFault.{RunFault}
use Rattle.dv_wire.specs.declared.fault.RunFault.TheVariants.{Read, Write, TooManyReads, Hub}
use Rattle.dv_wire.specs.declared.hub.Fed.{Fed}
use Rattle.dv_wire.specs.declared.hub.Fed.TheVariants as fed

-- a session that was given a piece keeps these bytes, or is closed
abbrev pub kept_or_closed : {A : Type 0} → Result A CloseFault → List ℕ → Conversation
kept_or_closed (Ok x) kept = reading kept
kept_or_closed (Err fault) kept = closed fault

-- what is kept of a stream after these first bytes, or that its session is closed
abbrev pub left_or_closed : Result ℕ CloseFault → List ℕ → Conversation
left_or_closed (Ok taken) stream = reading (drop taken stream)
left_or_closed (Err fault) stream = closed fault

-- all these messages are carried out and answered, and the session goes on
abbrev pub GoesOn : ℕ → State → List Message → List (List ℕ) → State → Type 0
GoesOn session old messages answers new = CarriesOutMessages session old messages (reading []) (record { answers = answers; state = new; conversation = reading [] })

-- the document that a reply's body is
abbrev pub body_seen : Body → List Field
body_seen (bodies.Whole document) = document
body_seen (bodies.Batch batch) = batch_told batch

-- the bytes that are sent to a message: this reply, or nothing; or there are none, since the session is closed instead
abbrev pub bytes_seen : {E : Type 0} → Message → Result (Option Body) E → Option (List ℕ)
bytes_seen message (Ok (Some reply)) = Some (message_spelling 0 message.request_id 0 (section_spelling (body (spelling (body_seen reply)))))
bytes_seen message (Ok None) = Some []
bytes_seen message (Err e) = None

-- one message is carried out; or the session is closed in place of its answer
abbrev pub Carries : {A E : Type 0} → ℕ → State → Message → List (List ℕ) → State → Result A E → Type 0
Carries session old message answers new (Ok x) = GoesOn session old (message ∷ []) answers new
Carries session old message answers new (Err e) = CarriesOutMessages session old (message ∷ []) (reading []) (record { answers = answers; state = new; conversation = closed NoMemory })

-- one message is counted for each of the answers, and the replies among them, as long as the counts are below 2^64
abbrev pub Counted : Counts → List (List ℕ) → Counts → Type 0
Counted before answers after =
    (before.messages + length answers < 2 ^ 64 → after.messages ≡ before.messages + length answers)
    × (before.replies + reply_count answers < 2 ^ 64 → after.replies ≡ before.replies + reply_count answers)

-- these answers are appended to what was there, and they are counted
abbrev pub Answered : List ℕ → List ℕ → Counts → Counts → (List (List ℕ) → Type 0) → Type 0
Answered old new before after AreAnswered = (answers : List (List ℕ)) × (new ≡ old ++ concat answers) × Counted before answers after × AreAnswered answers

-- the same for a run with these answers, which leaves this state and this conversation
abbrev pub RunAnswered : List ℕ → List ℕ → Counts → Counts → State → Conversation → (Run → Type 0) → Type 0
RunAnswered old new before after state conversation IsRun =
    Answered old new before after (λ answers. IsRun (record { answers = answers; state = state; conversation = conversation }))

-- ---- a whole session, while it is open

-- the session takes what is read, and its answers are written, except the last bytes, which are left unwritten
pub record Talks (session : ℕ) (old : World) (from to before after : Option (List ℕ)) (run : Run) (unwritten : List ℕ) (new : World) : Type 0 where
  pub read : List ℕ
  pub heard : Hears session old.state (reading []) read run
  pub behind : new ≡ world_behind session run old
  pub consumed : Consumes from to read
  pub written : List ℕ
  pub answers : bytes_of run ≡ written ++ unwritten
  pub appended : KnownAppends before after written

-- the first of these bytes are written, and the others are left
abbrev pub Writes : List ℕ → List ℕ → Option (List ℕ) → Option (List ℕ) → Type 0
Writes bytes left before after = (written : List ℕ) × (bytes ≡ written ++ left) × KnownAppends before after written

-- bytes of a session came, or there were none
abbrev pub Came : World → ℕ → List ℕ → List (List ℕ) → Fed → World → Type 0
Came old session bytes answers told new = ((bytes ≡ []) × (answers ≡ []) × (new ≡ old)) ⊎ Comes old session bytes answers told new

-- what was read came from a session, and its answers are written, except the last bytes, which are left
abbrev pub AnswersAll : World → ℕ → List ℕ → Counts → Counts → Fed → List ℕ → World → Option (List ℕ) → Option (List ℕ) → Type 0
AnswersAll old session read before_counts counts told left new before after =
    (answers : List (List ℕ)) × Comes old session read answers told new × Counted before_counts answers counts × Writes (concat answers) left before after

-- all that was read came, and is answered; or some answers are left if the writer failed
abbrev pub AnswersRead : {E : Type 0} → Result Fed E → World → ℕ → List ℕ → Counts → Counts → World → Option (List ℕ) → Option (List ℕ) → Type 0
AnswersRead (Ok told) old session read before_counts counts new before after = AnswersAll old session read before_counts counts told [] new before after
AnswersRead (Err e) old session read before_counts counts new before after = (told : Fed) × (left : List ℕ) × AnswersAll old session read before_counts counts told left new before after

-- what closes a session of which this is reported
abbrev pub closing_fed : Fed → Option CloseFault
closing_fed fed.Open = None
closing_fed (fed.Closed fault) = Some fault
closing_fed fed.Unknown = None

-- what reading to the end leads to, by its result
abbrev pub TalksTo : Result (Counts × Option CloseFault) RunFault → ℕ → World → World → Option (List ℕ) → Option (List ℕ) → Option (List ℕ) → Option (List ℕ) → Type 0
TalksTo (Ok told) session old new from to before after =
    (run : Run) × Talks session old from to before after run [] new × (told.0.messages ≡ length run.answers) × (told.0.replies ≡ reply_count run.answers)
    × (told.1 ≡ closing_of run.conversation) × (told.1 ≡ None → IsAtEnd to)
TalksTo (Err Read) session old new from to before after = (run : Run) × Talks session old from to before after run [] new
TalksTo (Err Write) session old new from to before after = (run : Run) × (unwritten : List ℕ) × Talks session old from to before after run unwritten new
TalksTo (Err TooManyReads) session old new from to before after = (run : Run) × (talks : Talks session old from to before after run [] new) × (most_reads ≤ length talks.read)
TalksTo (Err (Hub fault)) session old new from to before after = ⊥
