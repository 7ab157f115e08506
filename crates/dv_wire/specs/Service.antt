-- A whole session over a reader and a writer.
use Rattle.std.specs.Prelude.{◌≡◌, ◌≤◌, ◌^◌, ℕ, suc, List, [], ◌∷◌, ◌++◌, length, Option, Some, None, Result, Ok, Err}
use Rattle.std.specs.Io.KnownBytes.{Appends, Consumes, IsAtEnd, Keeps}
use Rattle.dv_message.specs.declared.fault.CloseFault.{CloseFault}
use Rattle.dv_wire.specs.declared.fault.RunFault.{RunFault}
use Rattle.dv_wire.specs.declared.fault.RunFault.TheVariants.{Read, Write, TooManyReads, Hub}
use Rattle.dv_wire.specs.declared.hub.SessionId.{SessionId}
use Rattle.dv_wire.specs.declared.service.Done.{Done}
use Rattle.dv_message.specs.Message.{Conversation, reading, closed}
use Rattle.dv_wire.specs.Schedule.{Run, World, Opens, Hears, bytes_of, end, unfinished_in, world_behind}
use Rattle.dv_streams.specs.Stream.{MoreBy, once_more}

-- A session is opened, these bytes arrive from it, its messages lead to this run, and it ends. The bytes may arrive in any pieces: what
-- may happen is the same as for one piece.
pub record IsSession (old : World) (bytes : List ℕ) (run : Run) (new : World) : Type 0 where
  pub session : SessionId
  pub begun : World
  pub opened : Opens old (Ok session) begun
  pub heard : Hears session.number begun.state (reading []) bytes run
  pub ended : new ≡ end session.number (world_behind session.number run begun)

-- the fault that closed a session, if one did
abbrev pub closing_of : Conversation → Option CloseFault
closing_of (reading kept) = None
closing_of (closed fault) = Some fault

-- how many messages got a reply: those for which bytes were sent
abbrev pub reply_count : List (List ℕ) → ℕ
reply_count [] = 0
reply_count ([] ∷ answers) = reply_count answers
reply_count ((b ∷ bytes) ∷ answers) = suc (reply_count answers)

-- what is reported of a session that has ended
abbrev pub done_of : Run → Done
done_of run = record {
  messages = length run.answers;
  replies = reply_count run.answers;
  closing = closing_of run.conversation;
  unfinished = unfinished_in (Some run.conversation);
}

-- the greatest number of reads
abbrev pub most_reads : ℕ
most_reads = 2 ^ 32

-- Bytes are read and are the bytes of a session. Its replies are written, except the last bytes, which remain unwritten.
pub record Serves (old : World) (from to before after : Option (List ℕ)) (run : Run) (unwritten : List ℕ) (new : World) : Type 0 where
  pub read : List ℕ
  pub session : IsSession old read run new
  pub consumed : Consumes from to read
  pub written : List ℕ
  pub answers : bytes_of run ≡ written ++ unwritten
  pub appended : Appends before after written

-- What serving a session leads to, by its result. At the end of the input, after a closing fault, after a failed read and after too
-- many reads, all messages that were read are answered; each read took at least one byte. If the writer failed, the last bytes of
-- replies are missing. If no session was opened, nothing happened.
abbrev pub ComesTo : Result Done RunFault → World → World → Option (List ℕ) → Option (List ℕ) → Option (List ℕ) → Option (List ℕ) → Type 0
ComesTo (Ok done) old new from to before after = (run : Run) × Serves old from to before after run [] new × (done ≡ done_of run) × (done.closing ≡ None → IsAtEnd to)
ComesTo (Err Read) old new from to before after = (run : Run) × Serves old from to before after run [] new
ComesTo (Err Write) old new from to before after = (run : Run) × (unwritten : List ℕ) × Serves old from to before after run unwritten new
ComesTo (Err TooManyReads) old new from to before after = (run : Run) × (served : Serves old from to before after run [] new) × (most_reads ≤ length served.read)
ComesTo (Err (Hub fault)) old new from to before after = Opens old (Err fault) new × Keeps from to × Keeps before after

-- the number of failures of the reader after the session: one more if the result is a failed read
abbrev pub failures_read_in : {A : Type 0} → Result A RunFault → ℕ → ℕ
failures_read_in (Ok done) failures = failures
failures_read_in (Err Read) failures = once_more failures
failures_read_in (Err Write) failures = failures
failures_read_in (Err TooManyReads) failures = failures
failures_read_in (Err (Hub fault)) failures = failures

-- the number of failures of the writer after the session: one more if the result is a failed write
abbrev pub failures_written_in : {A : Type 0} → Result A RunFault → ℕ → ℕ
failures_written_in (Ok done) failures = failures
failures_written_in (Err Read) failures = failures
failures_written_in (Err Write) failures = once_more failures
failures_written_in (Err TooManyReads) failures = failures
failures_written_in (Err (Hub fault)) failures = failures

-- the reader was asked at most as often as allowed
abbrev pub AsksFew : ℕ → ℕ → Type 0
AsksFew old new = (reads : ℕ) × (reads ≤ most_reads) × MoreBy reads old new

-- how often the reader was asked: exactly the greatest number if the result is too many reads, and never if no session was opened
abbrev pub AsksInRun : {A : Type 0} → Result A RunFault → ℕ → ℕ → Type 0
AsksInRun (Ok done) old new = AsksFew old new
AsksInRun (Err Read) old new = AsksFew old new
AsksInRun (Err Write) old new = AsksFew old new
AsksInRun (Err TooManyReads) old new = MoreBy most_reads old new
AsksInRun (Err (Hub fault)) old new = MoreBy 0 old new
