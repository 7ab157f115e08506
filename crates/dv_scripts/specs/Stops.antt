-- Scripts that end before their last line.
use Rattle.std.specs.Prelude.{◌≡◌, ◌⊎◌, ℕ, suc, List, [], ◌∷◌, ◌++◌, length, Bool, true, false, Option, Some, None, Result, Ok, Err, IfSome, slice_get}
use Rattle.std.specs.Io.KnownBytes.{Appends, Consumes}
use Rattle.std.specs.List.{slice_split}
use Rattle.dv_wire.specs.Schedule.{World, Opens}
use Rattle.dv_wire.specs.Service.{AsksFew, most_reads}
use Rattle.dv_streams.specs.Stream.{MoreBy, once_more}
use Rattle.dv_wire.specs.declared.fault.HubFault.TheVariants.{TooManySessions}
use Rattle.dv_words.specs.Line.{IsLine}
use Rattle.dv_scripts.specs.Script.{DoesLine, DoesLines, IsBad, Runs, OpenSessions, is_lf}
use Rattle.dv_words.specs.declared.said.Line.{Line}
use Rattle.dv_words.specs.declared.said.Line.TheVariants.{Skip, Bytes, End}
use Rattle.dv_words.specs.declared.fault.ScriptFault.{ScriptFault}
use Rattle.dv_words.specs.declared.fault.ScriptFault.TheVariants.{BadLine, Read, TooManyReads, Write, NoMemory, Sessions}

-- ---- at a line

-- the session's number in a line
abbrev pub number_in : Line → Option ℕ
number_in Skip = None
number_in (Bytes number bytes) = Some number
number_in (End number) = Some number

-- the number in a line has no session, and the hub refuses to open one
abbrev pub IsRefused : OpenSessions → Line → World → Type 0
IsRefused old meant new =
    (number : ℕ) × (number_in meant ≡ Some number) × (slice_get old.sessions number ≡ Some None) × Opens old.hub (Err TooManySessions) new

-- a line is carried out and only this part of its output is printed, or the line does nothing
abbrev pub IsCutShort : OpenSessions → List ℕ → List ℕ → World → Type 0
IsCutShort old line part new =
    ((part ≡ []) × (new ≡ old.hub)) ⊎ ((unwritten : List ℕ) × (end : OpenSessions) × DoesLine old line (part ++ unwritten) end × (end.hub ≡ new))

-- Why the line with this number ends a script, the part of its output that is printed, and the world after it. A line that isn't valid,
-- or whose session can't be opened, changes nothing. If memory runs out, none of its output is printed.
abbrev pub EndsAt : ScriptFault → OpenSessions → ℕ → List ℕ → List ℕ → World → Type 0
EndsAt (BadLine n) old number line part new = (n ≡ number) × IsBad line × (part ≡ []) × (new ≡ old.hub)
EndsAt Read old number line part new = ⊥
EndsAt TooManyReads old number line part new = ⊥
EndsAt Write old number line part new = IsCutShort old line part new
EndsAt NoMemory old number line part new = (part ≡ []) × IsCutShort old line part new
EndsAt Sessions old number line part new = (part ≡ []) × ((meant : Line) × IsLine meant line × IsRefused old meant new)

-- ---- a whole script

-- the lines before one are carried out and their output is printed; that line, numbered from 1, ends the script
pub record StopsScript (fault : ScriptFault) (old : OpenSessions) (script text : List ℕ) (new : World) : Type 0 where
  pub lines : List (List ℕ)
  pub line : List ℕ
  pub others : List (List ℕ)
  pub split : slice_split is_lf script ≡ lines ++ line ∷ others
  pub said : List ℕ
  pub mid : OpenSessions
  pub done : DoesLines old lines said mid
  pub part : List ℕ
  pub written : text ≡ said ++ part
  pub why : EndsAt fault mid (suc (length lines)) line part new

-- the script is carried out to its end and prints this text, and this is the world after it
abbrev pub RunsTo : OpenSessions → List ℕ → List ℕ → World → Type 0
RunsTo old script text new = (end : OpenSessions) × Runs old script text end × (end.hub ≡ new)

-- all lines that were read with their line feed are carried out, and nothing that follows the last line feed
pub record DoesWhole (old : OpenSessions) (read text : List ℕ) (new : World) : Type 0 where
  pub lines : List (List ℕ)
  pub kept : List ℕ
  pub split : slice_split is_lf read ≡ lines ++ kept ∷ []
  pub end : OpenSessions
  pub done : DoesLines old lines text end
  pub left : end.hub ≡ new

-- the script is the whole input of the reader, if that is known, and `Holds` is true of it and of what the writer took
abbrev pub OfScript : (List ℕ → List ℕ → Type 0) → Option (List ℕ) → Option (List ℕ) → Option (List ℕ) → Type 0
OfScript Holds from before after = (script : List ℕ) × (text : List ℕ) × IfSome from (λ known. script ≡ known) × Appends before after text × Holds script text

-- `Holds` is true of what was read and of what the writer took
abbrev pub OfRead : (List ℕ → List ℕ → Type 0) → Option (List ℕ) → Option (List ℕ) → Option (List ℕ) → Option (List ℕ) → Type 0
OfRead Holds from to before after = (read : List ℕ) × (text : List ℕ) × Consumes from to read × Appends before after text × Holds read text

-- What is done and printed when a script ends with a fault. The writer may also fail after the last line, when everything is printed.
abbrev pub StopsBy : ScriptFault → OpenSessions → Option (List ℕ) → Option (List ℕ) → Option (List ℕ) → Option (List ℕ) → World → Type 0
StopsBy (BadLine n) old from to before after new = OfScript (λ script text. StopsScript (BadLine n) old script text new) from before after
StopsBy Read old from to before after new = OfRead (λ read text. DoesWhole old read text new) from to before after
StopsBy TooManyReads old from to before after new = OfRead (λ read text. DoesWhole old read text new) from to before after
StopsBy Write old from to before after new = OfScript (λ script text. StopsScript Write old script text new ⊎ RunsTo old script text new) from before after
StopsBy NoMemory old from to before after new = OfScript (λ script text. StopsScript NoMemory old script text new) from before after
StopsBy Sessions old from to before after new = OfScript (λ script text. StopsScript Sessions old script text new) from before after

-- ---- readers and writers

-- whether reading failed
abbrev pub script_read_failed : ScriptFault → Bool
script_read_failed Read = true
script_read_failed fault = false

-- whether writing failed
abbrev pub script_write_failed : ScriptFault → Bool
script_write_failed Write = true
script_write_failed fault = false

-- the number of failures of the writer: one more if the result is a failed write; after another fault writing may fail too, which is
-- not reported
abbrev pub FailsWriting : {A : Type 0} → Result A ScriptFault → ℕ → ℕ → Type 0
FailsWriting (Ok done) old new = new ≡ old
FailsWriting (Err (BadLine n)) old new = (new ≡ old) ⊎ (new ≡ once_more old)
FailsWriting (Err Read) old new = (new ≡ old) ⊎ (new ≡ once_more old)
FailsWriting (Err TooManyReads) old new = (new ≡ old) ⊎ (new ≡ once_more old)
FailsWriting (Err Write) old new = new ≡ once_more old
FailsWriting (Err NoMemory) old new = (new ≡ old) ⊎ (new ≡ once_more old)
FailsWriting (Err Sessions) old new = (new ≡ old) ⊎ (new ≡ once_more old)

-- the number of reads: exactly the greatest number if the result is too many reads, otherwise at most that
abbrev pub AsksForScript : {A : Type 0} → Result A ScriptFault → ℕ → ℕ → Type 0
AsksForScript (Ok done) old new = AsksFew old new
AsksForScript (Err (BadLine n)) old new = AsksFew old new
AsksForScript (Err Read) old new = AsksFew old new
AsksForScript (Err TooManyReads) old new = MoreBy most_reads old new
AsksForScript (Err Write) old new = AsksFew old new
AsksForScript (Err NoMemory) old new = AsksFew old new
AsksForScript (Err Sessions) old new = AsksFew old new
