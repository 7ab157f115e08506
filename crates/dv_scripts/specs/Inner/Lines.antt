-- Lines that are not carried out, or whose output is not printed.
use Rattle.std.specs.Prelude.{◌≡◌, ◌⊎◌, ℕ, List, Some, None, Err, slice_get}
use Rattle.dv_wire.specs.Schedule.{World, Opens}
use Rattle.dv_wire.specs.declared.fault.HubFault.TheVariants.{TooManySessions}
use Rattle.dv_scripts.specs.Script.{DoesOneLine, OpenSessions}
use Rattle.dv_scripts.specs.Stops.{IsRefused}
use Rattle.dv_words.specs.declared.said.Line.{Line}
use Rattle.dv_words.specs.declared.fault.ScriptFault.{ScriptFault}
use Rattle.dv_words.specs.declared.fault.ScriptFault.TheVariants.{BadLine, Read, TooManyReads, Write, NoMemory, Sessions}

-- no session is opened for a number that has none: the hub refuses it, or memory ran out; the hub stays as it was
abbrev pub OpensNone : ScriptFault → OpenSessions → ℕ → World → Type 0
OpensNone (BadLine n) old number new = ⊥
OpensNone Read old number new = ⊥
OpensNone TooManyReads old number new = ⊥
OpensNone Write old number new = ⊥
OpensNone NoMemory old number new = new ≡ old.hub
OpensNone Sessions old number new = (slice_get old.sessions number ≡ Some None) × Opens old.hub (Err TooManySessions) new

-- a line isn't carried out, since its session can't be opened; or memory runs out for the line or for what it prints
abbrev pub StopsLine : ScriptFault → OpenSessions → Line → World → Type 0
StopsLine (BadLine n) old meant new = ⊥
StopsLine Read old meant new = ⊥
StopsLine TooManyReads old meant new = ⊥
StopsLine Write old meant new = ⊥
StopsLine NoMemory old meant new = (new ≡ old.hub) ⊎ ((answer : List ℕ) × (end : OpenSessions) × DoesOneLine old meant answer end × (end.hub ≡ new))
StopsLine Sessions old meant new = IsRefused old meant new
