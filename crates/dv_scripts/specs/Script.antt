-- What a script does and prints, line by line.
use Rattle.std.specs.Prelude.{◌≡◌, ℕ, ◌⊎◌, Bool, true, false, List, [], ◌∷◌, ◌++◌, ◌==◌, Option, Some, None, Ok, replicate, slice_get, slice_set}
use Rattle.std.specs.List.{All, slice_split}
use Rattle.dv_wire.specs.declared.hub.Fed.{Fed}
use Rattle.dv_wire.specs.declared.hub.Fed.TheVariants as fed
use Rattle.dv_wire.specs.declared.fault.HubFault.{HubFault}
use Rattle.dv_wire.specs.declared.fault.HubFault.TheVariants as hub_faults
use Rattle.dv_wire.specs.Schedule.{World, Opens, Feeds, unfinished_in, conversation_of, end}
use Rattle.dv_words.specs.Line.{IsLine}
use Rattle.dv_scripts.specs.Output.{AreReplies, end_line, fed_text}
use Rattle.dv_words.specs.declared.said.Line.{Line}
use Rattle.dv_words.specs.declared.said.Line.TheVariants.{Skip, Bytes, End}
use Rattle.dv_words.specs.declared.fault.ScriptFault.{ScriptFault}
use Rattle.dv_words.specs.declared.fault.ScriptFault.TheVariants as script_faults
use Rattle.dv_scripts.specs.declared.sessions.Session.{Session}
use Rattle.dv_scripts.specs.declared.sessions.Sessions.{Sessions}

-- the fault of a script that can't open a session
abbrev pub open_fault : HubFault → ScriptFault
open_fault hub_faults.TooManySessions = script_faults.Sessions
open_fault hub_faults.NoMemory = script_faults.NoMemory

-- the sessions that have not ended, by their numbers in the script, and the hub's world
pub record OpenSessions : Type 0 where
  pub sessions : List (Option Session)
  pub hub : World

-- the sessions of a script in memory, with the hub's world
abbrev pub standing_of : Sessions → World → OpenSessions
standing_of sessions hub = record { sessions = sessions.places; hub = hub }

-- the session with this number: the present one, or a new one that is opened for the number
abbrev pub Finds : OpenSessions → ℕ → Session → OpenSessions → Type 0
Finds old number session new =
    ((slice_get old.sessions number ≡ Some (Some session)) × (new ≡ old))
    ⊎ ((slice_get old.sessions number ≡ Some None) × (session.is_closed ≡ false)
    × Opens old.hub (Ok session.id) new.hub × (new.sessions ≡ slice_set old.sessions number (Some session)))

-- whether a session takes no more bytes after this report
abbrev pub is_closing : Fed → Bool
is_closing fed.Open = false
is_closing (fed.Closed fault) = true
is_closing fed.Unknown = false

-- bytes arrive from a session: its replies are printed, and then a line if it was closed; a closed session ignores the bytes
abbrev pub BringsFrom : OpenSessions → ℕ → Session → List ℕ → List ℕ → OpenSessions → Type 0
BringsFrom old number session bytes text new =
    ((session.is_closed ≡ true) × (text ≡ []) × (new ≡ old))
    ⊎ ((session.is_closed ≡ false) × ((answered : List ℕ) × (replies : List (List ℕ)) × (told : Fed)
    × Feeds old.hub session.id.number bytes answered told new.hub × AreReplies replies answered
    × (text ≡ fed_text number replies told) × (new.sessions ≡ slice_set old.sessions number (Some (record session { is_closed = is_closing told })))))

-- a session ends, and the number of dropped bytes of its unfinished message is printed
abbrev pub EndsSession : OpenSessions → ℕ → Session → List ℕ → OpenSessions → Type 0
EndsSession old number session text new =
    (text ≡ end_line number (unfinished_in (conversation_of session.id.number old.hub.sessions)))
    × (new ≡ record { sessions = slice_set old.sessions number None; hub = end session.id.number old.hub })

-- what a parsed line does and prints
abbrev pub DoesOneLine : OpenSessions → Line → List ℕ → OpenSessions → Type 0
DoesOneLine old Skip text new = (text ≡ []) × (new ≡ old)
DoesOneLine old (Bytes number bytes) text new = (session : Session) × (mid : OpenSessions) × Finds old number session mid × BringsFrom mid number session bytes text new
DoesOneLine old (End number) text new = (session : Session) × (mid : OpenSessions) × Finds old number session mid × EndsSession mid number session text new

-- what a line of text does and prints
abbrev pub DoesLine : OpenSessions → List ℕ → List ℕ → OpenSessions → Type 0
DoesLine old line text new = (meant : Line) × IsLine meant line × DoesOneLine old meant text new

-- the text is not a valid line
abbrev pub IsBad : List ℕ → Type 0
IsBad line = (meant : Line) → IsLine meant line → ⊥

-- what lines do and print, one after the other
abbrev pub DoesLines : OpenSessions → List (List ℕ) → List ℕ → OpenSessions → Type 0
DoesLines old [] text new = (text ≡ []) × (new ≡ old)
DoesLines old (line ∷ lines) text new =
    (mid : OpenSessions) × (first : List ℕ) × (others : List ℕ) × DoesLine old line first mid × DoesLines mid lines others new × (text ≡ first ++ others)

-- whether the byte is a line feed
abbrev pub is_lf : ℕ → Bool
is_lf b = b == 10

-- the bytes contain no line feed
abbrev pub HasNoLf : List ℕ → Type 0
HasNoLf bytes = All (λ b. is_lf b ≡ false) bytes

-- What a script does and prints. Its lines are separated by line feeds; the last line follows the last line feed.
abbrev pub Runs : OpenSessions → List ℕ → List ℕ → OpenSessions → Type 0
Runs old script text new = DoesLines old (slice_split is_lf script) text new

-- the sessions before a script: no number from 0 to 999 has one
abbrev pub no_sessions : World → OpenSessions
no_sessions hub = record { sessions = replicate 1000 None; hub = hub }
