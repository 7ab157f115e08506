-- The events of a script's lines, and what is printed for them.
use Rattle.std.specs.Prelude.{◌≡◌, ℕ, false, List, [], ◌∷◌, ◌++◌, Option, Some, slice_get, if◌then◌else◌}
use Rattle.dv_wire.specs.declared.events.Event.{Event}
use Rattle.dv_wire.specs.declared.events.Event.TheVariants as events
use Rattle.dv_wire.specs.declared.events.Said.{Said}
use Rattle.dv_wire.specs.declared.events.Said.TheVariants as said
use Rattle.dv_wire.specs.Playing.{Plays}
use Rattle.dv_scripts.specs.Output.{AreReplies, end_line, fed_text}
use Rattle.dv_scripts.specs.Script.{DoesLines, OpenSessions}
use Rattle.dv_words.specs.declared.said.Line.{Line}
use Rattle.dv_words.specs.declared.said.Line.TheVariants.{Skip, Bytes, End}
use Rattle.dv_scripts.specs.declared.sessions.Session.{Session}

-- the event that opens a session for a line, if its number has none
abbrev pub opening : Option (Option Session) → List Event
opening (Some (Some session)) = []
opening found = events.Open ∷ []

-- the session of the line's number, or the one that is opened for it
abbrev pub session_of : ℕ → Option (Option Session) → Session
session_of next (Some (Some session)) = session
session_of next found = record { id = record { number = next }; is_closed = false }

-- the event that a piece of the session's bytes arrives, unless the session is closed
abbrev pub piece_of : Session → List ℕ → List Event
piece_of session bytes = if session.is_closed then [] else events.Piece session.id bytes ∷ []

-- the events of a line
abbrev pub events_of : OpenSessions → Line → List Event
events_of old Skip = []
events_of old (Bytes number bytes) = opening (slice_get old.sessions number) ++ piece_of (session_of old.hub.next (slice_get old.sessions number)) bytes
events_of old (End number) = opening (slice_get old.sessions number) ++ events.End (session_of old.hub.next (slice_get old.sessions number)).id ∷ []

-- the events of all lines, in the order of the lines
abbrev pub schedule_of : (old new : OpenSessions) (lines : List (List ℕ)) (text : List ℕ) → DoesLines old lines text new → List Event
schedule_of old new [] text done = []
schedule_of old new (line ∷ lines) text (mid, first, others, does, behind, both) = events_of old does.0 ++ schedule_of mid new lines others behind

-- what is printed for an event; nothing if a session is opened
abbrev pub WritesEvent : ℕ → Said → List ℕ → Type 0
WritesEvent number (said.Opened result) text = text ≡ []
WritesEvent number (said.Fed told bytes) text = (replies : List (List ℕ)) × AreReplies replies bytes × (text ≡ fed_text number replies told)
WritesEvent number (said.Ended unfinished) text = text ≡ end_line number unfinished

-- what is printed for events, one after the other
abbrev pub WritesAll : ℕ → List Said → List ℕ → Type 0
WritesAll number [] text = text ≡ []
WritesAll number (first ∷ others) text = (one : List ℕ) × (two : List ℕ) × (text ≡ one ++ two) × WritesEvent number first one × WritesAll number others two

-- what a line prints for its events
abbrev pub TellsEvents : Line → List Said → List ℕ → Type 0
TellsEvents Skip all text = text ≡ []
TellsEvents (Bytes number bytes) all text = WritesAll number all text
TellsEvents (End number) all text = WritesAll number all text

-- what a script prints for the events of its lines, in the order of the lines
abbrev pub TellsLines : (old new : OpenSessions) (lines : List (List ℕ)) (text : List ℕ) → DoesLines old lines text new → List Said → Type 0
TellsLines old new [] text done all = (all ≡ []) × (text ≡ [])
TellsLines old new (line ∷ lines) text (mid, first, others, does, behind, both) all =
    (one : List Said) × (two : List Said) × (all ≡ one ++ two) × TellsEvents does.0 one first × TellsLines mid new lines others behind two × (text ≡ first ++ others)

-- what a line does is one play of its events, for which it prints this text
abbrev pub IsPlayed : OpenSessions → Line → List ℕ → OpenSessions → Type 0
IsPlayed old line text new = (all : List Said) × Plays old.hub (events_of old line) all new.hub × TellsEvents line all text

-- what lines do is one play of their events, in the order of the lines, for which they print this text
abbrev pub ArePlayed : (old new : OpenSessions) (lines : List (List ℕ)) (text : List ℕ) → DoesLines old lines text new → Type 0
ArePlayed old new lines text done = (all : List Said) × Plays old.hub (schedule_of old new lines text done) all new.hub × TellsLines old new lines text done all
