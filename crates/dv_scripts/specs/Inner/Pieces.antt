-- Scripts that come in pieces.
use Rattle.std.specs.Prelude.{◌≡◌, ◌≤◌, ◌+◌, ℕ, List, ◌∷◌, ◌++◌, Option, length}
use Rattle.std.specs.Io.KnownBytes.{Appends}
use Rattle.std.specs.List.{slice_split}
use Rattle.dv_wire.specs.Schedule.{World}
use Rattle.dv_scripts.specs.Script.{DoesLine, DoesLines, OpenSessions, Runs, is_lf, standing_of}
use Rattle.dv_scripts.specs.Stops.{EndsAt}
use Rattle.dv_words.specs.declared.fault.ScriptFault.{ScriptFault}
use Rattle.dv_scripts.specs.declared.script.Progress.{Progress}

-- These bytes follow a line's first ones. The lines that end in them are done, whatever follows, and the bytes after the last LF
-- are kept.
pub record TakesPiece (old : OpenSessions) (line bytes text : List ℕ) (new : OpenSessions) (kept : List ℕ) : Type 0 where
  pub lines : List (List ℕ)
  pub split : (after : List ℕ) → slice_split is_lf (line ++ (bytes ++ after)) ≡ lines ++ slice_split is_lf (kept ++ after)
  pub few : length lines ≤ length bytes
  pub done : DoesLines old lines text new

-- The same, except that one of the lines ends the script, whatever follows; the first line has this number.
pub record StopsIn (fault : ScriptFault) (old : OpenSessions) (number : ℕ) (line bytes text : List ℕ) (new : World) : Type 0 where
  pub lines : List (List ℕ)
  pub said : List ℕ
  pub mid : OpenSessions
  pub done : DoesLines old lines said mid
  pub part : List ℕ
  pub written : text ≡ said ++ part
  pub ends : (after : List ℕ) → (last : List ℕ) × (others : List (List ℕ)) × (slice_split is_lf (line ++ (bytes ++ after)) ≡ lines ++ last ∷ others)
      × EndsAt fault mid (number + length lines) last part new

-- ---- a script in memory, and what the writer has taken

-- the script is carried out from here to its end
abbrev pub RunsOn : Progress → World → List ℕ → List ℕ → Progress → World → Type 0
RunsOn old before script text new after = Runs (standing_of old.sessions before) script text (standing_of new.sessions after)

-- a piece of the script is taken: its lines are done, and the writer has taken what they print
abbrev pub TakesOn : Option (List ℕ) → Option (List ℕ) → Progress → World → List ℕ → Progress → World → Type 0
TakesOn from to old before piece new after =
    (said : List ℕ) × Appends from to said
    × (takes : TakesPiece (standing_of old.sessions before) old.line.items piece said (standing_of new.sessions after) new.line.items)
    × (new.number ≡ old.number + length takes.lines)

-- one of the lines that end in a piece ends the script, and the writer has taken what was printed
abbrev pub StopsOn : ScriptFault → Option (List ℕ) → Option (List ℕ) → Progress → World → List ℕ → World → Type 0
StopsOn fault from to old before piece new =
    (said : List ℕ) × Appends from to said × StopsIn fault (standing_of old.sessions before) old.number old.line.items piece said new

-- the line that was read is done, and the writer has taken what it prints
abbrev pub DoesRead : Option (List ℕ) → Option (List ℕ) → Progress → World → Progress → World → Type 0
DoesRead from to old before new after =
    (said : List ℕ) × Appends from to said × DoesLine (standing_of old.sessions before) old.line.items said (standing_of new.sessions after)

-- the line that was read ends the script, and the writer has taken a part of what it prints
abbrev pub EndsAtRead : ScriptFault → Option (List ℕ) → Option (List ℕ) → Progress → World → World → Type 0
EndsAtRead fault from to old before new =
    (part : List ℕ) × Appends from to part × EndsAt fault (standing_of old.sessions before) old.number old.line.items part new
