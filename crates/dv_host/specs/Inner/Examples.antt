-- Connections and steps of examples.
use Rattle.std.specs.Prelude.{ℕ, List, [], ◌∷◌, Option, Some}
use Rattle.dv_host.specs.Schedule.{Step, opened, fed}
use Rattle.dv_host.specs.View.{Seen}
use Rattle.dv_host.specs.declared.sessions.Fed.TheVariants.{Open, Closed}

-- the connection of session 3, with these bytes left of its input, these replies not taken, and this fault of its session
abbrev pub link_with : List ℕ → List ℕ → Option ℕ → Seen
link_with left unsent closing = record { session = 3; left = Some left; taken = Some []; unsent = unsent; pending = []; closing = closing }

-- sessions 3 and 4 are opened; a piece of session 3 is answered by two bytes, and one of session 4, whose fault closes it, by
-- three; then a piece of session 3 gets no reply
abbrev pub two_sessions : List Step
two_sessions = opened (Some 3) ∷ opened (Some 4) ∷ fed 3 (1 ∷ 2 ∷ []) (8 ∷ 9 ∷ []) Open ∷ fed 4 (5 ∷ []) (7 ∷ 7 ∷ 7 ∷ []) (Closed 2) ∷ fed 3 (3 ∷ []) [] Open ∷ []
