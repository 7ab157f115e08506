-- What holds of every world that can be reached.
use Rattle.std.specs.Prelude.{ℕ, suc, ◌≤◌, List, [], ◌∷◌}
use Rattle.std.specs.List.{AllByRecursion}
use Rattle.dv_core.specs.Sound.{IsSound}
use Rattle.dv_message.specs.Bytes.{KeepsBytes}
use Rattle.dv_message.specs.Message.{Conversation}
use Rattle.dv_wire.specs.Schedule.{World}

-- the sessions' numbers ascend from the first one, and are below the next
abbrev pub AreNumbered : ℕ → List (ℕ × Conversation) → ℕ → Type 0
AreNumbered first [] next = first ≤ next
AreNumbered first (s ∷ ss) next = (first ≤ s.0) × AreNumbered (suc s.0) ss next

-- the sessions are in the order in which they were opened
abbrev pub IsNumbered : World → Type 0
IsNumbered world = AreNumbered 0 world.sessions world.next

-- the state is sound, and the unfinished messages of the sessions consist of bytes
pub record IsSoundWorld (world : World) : Type 0 where
  pub state : IsSound world.state
  pub keeping : AllByRecursion (λ s. KeepsBytes s.1) world.sessions
