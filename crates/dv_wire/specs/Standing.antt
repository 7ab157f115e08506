-- Schedules in which all views stay live, and commands other than viewStats.
use Rattle.std.specs.Prelude.{◌≡◌, ◌≢◌, ℕ, Bool, true, false, List, Result, Ok, Err}
use Rattle.std.specs.List.{AllByRecursion}
use Rattle.dv_command.specs.Asked.{Asked, asked_by, view_stats}
use Rattle.dv_command.specs.declared.command.Command.{Command}
use Rattle.dv_refusal.specs.declared.refusal.Refusal.{Refusal}
use Rattle.dv_catalog.specs.Marks.{Marks, stale}
use Rattle.dv_core.specs.State.{State, standing}
use Rattle.dv_core.specs.Step.{MemoryStep}
use Rattle.dv_core.specs.declared.outcome.Outcome.{Outcome}
use Rattle.dv_wire.specs.declared.events.Event.{Event}
use Rattle.dv_wire.specs.declared.events.Said.{Said}
use Rattle.dv_wire.specs.Order.{OfCommands, RepliesInOrder, order_of, plain_play, state_in_order}
use Rattle.dv_wire.specs.Schedule.{World}

-- no view is stale
abbrev pub AreAllLive : Marks → Type 0
AreAllLive marks = AllByRecursion (λ mark. mark ≢ stale) marks

-- a step after which all views are live
abbrev pub LiveStep : State → ℕ → Command → Outcome → State → Type 0
LiveStep old session command outcome new = MemoryStep old session command outcome new × AreAllLive new.marks

-- whether the command is a viewStats
abbrev pub asks_stats : Result Asked Refusal → Bool
asks_stats (Ok (view_stats asked)) = true
asks_stats (Ok asked) = false
asks_stats (Err refusal) = false

-- the command isn't a viewStats
abbrev pub AsksNoStats : Command → Type 0
AsksNoStats command = asks_stats (asked_by command) ≡ false

-- the world with these marks of the views
abbrev pub world_standing : Marks → World → World
world_standing marks world = record world { state = standing marks world.state }

-- no message of the schedule asks viewStats
abbrev pub NoneAsksStats : World → List Event → Type 0
NoneAsksStats world all = OfCommands AsksNoStats (order_of world all)

-- the state and the replies to each session are those of the moments that are taken one after the other, except that views may be in
-- other states
abbrev pub IsInOrderButMarks : World → List Event → List Said → State → Type 0
IsInOrderButMarks world all told state = (state ≡ standing state.marks (state_in_order world all)) × RepliesInOrder world all told

-- this is reported and left by the schedule in which memory never runs out, except that views may be in other states
abbrev pub IsPlainButMarks : World → List Event → List Said → World → Type 0
IsPlainButMarks old all told new = (told ≡ (plain_play old all).said) × (new ≡ world_standing new.state.marks (plain_play old all).world)
