-- The sessions of a hub as those of many connections at once: what happens to them is a schedule.
use Rattle.std.specs.Prelude.{◌≡◌, ℕ, List, [], ◌∷◌, Option, Some, None, Ok, Err}
use Rattle.dv_host.specs.Schedule.{HappensBy, PlaysBy, Step, opened, fed, ended, answers as answers_of}
use Rattle.dv_host.specs.declared.sessions.Fed as host
use Rattle.dv_host.specs.declared.sessions.Fed.TheVariants as host_told
use Rattle.dv_message.specs.Fault.{close_number}
use Rattle.dv_wire.specs.declared.events.Event.{Event}
use Rattle.dv_wire.specs.declared.events.Event.TheVariants as events
use Rattle.dv_wire.specs.declared.fault.HubFault.{HubFault}
use Rattle.dv_wire.specs.declared.hub.Fed.{Fed}
use Rattle.dv_wire.specs.declared.hub.Fed.TheVariants as told
use Rattle.dv_wire.specs.declared.hub.SessionId.{SessionId}
use Rattle.dv_wire.specs.declared.events.Said.{Said}
use Rattle.dv_wire.specs.Order.{answers}
use Rattle.dv_wire.specs.Playing.{Plays}
use Rattle.dv_wire.specs.Schedule.{World, Opens, Feeds, end}

-- the session with this number
abbrev pub id : ℕ → SessionId
id session = record { number = session }

-- a session is opened with this number, or refused
abbrev pub OpensAs : World → Option ℕ → World → Type 0
OpensAs old None new = (fault : HubFault) × Opens old (Err fault) new
OpensAs old (Some session) new = Opens old (Ok (id session)) new

-- what is reported of a session, with the number of its closing fault
abbrev pub told_as : Fed → host.Fed
told_as told.Open = host_told.Open
told_as (told.Closed fault) = host_told.Closed (close_number fault)
told_as told.Unknown = host_told.Unknown

-- a piece of a session's bytes arrives
abbrev pub FeedsAs : World → ℕ → List ℕ → List ℕ → host.Fed → World → Type 0
FeedsAs old session piece bytes said new = (answer : Fed) × (said ≡ told_as answer) × Feeds old session piece bytes answer new

-- a session ends
abbrev pub EndsAs : World → ℕ → World → Type 0
EndsAs old session new = new ≡ end session old

-- the event that a step is
abbrev pub event_of : Step → Event
event_of (opened result) = events.Open
event_of (fed session piece bytes said) = events.Piece (id session) piece
event_of (ended session) = events.End (id session)

-- the events that steps are
abbrev pub events_of : List Step → List Event
events_of [] = []
events_of (step ∷ steps) = event_of step ∷ events_of steps

-- these steps happen to the sessions of a hub, one after the other
abbrev pub PlaysSteps : World → List Step → World → Type 0
PlaysSteps = PlaysBy (HappensBy OpensAs FeedsAs EndsAs)

-- the steps are a schedule of events that leads to the new world, and gives the same replies to each session
abbrev pub AreSchedule : World → List Step → World → Type 0
AreSchedule old steps new =
    (all : List Said) × Plays old (events_of steps) all new × ((session : ℕ) → answers session (events_of steps) all ≡ answers_of session steps)
