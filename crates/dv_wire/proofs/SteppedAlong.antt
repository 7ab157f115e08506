-- A play of steps is a play of events.
use Rattle.std.proofs.Common.{◌≡◌, ℕ, List, [], ◌∷◌, ◌++◌, Some, None, Ok, Err, refl}
use Rattle.dv_host.specs.Schedule.{Step, opened, fed, ended, PlaysBy, HappensBy, answers_in, answers as answers_of}
use Rattle.dv_wire.specs.declared.events.Said.{Said}
use Rattle.dv_wire.specs.declared.events.Said.TheVariants as said
use Rattle.dv_wire.specs.Hosted.{OpensAs, FeedsAs, EndsAs, event_of, events_of, id}
use Rattle.dv_wire.specs.Order.{answers, replies_in}
use Rattle.dv_wire.specs.Playing.{Happens, Plays}
use Rattle.dv_wire.specs.Schedule.{World, conversation_of, unfinished_in}

happens : (old new : World) (step : Step) → HappensBy OpensAs FeedsAs EndsAs old step new
    → (told : Said) × Happens old (event_of step) told new × ((session : ℕ) → replies_in session (event_of step) told ≡ answers_in session step)
happens old new (opened None) opens = (said.Opened (Err opens.0), opens.1, λ session. refl)
happens old new (opened (Some number)) opens = (said.Opened (Ok (id number)), opens, λ session. refl)
happens old new (fed number piece bytes told) feeds = (said.Fed feeds.0 bytes, feeds.2, λ session. refl)
happens old new (ended number) ends = (said.Ended (unfinished_in (conversation_of number old.sessions)), (refl, ends), λ session. refl)

both_same : (a b c d : List ℕ) → a ≡ b → c ≡ d → a ++ c ≡ b ++ d
both_same a b c d e f = cc

pub steps_play : (old new : World) (steps : List Step) → PlaysBy (HappensBy OpensAs FeedsAs EndsAs) old steps new
    → (all : List Said) × Plays old (events_of steps) all new × ((session : ℕ) → answers session (events_of steps) all ≡ answers_of session steps)
steps_play old new [] same = ([], (refl, same), λ session. refl)
steps_play old new (step ∷ steps) plays =
    let here = happens old plays.0 step plays.1 in
    let others = steps_play plays.0 new steps plays.2 in (
      here.0 ∷ others.0,
      (here.0, others.0, plays.0, refl, here.1, others.1),
      λ session. both_same (replies_in session (event_of step) here.0) (answers_in session step) (answers session (events_of steps) others.0) (answers_of session steps) (here.2 session) (others.2 session),
    )
