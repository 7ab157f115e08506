-- A schedule in which nothing reports that memory ran out is the plain one, except for the marks of views; and if all views stay
-- live, also in these.
use Rattle.std.proofs.Common.{◌≡◌, ℕ, List, [], ◌∷◌, refl, sym, ap, ◌∙◌}
use Rattle.std.specs.Prelude.{⊤}
use Rattle.std.specs.List.{AllByRecursion}
use Rattle.dv_value.specs.Tree.{Field}
use Rattle.dv_catalog.specs.Marks.{Marks}
use Rattle.dv_command.specs.Asked.{asked_by}
use Rattle.dv_command.specs.declared.command.Command.{Command}
use Rattle.dv_core.specs.Marks.{marks_behind_all}
use Rattle.dv_core.specs.State.{State, standing}
use Rattle.dv_core.specs.Step.{Answer, MemoryStep, counted_step, end_session, step}
use Rattle.dv_core.specs.declared.outcome.Outcome.TheVariants.{Reply}
use Rattle.dv_wire.specs.declared.events.Event.{Event}
use Rattle.dv_wire.specs.declared.events.Said.{Said}
use Rattle.dv_wire.specs.Order.{Moment, OfCommands, answers, comes, ends, opens, order, plain_play, replies_behind, state_left}
use Rattle.dv_wire.specs.Playing.{Plays, PlaysBy}
use Rattle.dv_wire.specs.Schedule.{World}
use Rattle.dv_wire.specs.Standing.{AreAllLive, AsksNoStats, LiveStep, world_standing}
use Rattle.dv_wire.specs.Wants.{SaysWant}
use Rattle.dv_wire.proofs.Alike.{Keeps, at, plays_alike}
use Rattle.dv_wire.proofs.Counted.{live_behind, marks_are}
use Rattle.dv_wire.proofs.Orders.{ordered_answers, ordered_state, plain_plays}
use Rattle.dv_wire.proofs.Replies.{Allows, IsAllowed}
use Rattle.dv_wire.proofs.Standing.{answer_standing, step_standing}
use Rattle.dv_wire.proofs.Wanting.{reply_of_want}

-- ---- schedules in which all views stay live

-- any command is meant
all_commands : (moments : List Moment) → OfCommands (λ command. ⊤) moments
all_commands [] = tt
all_commands (opens ∷ moments) = (tt, all_commands moments)
all_commands (comes session message ∷ moments) = (tt, all_commands moments)
all_commands (ends session ∷ moments) = (tt, all_commands moments)

live_counts : (old new : State) (session : ℕ) (command : Command) (reply : List Field) → LiveStep old session command (Reply reply) new → record { reply = reply; state = new } ≡ counted_step old session command
live_counts old new session command reply ((steps, marked), are_live) =
    let marks : new.marks ≡ marks_behind_all old (asked_by command) = marks_are old new.marks are_live (asked_by command) marked in
    ap (answer_standing new.marks) (sym steps) ∙ ap (λ (m : Marks). answer_standing m (step old session command)) marks

keeps_same : Keeps LiveStep (λ real plain. real ≡ plain) (λ command. ⊤)
keeps_same = record {
  replied = λ real plain new session command reply same meant steps.
      let is = live_counts real new session command reply steps ∙ ap (λ (s : State). counted_step s session command) same in
      (ap (λ (a : Answer). a.reply) is, ap (λ (a : Answer). a.state) is);
  wanting = λ old new session command reply steps. reply_of_want old (standing old.marks new) command reply new.marks steps.0;
  ended = λ session real plain same. ap (end_session session) same;
}

pub plays_plain : (old new : World) (all : List Event) (told : List Said) → PlaysBy LiveStep old all told new → AllByRecursion (λ s. SaysWant s → ⊥) told
    → (told ≡ (plain_play old all).said) × (new ≡ (plain_play old all).world)
plays_plain old new all told plays none =
    let alike = plays_alike LiveStep (λ real plain. real ≡ plain) (λ command. ⊤) keeps_same old new old.state all told plays none refl (all_commands (order old.next old.sessions all)) in
    (alike.said, ap (λ (s : State). at s new) alike.world.state ∙ alike.world.others)

pub plays_ordered : (old new : World) (all : List Event) (told : List Said) → PlaysBy LiveStep old all told new → AllByRecursion (λ s. SaysWant s → ⊥) told
    → (new.state ≡ state_left old.state (order old.next old.sessions all)) × ((session : ℕ) → answers session all told ≡ replies_behind session old.state (order old.next old.sessions all))
plays_ordered old new all told plays none =
    let plain = plays_plain old new all told plays none in
    (ap (λ (w : World). w.state) plain.1 ∙ ordered_state old all, λ session. ap (answers session all) plain.0 ∙ ordered_answers session old all)

allows_live : IsAllowed → Allows LiveStep (λ state. AreAllLive state.marks)
allows_live allowed = record {
  steps = λ state session command are_live. (allowed state session command, live_behind state (asked_by command) are_live);
  kept = λ state session command are_live. live_behind state (asked_by command) are_live;
  ended = λ session state are_live. are_live;
}

pub plain_live : IsAllowed → (world : World) (all : List Event) → AreAllLive world.state.marks → PlaysBy LiveStep world all (plain_play world all).said (plain_play world all).world
plain_live allowed = plain_plays LiveStep (λ state. AreAllLive state.marks) (allows_live allowed)

-- ---- except for the marks of views

abbrev StandsAs : State → State → Type 0
StandsAs real plain = real ≡ standing real.marks plain

stands_behind : (real plain new : State) (session : ℕ) (command : Command) (reply : List Field) → StandsAs real plain → AsksNoStats command → MemoryStep real session command (Reply reply) new
    → (reply ≡ (counted_step plain session command).reply) × StandsAs new (counted_step plain session command).state
stands_behind real plain new session command reply same none steps =
    let is : record { reply = reply; state = standing real.marks new } ≡ answer_standing real.marks (step plain session command) =
    sym steps.0 ∙ ap (λ (s : State). step s session command) same ∙ step_standing real.marks plain session command none in
    (ap (λ (a : Answer). a.reply) is, ap (λ (a : Answer). standing new.marks a.state) is)

keeps_standing : Keeps MemoryStep StandsAs AsksNoStats
keeps_standing = record {
  replied = stands_behind;
  wanting = λ old new session command reply steps. reply_of_want old (standing old.marks new) command reply new.marks steps;
  ended = λ session real plain same. ap (end_session session) same;
}

pub plays_standing : (old new : World) (all : List Event) (told : List Said) → Plays old all told new → AllByRecursion (λ s. SaysWant s → ⊥) told → OfCommands AsksNoStats (order old.next old.sessions all)
    → (told ≡ (plain_play old all).said) × (new ≡ world_standing new.state.marks (plain_play old all).world)
plays_standing old new all told plays none asks =
    let alike = plays_alike MemoryStep StandsAs AsksNoStats keeps_standing old new old.state all told plays none refl asks in
    (alike.said, ap (λ (s : State). at s new) alike.world.state ∙ ap (world_standing new.state.marks) alike.world.others)

pub plays_standing_ordered : (old new : World) (all : List Event) (told : List Said) → Plays old all told new → AllByRecursion (λ s. SaysWant s → ⊥) told
    → OfCommands AsksNoStats (order old.next old.sessions all)
    → (new.state ≡ standing new.state.marks (state_left old.state (order old.next old.sessions all)))
    × ((session : ℕ) → answers session all told ≡ replies_behind session old.state (order old.next old.sessions all))
plays_standing_ordered old new all told plays none asks =
    let plain = plays_standing old new all told plays none asks in
    (ap (λ (w : World). w.state) plain.1 ∙ ap (standing new.state.marks) (ordered_state old all), λ session. ap (answers session all) plain.0 ∙ ordered_answers session old all)
