use Rattle.std.proofs.Common.{[], ◌∷◌, ◌++◌, List, refl, sym, ap, subst, ◌∙◌, append_assoc, arith}
use Rattle.std.proofs.lemmas.List.{append-nil}
use Rattle.dv_wire.specs.declared.events.Event.{Event}
use Rattle.dv_wire.specs.declared.events.Said.{Said}
use Rattle.dv_wire.specs.Playing.{Plays}
use Rattle.dv_wire.proofs.Plays.{plays_more, taken}
use Rattle.dv_wire.proofs.hub.Hub.play.Goals as goal

pub events-init : goal.events-init
events-init c = record { played = ([], c.in_ok-reserve.ensures.items ∙ sym (append-nil _), (refl, refl)); room = omega (arith, c.in_ok-reserve.ensures.ok) }

pub events-preserved : goal.events-preserved
events-preserved c =
    let played = c.events.invariant.played in
    let item = c.event-item.result in
    let said = c.happen-said.result in
    record {
      played = (
        played.0 ++ said ∷ [],
        c.in_ok-push.ensures.items ∙ ap (λ (all : List Said). all ++ said ∷ []) played.1 ∙ append_assoc c.args.out.now.items played.0 (said ∷ []),
        subst (λ (happened : List Event). Plays c.args.self.now happened (played.0 ++ said ∷ []) c.happen-said.new.self) (sym (taken c.args.events.now c.events.event-index item c.events-test.true c.event-item.is))
            (plays_more c.args.self.now c.events.self c.happen-said.new.self _ played.0 item said played.2 c.happen-said.ensures),
      );
      room = omega (arith, c.in_ok-push.ensures.len, c.in_ok-push.ensures.capacity, c.events.invariant.room, c.events-test.true);
    }

-- the room was made before
pub returns-in_err-push : goal.returns-in_err-push
returns-in_err-push c = absurd (omega (arith, c.in_err-push.ensures.full, c.events.invariant.room, c.events-test.true))
