use Rattle.std.proofs.Common.{List, ℕ, subst, sym}
use Rattle.dv_wire.specs.Schedule.{Comes}
use Rattle.dv_wire.specs.declared.hub.Fed.TheVariants.{Unknown}
use Rattle.dv_wire.proofs.Pieces.{Hearing, hears_first, hears_next}
use Rattle.dv_wire.proofs.service.hear_out.Goals as goal

pub messages-init : goal.messages-init
messages-init c = hears_first c.args.session.number c.args.hub.now c.args.others.now c.args.counts.now Unknown

pub messages-preserved : goal.messages-preserved
messages-preserved c =
    let session = c.args.session.number in
    let fed = c.feed_counted.ensures in
    let comes = subst (λ (piece : List ℕ). Comes c.messages.hub session piece fed.0 c.feed_counted.result c.feed_counted.new.self) c.split_at.ensures.front fed.3 in
    subst (λ (rest : List ℕ). Hearing session c.args.hub.now c.args.others.now rest c.args.counts.now c.feed_counted.new.counts c.feed_counted.new.self) (sym c.split_at.ensures.back)
    (hears_next c.splitting_goes_on.ensures session c.args.hub.now c.messages.hub c.feed_counted.new.self c.args.others.now c.messages.rest.now c.args.counts.now c.messages.counts c.feed_counted.new.counts
    c.whole_front.result fed.0 c.feed_counted.result c.messages.invariant comes fed.2)
