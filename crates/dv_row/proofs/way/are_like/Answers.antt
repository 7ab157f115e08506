-- The next ones are like each other too.
use Rattle.std.proofs.Common.{◌∙◌, ap, sym, take, Some, arith, rules}
use Rattle.dv_value.specs.Inner.ListLaws.{take-read}
use Rattle.dv_row.specs.Inner.Crossings.{set_inward}
use Rattle.dv_row.proofs.Alike.{like-more}
use Rattle.dv_row.proofs.way.are_like.Goals as goal

pub places-preserved : goal.places-preserved
places-preserved c =
    let inner = c.args.inner.now in
    let others = c.args.others.now in
    let place = c.places.place in
    let here = c.index-inner-place.result in
    let there = c.index-others-place.result in
    λ v. ap (λ cs. set_inward cs (Some v)) (take-read inner place here c.places-test.true c.index-inner-place.is)
    ∙ like-more (take place inner) (take place others) here there (c.is_like.ensures (search rules)) c.places.invariant v
    ∙ sym (ap (λ cs. set_inward cs (Some v)) (take-read others place there (omega (arith, c.places-test.true, c.if-inner-others.false)) c.index-others-place.is))
