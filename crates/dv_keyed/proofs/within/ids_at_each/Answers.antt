use Rattle.std.proofs.Common.{◌∙◌, ◌||◌, ap, sym}
use Rattle.dv_order.specs.Key.{KeyTree}
use Rattle.dv_keyed.specs.Inner.Pairs.{has_pair}
use Rattle.dv_keyed.proofs.Ordered.{any-among-more}
use Rattle.dv_keyed.proofs.within.ids_at_each.Goals as goal

pub keys-preserved : goal.keys-preserved
keys-preserved c i =
    let under = λ (k : KeyTree). has_pair k i c.args.index.now in
    c.in_ok-add_ids_at.ensures i ∙ ap (λ b. b || under c.key-item.result.now) (c.keys.invariant i) ∙ sym (any-among-more under c.args.keys.now c.keys.key-index c.key-item.result c.keys-test.true c.key-item.is)
