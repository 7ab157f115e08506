use Rattle.std.proofs.Common.{◌∙◌, ◌&&◌, not, ap}
use Rattle.std.specs.Ordering.{is_eq}
use Rattle.dv_order.specs.Key.{key_order}
use Rattle.dv_keyed.specs.Inner.Pairs.{has_pair}
use Rattle.dv_keyed.proofs.Entries.{pair-missing, pair-thinned, pair-emptied}
use Rattle.dv_keyed.proofs.pairs.Pairs.take_out_pair.Goals as goal

pub returns-in_default : goal.returns-in_default
returns-in_default c = λ k i.
    rw c.get_mut.follows.holds-at-none (pair-missing c.self.inside.entries c.self.inside.entries c.args.key.now k i c.self.invariant c.self.invariant c.args.id.now c.in_default.ensures.value
    ∙ ap (λ ps. has_pair k i ps && not (is_eq (key_order k c.args.key.now) && is_eq (key_order i c.args.id.now))) c.self.view_is)

pub returns-then-is_empty : goal.returns-then-is_empty
returns-then-is_empty c = λ k i.
    let w = c.take_out.new.self in
    pair-emptied c.self.inside.entries (c.get_mut.follows.lender w) c.remove.new.self c.args.key.now k i c.self.invariant c.remove.ensures.ordered c.in-Some.ids.now w c.in-Some.ensures.value (c.get_mut.follows.holds w) (c.is_empty.ensures.0 c.if-is_empty.true) c.remove.ensures.updates.0 c.args.id.now (c.take_out.ensures i)
    ∙ ap (λ ps. has_pair k i ps && not (is_eq (key_order k c.args.key.now) && is_eq (key_order i c.args.id.now))) c.self.view_is

pub returns-else-is_empty : goal.returns-else-is_empty
returns-else-is_empty c = λ k i.
    let w = c.take_out.new.self in
    pair-thinned c.self.inside.entries (c.get_mut.follows.lender w) c.args.key.now k i c.self.invariant (c.get_mut.follows.holds w).4 c.in-Some.ids.now w c.in-Some.ensures.value (c.get_mut.follows.holds w) c.args.id.now (c.take_out.ensures i)
    ∙ ap (λ ps. has_pair k i ps && not (is_eq (key_order k c.args.key.now) && is_eq (key_order i c.args.id.now))) c.self.view_is
