-- First parts with the same code are the same, so what follows them decides.
use Rattle.std.proofs.Common.{ap₂, ◌∙◌}
use Rattle.std.specs.Ordering.{ordering_then}
use Rattle.dv_change.proofs.Behind.{one_one, one_two, two_one, two_two}
use Rattle.dv_change.proofs.place.Place.order_behind.Goals as goal

pub returns-in-One-One : goal.returns-in-One-One
returns-in-One-One c =
    one_one c.args.self.now c.args.other.now _ _ _ _ _ _ c.in-One-One.is-0 c.in-One-One.is-1 c.requires.own c.requires.other (c.requires.top, c.requires.high, c.requires.low)

pub returns-in-One-Two : goal.returns-in-One-Two
returns-in-One-Two c =
    one_two c.args.self.now c.args.other.now _ _ _ _ _ _ _ _ c.in-One-Two.is-0 c.in-One-Two.is-1 c.requires.own c.requires.other (c.requires.top, c.requires.high, c.requires.low)

pub returns-in-Two-One : goal.returns-in-Two-One
returns-in-Two-One c =
    two_one c.args.self.now c.args.other.now _ _ _ _ _ _ _ _ c.in-Two-One.is-0 c.in-Two-One.is-1 c.requires.own c.requires.other (c.requires.top, c.requires.high, c.requires.low)

pub returns-in-Two-Two : goal.returns-in-Two-Two
returns-in-Two-Two c =
    c.then-in-Two-Two.ensures ∙ ap₂ ordering_then (c.then.ensures ∙ ap₂ ordering_then c.cmp.ensures c.cmp-in-Two-Two.ensures) c.cmp-in-Two-Two-2.ensures
    ∙ two_two c.args.self.now c.args.other.now _ _ _ _ _ _ _ _ _ _ c.in-Two-Two.is-0 c.in-Two-Two.is-1 c.requires.own c.requires.other (c.requires.top, c.requires.high, c.requires.low)
