use Rattle.std.proofs.Common.{◌∙◌, ap, arith}
use Rattle.dv_value.proofs.Dropped.{values_weight, last_weighs}
use Rattle.dv_value.proofs.value.dropping.drop_values.Goals as goal

pub values-smaller : goal.values-smaller
values-smaller c =
    let popped = ap values_weight c.in-Some.ensures.items ∙ last_weighs c.pop.new.self.items c.in-Some.value in
    omega (arith, c.opened-left.ensures, popped)
