-- The values inside weigh less, and the others weigh one more in an array.
use Rattle.std.proofs.Common.{◌∙◌, ap, arith}
use Rattle.dv_value.specs.declared.value.Value.TheVariants.{Array}
use Rattle.dv_value.specs.Tree.{elements_of}
use Rattle.dv_value.specs.Inner.Tree.{elements_weight}
use Rattle.dv_value.proofs.Dropped.{values_weight, last_weighs}
use Rattle.dv_value.proofs.value.dropping.opened.Goals as goal

pub inside-smaller : goal.inside-smaller
inside-smaller c =
    let popped = ap values_weight c.in-Some-pop.ensures.items ∙ last_weighs c.pop.new.self.items c.in-Some-pop.last in
    omega (arith, c.in-Some.ensures, popped)

pub inside-preserved : goal.inside-preserved
inside-preserved c =
    let popped = ap values_weight c.in-Some-pop.ensures.items ∙ last_weighs c.pop.new.self.items c.in-Some-pop.last in
    let pushed = ap values_weight c.push_reserved.ensures.items ∙ last_weighs c.pop.new.self.items (Array c.of.result) in
    let others = ap (λ vs. elements_weight (elements_of vs)) c.of.ensures in
    omega (arith, c.in-Some.ensures, popped, pushed, others, c.inside.invariant)
