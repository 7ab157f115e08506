-- Each step of the loop leaves the components that follow.
use Rattle.dv_update.specs.PathOrder.{begins}
use Rattle.dv_update.proofs.order.is_beginning.Given as goal
use Rattle.dv_value.specs.Inner.LeftLaws.{IsLeft}

abbrev pub invariant-components : goal.invariant-components
invariant-components l = goal.iterator-components.can_next l.x-iterator × goal.iterator-components.is_finite l.x-iterator × IsLeft begins l.xs l.ys l.x-iterator.a.rest.now l.x-iterator.b.rest.now
