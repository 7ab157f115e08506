-- Each step of the loop leaves the components that follow.
use Rattle.std.specs.Cmp.Lexicographic.{slice_cmp}
use Rattle.dv_update.specs.PathOrder.{component_order}
use Rattle.dv_update.proofs.order.compare_paths.Given as goal
use Rattle.dv_value.specs.Inner.LeftLaws.{IsLeft}

abbrev pub invariant-components : goal.invariant-components
invariant-components l = goal.iterator-components.can_next l.x-iterator × goal.iterator-components.is_finite l.x-iterator × IsLeft (slice_cmp component_order) l.a l.b l.x-iterator.a.rest.now l.x-iterator.b.rest.now
