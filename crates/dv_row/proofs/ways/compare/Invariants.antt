-- Each step of the loop leaves the rest.
use Rattle.dv_value.specs.Inner.LeftLaws.{IsLeft}
use Rattle.dv_row.specs.Inner.Ways.{way_order}
use Rattle.dv_row.proofs.ways.compare.Given as goal

abbrev pub invariant-components : goal.invariant-components
invariant-components l = goal.iterator-components.can_next l.x-iterator × goal.iterator-components.is_finite l.x-iterator × IsLeft way_order l.a l.b l.x-iterator.a.rest.now l.x-iterator.b.rest.now
