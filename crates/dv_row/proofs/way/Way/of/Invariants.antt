-- What is left of the path leads on from what the last document has under its component.
use Rattle.std.proofs.Common.{drop}
use Rattle.dv_value.specs.Names.{value_under}
use Rattle.dv_row.proofs.OnWay.{IsOnWay}
use Rattle.dv_row.proofs.way.Way.of.Given as goal

abbrev pub invariant-components : goal.invariant-components
invariant-components l = IsOnWay l.path l.row l.outermost.component.now l.inner.items (drop l.component-index l.component-items) (value_under l.last.component.now l.last.document.now)
