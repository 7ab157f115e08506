use Rattle.std.proofs.Common.{take}
use Rattle.dv_views.specs.Inner.Operating.{AreFresh}
use Rattle.dv_views.proofs.stage_operator.operators_of.Given as goal

abbrev pub invariant-stages : goal.invariant-stages
invariant-stages l = AreFresh (take l.stage-index l.stages) l.operators.items
