use Rattle.std.proofs.Common.{◌≡◌, drop}
use Rattle.dv_keyed.specs.Choice.{same_path}
use Rattle.dv_keyed.proofs.plan.same_path.Given as goal

abbrev pub invariant-loop-component : goal.invariant-loop-component
invariant-loop-component l = same_path (drop l.component-index l.first) l.rest ≡ same_path l.first l.second
