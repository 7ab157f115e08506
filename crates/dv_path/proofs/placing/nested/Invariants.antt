use Rattle.std.proofs.Common.{◌≡◌, length, None}
use Rattle.dv_value.specs.View.{tree}
use Rattle.dv_path.specs.Placing.{put_behind}
use Rattle.dv_path.proofs.placing.nested.Given as goal

abbrev pub invariant-outward : goal.invariant-outward
invariant-outward l = put_behind l.components (tree l.fn.value) None ≡ put_behind l.before (tree l.inner) None

abbrev pub decreases-outward : goal.decreases-outward
decreases-outward l = length l.before
