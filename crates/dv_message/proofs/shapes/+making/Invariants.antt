-- Each level takes two calls.
use Rattle.std.proofs.Common.{◌+◌, ◌*◌}
use Rattle.dv_message.proofs.shapes.+making.Given as goal

abbrev pub decreases-shape_of : goal.decreases-shape_of
decreases-shape_of l = 2 * l.levels + 1

abbrev pub decreases-value_shape : goal.decreases-value_shape
decreases-value_shape l = 2 * l.levels
