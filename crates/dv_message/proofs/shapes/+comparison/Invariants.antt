-- Each level takes two calls.
use Rattle.std.proofs.Common.{◌+◌, ◌*◌}
use Rattle.dv_message.proofs.shapes.+comparison.Given as goal

abbrev pub decreases-has_shape : goal.decreases-has_shape
decreases-has_shape l = 2 * l.levels + 1

abbrev pub decreases-has_value_shape : goal.decreases-has_value_shape
decreases-has_value_shape l = 2 * l.levels
