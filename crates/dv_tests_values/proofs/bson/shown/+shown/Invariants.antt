use Rattle.std.proofs.Common.{◌+◌, ◌*◌}
use Rattle.dv_value.specs.Tree.{fields_of, elements_of}
use Rattle.dv_value.specs.Inner.Tree.{weight, fields_weight, elements_weight}
use Rattle.dv_value.specs.View.{tree}
use Rattle.dv_tests_values.proofs.bson.shown.+shown.Given as goal

abbrev pub decreases-show : goal.decreases-show
decreases-show l = 2 * fields_weight (fields_of l.document.now) + 1

abbrev pub decreases-show_list : goal.decreases-show_list
decreases-show_list l = 2 * elements_weight (elements_of l.list.now) + 1

abbrev pub decreases-show_value : goal.decreases-show_value
decreases-show_value l = 2 * weight (tree l.value.now)
