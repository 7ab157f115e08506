use Rattle.dv_value.proofs.Dropped.{values_weight}
use Rattle.dv_value.proofs.value.dropping.drop_values.Given as goal

abbrev pub decreases-values : goal.decreases-values
decreases-values l = values_weight l.left.items
