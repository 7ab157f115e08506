use Rattle.dv_sort.proofs.Told.{ascending, ties_kept}
use Rattle.dv_sort.proofs.laws.rows_stand_in_order.Goals as goal

pub returns-clause-ascending : goal.returns-clause-ascending
returns-clause-ascending c = ascending

pub returns-clause-stable : goal.returns-clause-stable
returns-clause-stable c = ties_kept
