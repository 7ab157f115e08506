use Rattle.dv_core.proofs.Changed.{one_error, cut_error_alone}
use Rattle.dv_core.proofs.laws.an_ordered_write_ends_at_its_first_error.Goals as goal

pub returns-clause-whole : goal.returns-clause-whole
returns-clause-whole c = λ write old ordered. one_error write ordered old

pub returns-clause-cut : goal.returns-clause-cut
returns-clause-cut c = λ write old left ordered is_cut. cut_error_alone write ordered old left is_cut
