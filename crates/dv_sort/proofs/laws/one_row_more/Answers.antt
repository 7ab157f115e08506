use Rattle.dv_sort.proofs.Kept.{row-more}
use Rattle.dv_sort.proofs.laws.one_row_more.Goals as goal

pub returns : goal.returns
returns c = row-more
