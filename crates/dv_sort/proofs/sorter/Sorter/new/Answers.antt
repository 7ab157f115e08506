use Rattle.dv_sort.proofs.Kept.{none-yet}
use Rattle.dv_sort.proofs.sorter.Sorter.new.Goals as goal

pub returns : goal.returns
returns c = none-yet c.args.spec.now c.args.most c.new.result.items c.new.ensures.items
