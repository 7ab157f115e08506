use Rattle.dv_pipe.specs.Sources.{rows_referred}
use Rattle.dv_catalog.proofs.Scanned.{sorting_starts}
use Rattle.dv_catalog.proofs.scan.sorted.Goals as goal

pub rows-init : goal.rows-init
rows-init c = sorting_starts c.args.sort.now c.args.most _ (rows_referred c.args.rows.now) c.new-sorter.ensures
