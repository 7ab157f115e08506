use Rattle.dv_row.proofs.Ordered.{drop-all}
use Rattle.dv_row.proofs.ways.Ways.of.Goals as goal

pub returns : goal.returns
returns c = drop-all c.args.paths.now
