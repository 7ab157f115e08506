use Rattle.std.proofs.Common.{map}
use Rattle.dv_update.specs.View.{edit}
use Rattle.dv_update.proofs.RemovalsLast.{removals_apart}
use Rattle.dv_update.proofs.edits.removals_last.Goals as goal

pub remove_each-requires : goal.remove_each-requires
remove_each-requires c = rw c.requires.paths (removals_apart (map edit c.args.edits.now) c.requires.apart)
