use Rattle.std.proofs.Common.{◌∙◌, ap, sym}
use Rattle.dv_row.specs.Inner.Conflicts.{paths_conflict}
use Rattle.dv_row.proofs.Conflicting.{conflict-permuted}
use Rattle.dv_row.proofs.conflict.has_conflict.Goals as goal

pub returns : goal.returns
returns c = c.neighbours_conflict.ensures ∙ ap paths_conflict c.deref.ensures.value ∙ sym (conflict-permuted c.args.paths.items c.sort.new.paths.items c.sort.ensures.permutation)
