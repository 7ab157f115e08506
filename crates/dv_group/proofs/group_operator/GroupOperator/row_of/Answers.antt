-- The group of a key is sound.
use Rattle.std.proofs.Common.{sym}
use Rattle.dv_group.proofs.Under.{group-there}
use Rattle.dv_group.proofs.group_operator.GroupOperator.row_of.Goals as goal

pub shown-requires : goal.shown-requires
shown-requires c = group-there c.args.self.now.group c.args.key.now c.in-Some.live.now c.args.self.now.groups.entries (sym c.in-Some.ensures.value) c.requires
