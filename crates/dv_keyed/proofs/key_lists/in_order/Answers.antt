use Rattle.dv_keyed.proofs.Ordered.{once-ascends, once-same}
use Rattle.dv_keyed.proofs.key_lists.in_order.Goals as goal

pub returns-clause-ascending : goal.returns-clause-ascending
returns-clause-ascending c = once-ascends c.args.keys.items c.sort.new.self.items c.dedup.new.self.items c.dedup.ensures.filtered c.in_ok-sort.ensures.sorted

pub returns-clause-same : goal.returns-clause-same
returns-clause-same c = once-same c.args.keys.items c.sort.new.self.items c.dedup.new.self.items c.dedup.ensures.filtered c.sort.ensures.permutation
