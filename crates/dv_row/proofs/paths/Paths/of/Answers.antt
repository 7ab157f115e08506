use Rattle.dv_row.proofs.Ordered.{in-order}
use Rattle.dv_row.proofs.paths.Paths.of.Goals as goal

pub invariant_of-result : goal.invariant_of-result
invariant_of-result c =
    in-order c.args.paths.items c.in_ok-ascending.ascending.items c.sort.new.paths.items c.in_ok-ascending.ensures c.sort.ensures.permutation c.sort.ensures.order
