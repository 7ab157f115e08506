-- What they hold stays the same when it is stored in less memory.
use Rattle.dv_change.proofs.Passing.{filled-packed}
use Rattle.dv_change.proofs.operators.fill_packed.Goals as goal

pub returns-clause-filled : goal.returns-clause-filled
returns-clause-filled g c =
    let o = g.O.Operator in
    filled-packed o.makes o.holds c.args.operators.now c.pack_all.new.operators c.fill_all.new.operators c.pack_all-2.new.operators c.args.all.items c.in_ok-made.made.items c.in_ok-pack_all.ensures.held c.in_ok-made.ensures.filled c.in_ok-pack_all-2.ensures.held
