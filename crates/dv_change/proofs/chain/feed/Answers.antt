-- What the operator appended before it failed follows what it appended for the changes before.
use Rattle.std.proofs.Common.{rules}
use Rattle.dv_change.specs.Inner.Beginning.{BeginsWith}
use Rattle.dv_change.proofs.Beginning.{begins-through}
use Rattle.dv_change.proofs.chain.feed.Goals as goal

pub returns-in_err-change-clause-begins : goal.returns-in_err-change-clause-begins
returns-in_err-change-clause-begins g c =
    let begins : BeginsWith c.change.new.out.items c.args.out.now.items = begins-through c.args.out.now.items c.changes.out.items c.change.new.out.items c.changes.invariant.begins c.in_err-change.ensures.begins in
    search rules
