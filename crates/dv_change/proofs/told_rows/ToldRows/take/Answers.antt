-- The changes that are returned lead from the rows before to the rows after.
use Rattle.dv_change.proofs.Made.{takes_told}
use Rattle.dv_change.proofs.told_rows.ToldRows.take.Goals as goal

pub take-requires : goal.take-requires
take-requires g c = c.requires.operators

pub put_all-requires : goal.put_all-requires
put_all-requires g c = c.requires.positioned

pub returns-clause-sound : goal.returns-clause-sound
returns-clause-sound g c = record { operators = c.in_ok-take.ensures.sound; positioned = c.in_ok-put_all.ensures.positioned }

pub returns-clause-taken : goal.returns-clause-taken
returns-clause-taken g c =
    let o = g.O.Operator in
    takes_told o.makes o.holds c.args.input c.args.taken c.args.self _ c.new-out.result.items c.take.new.out.items c.args.told.now.items c.put_all.new.told.items c.law_exact.ensures c.in_ok-take.ensures.passed c.new-out.ensures.items
    c.in_ok-put_all.ensures.rows c.in_ok-put_all.ensures.told
