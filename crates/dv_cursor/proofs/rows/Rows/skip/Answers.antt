use Rattle.std.proofs.Common.{◌≡◌, ◌∙◌, ap, drop, drop-drop, arith}
use Rattle.dv_cursor.proofs.rows.Rows.skip.Goals as goal

pub rows-preserved : goal.rows-preserved
rows-preserved c = c.pop_front.ensures.rest ∙ ap (drop 1) c.rows.invariant ∙ drop-drop 1 c.rows.counter c.args.self.now

pub returns : goal.returns
returns c =
    let all : c.rows.counter ≡ c.args.count = omega arith in
    rw (← all) c.rows.invariant
