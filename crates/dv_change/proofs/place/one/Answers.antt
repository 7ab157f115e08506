use Rattle.std.proofs.Common.{sym}
use Rattle.dv_change.proofs.PartsAgain.{code_again, is_told}
use Rattle.dv_change.proofs.place.one.Goals as goal

pub returns-clause-valid : goal.returns-clause-valid
returns-clause-valid c =
    let p = c.code-code in
    code_again c.args.part.now p.result.top p.result.high p.result.low (sym p.ensures.top) (sym p.ensures.high) (sym p.ensures.low) (p.ensures.exact (is_told _ c.if-not-code.false))
