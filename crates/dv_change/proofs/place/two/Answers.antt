use Rattle.std.proofs.Common.{sym, ◌∙◌, ◌∷◌, []}
use Rattle.dv_change.proofs.PartsAgain.{code_again, is_told, told_without}
use Rattle.dv_change.proofs.place.two.Goals as goal

pub returns-clause-parts : goal.returns-clause-parts
returns-clause-parts c =
    let p = c.code-code in
    let n = c.code-next in
    let first = told_without p.result.top p.result.high p.result.low c.args.part.now c.if-code-ne0.false (p.ensures.exact (is_told _ c.if-not-code.false)) in
    let second = n.ensures.exact (is_told _ c.if-not-next.false) in
    λ i. first i ∷ second i ∷ []

pub returns-clause-valid : goal.returns-clause-valid
returns-clause-valid c =
    let p = c.code-code in
    let n = c.code-next in
    let first = told_without p.result.top p.result.high p.result.low c.args.part.now c.if-code-ne0.false (p.ensures.exact (is_told _ c.if-not-code.false)) in (
      code_again c.args.part.now p.result.top p.result.high 0 (sym p.ensures.top) (sym p.ensures.high) (sym p.ensures.low ∙ c.if-code-ne0.false) first,
      code_again c.args.next.now n.result.top n.result.high n.result.low (sym n.ensures.top) (sym n.ensures.high) (sym n.ensures.low) (n.ensures.exact (is_told _ c.if-not-next.false)),
    )
