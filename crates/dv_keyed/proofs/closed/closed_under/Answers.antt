use Rattle.std.proofs.Common.{◌∙◌, sym, subst}
use Rattle.std.proofs.lemmas.Result.{IfOk-weaker}
use Rattle.dv_match.specs.View.{member}
use Rattle.dv_keyed.specs.Inner.Decided.{IsClosedUnder}
use Rattle.dv_keyed.specs.Inner.ListLaws.{one-path}
use Rattle.dv_keyed.proofs.Decided.{found-weaker}
use Rattle.dv_keyed.proofs.closed.closed_under.Goals as goal

pub returns-else-not-same_path : goal.returns-else-not-same_path
returns-else-not-same_path c =
    let path = c.args.path.now in
    let same = sym c.components.ensures.components ∙ one-path c.components.result.now c.components-in-At.result.now (sym c.same_path.ensures ∙ c.if-not-same_path.false) ∙ c.components-in-At.ensures.components in
    IfOk-weaker c.closed_by.result _ _ (λ found. found-weaker _ _ found (λ ends are. subst (λ m. IsClosedUnder ends path (member m)) (sym c.in-At.is) (same, are))) c.closed_by.ensures
