use Rattle.std.proofs.Common.{◌∙◌, ◌&&◌, ap, sym}
use Rattle.std.proofs.lemmas.Result.{IfOk-weaker}
use Rattle.dv_match.specs.View.{condition}
use Rattle.dv_keyed.specs.Choice.{is_bound}
use Rattle.dv_keyed.specs.Inner.Within.{covers}
use Rattle.dv_keyed.proofs.Decided.{found-weaker}
use Rattle.dv_keyed.proofs.closed.closed_by_both.Goals as goal

pub returns-in-Bound-Bound : goal.returns-in-Bound-Bound
returns-in-Bound-Bound c = IfOk-weaker c.closed_between.result _ _ (λ found. found-weaker _ _ found (λ ends between.
    (ap (λ l. is_bound (condition l)) c.in-Bound-Bound.is-0, ap (λ u. is_bound (condition u)) c.in-Bound-Bound.is-1, λ k. between k ∙ (λ j. covers (condition (sym c.in-Bound-Bound.is-0 j)) k && covers (condition (sym c.in-Bound-Bound.is-1 j)) k)))) c.closed_between.ensures
