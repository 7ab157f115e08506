use Rattle.std.proofs.Common.{◌∙◌, ap, not, sym}
use Rattle.std.specs.Ordering.{is_le}
use Rattle.dv_order.specs.Key.{key_order}
use Rattle.dv_path.specs.SortKey.{stands_first}
use Rattle.dv_keyed.proofs.Bars.{before-end}
use Rattle.dv_keyed.proofs.before.ends_before.Goals as goal

pub returns-in-Ascending-clause-holds : goal.returns-in-Ascending-clause-holds
returns-in-Ascending-clause-holds c = λ k before.
    let bar = c.args.bar.now in
    ap (λ b. not (is_le (key_order b k))) c.in_ok-try_clone.ensures ∙ before-end k bar (ap (λ direction. stands_first direction k bar) (sym c.in-Ascending.is) ∙ before)
