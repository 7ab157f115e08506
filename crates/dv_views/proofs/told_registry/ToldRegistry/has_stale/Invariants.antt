-- None of the views so far is stale.
use Rattle.std.proofs.Common.{◌≡◌}
use Rattle.std.specs.List.{list_any}
use Rattle.dv_views.specs.Inner.Views.{is_stale}
use Rattle.dv_views.proofs.told_registry.ToldRegistry.has_stale.Given as goal

abbrev pub invariant-views : goal.invariant-views
invariant-views l =
    (list_any (λ w. is_stale w.mark) l.view-iterator ≡ list_any (λ v. is_stale v.mark) l.fn.self) ×
    (goal.iterator-views).can_next l.view-iterator ×
    (goal.iterator-views).is_finite l.view-iterator
