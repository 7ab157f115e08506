use Rattle.std.proofs.Common.{subst, sym}
use Rattle.dv_views.specs.Inner.Copies.{KeptViews}
use Rattle.dv_views.specs.Inner.Views.{ArePartlyRefreshed}
use Rattle.dv_views.proofs.Kept.{where_wanting}
use Rattle.dv_views.proofs.Refreshing.{none_refreshed}
use Rattle.dv_views.proofs.registry.Registry.keep_and_refresh.Goals as goal

pub returns-in_err-keep_all-clause-err : goal.returns-in_err-keep_all-clause-err
returns-in_err-keep_all-clause-err c =
    let names = c.args.names.now in
    let before = c.args.self.now.views in
    where_wanting _ c.from_residual.result (subst (λ (k : KeptViews). ArePartlyRefreshed names before k.views) (sym c.self.view_is) (none_refreshed names before))
