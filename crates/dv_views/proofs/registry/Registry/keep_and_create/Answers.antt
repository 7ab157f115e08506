use Rattle.std.proofs.Common.{subst, sym}
use Rattle.dv_views.specs.Inner.Copies.{KeptViews}
use Rattle.dv_views.specs.Inner.Made.{needed_for}
use Rattle.dv_views.specs.Inner.Views.{ArePartlyRefreshed}
use Rattle.dv_views.proofs.Kept.{where_wanting}
use Rattle.dv_views.proofs.Refreshing.{none_refreshed}
use Rattle.dv_views.proofs.registry.Registry.keep_and_create.Goals as goal

pub returns-in_err-names-clause-err : goal.returns-in_err-names-clause-err
returns-in_err-names-clause-err c = where_wanting _ c.from_residual.result (none_refreshed (needed_for c.args.self.now.views c.args.pipeline c.args.source.now) c.args.self.now.views)

pub returns-in_err-needed-clause-err : goal.returns-in_err-needed-clause-err
returns-in_err-needed-clause-err c = where_wanting _ c.from_residual-in_err-needed.result (none_refreshed (needed_for c.args.self.now.views c.args.pipeline c.args.source.now) c.args.self.now.views)

pub returns-in_err-keep_all-clause-err : goal.returns-in_err-keep_all-clause-err
returns-in_err-keep_all-clause-err c =
    let before = c.args.self.now.views in
    let names = needed_for before c.args.pipeline c.args.source.now in
    where_wanting _ c.from_residual-in_err-keep_all.result (subst (λ (k : KeptViews). ArePartlyRefreshed names before k.views) (sym c.self.view_is) (none_refreshed names before))
