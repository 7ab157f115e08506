use Rattle.std.proofs.Common.{◌<◌, List, length, ap, subst, sym, ◌∙◌, arith}
use Rattle.dv_views.specs.Forms.{IsClosed, ViewForm}
use Rattle.dv_views.proofs.Marked.{length_views}
use Rattle.dv_views.proofs.Refreshing.{length_at, more_fresh, more_refreshed, none_refreshed}
use Rattle.dv_views.proofs.told_registry.ToldRegistry.refresh.Goals as goal
use Rattle.dv_views.specs.Inner.FormLaws.{same_forms}

pub views-init : goal.views-init
views-init c = record {
  partly = none_refreshed c.args.names.now c.args.self.now;
  fresh = tt;
  right = λ lists alike right. right;
  count = ap length (sym c.self.view_is) ∙ length_views c.self.inside.views.entries ∙ sym c.len-place-end.ensures.len;
}

pub refresh_at-requires-clause-closed : goal.refresh_at-requires-clause-closed
refresh_at-requires-clause-closed c = subst (λ (forms : List ViewForm). IsClosed c.args.names.now forms) (sym (same_forms c.args.names.now c.args.self.now c.views.self c.views.invariant.partly)) c.requires.closed

pub views-preserved : goal.views-preserved
views-preserved c =
    let names = c.args.names.now in
    let at = c.in_ok-refresh_at.ensures.ok in
    let within : c.views.place < length c.views.self = let less : c.views.place < c.len-place-end.result = c.views-test.true in let many = c.views.invariant.count in omega (arith, less, many) in
    record {
      partly = more_refreshed names c.views.place c.args.self.now c.views.self c.refresh_at.new.self c.views.invariant.partly at;
      fresh = more_fresh names c.views.place c.views.self c.refresh_at.new.self c.views.invariant.fresh at within;
      right = λ lists alike right. c.in_ok-refresh_at.ensures.right lists alike (c.views.invariant.right lists alike right);
      count = length_at names c.views.place c.views.self c.refresh_at.new.self at ∙ c.views.invariant.count;
    }
