use Rattle.std.proofs.Common.{◌≡◌, true, false, map, subst, sym, arith, ◌∙◌}
use Rattle.std.specs.String.{string_bytes}
use Rattle.dv_views.specs.Forms.{AreFounded, is_name_among}
use Rattle.dv_views.specs.Inner.Views.{Views, view_form}
use Rattle.dv_views.proofs.Heights.{needed_closed, needed_step}
use Rattle.dv_views.proofs.told_registry.ToldRegistry.needed.Goals as goal

pub views-preserved-in-Continue-1 : goal.views-preserved-in-Continue-1
views-preserved-in-Continue-1 c =
    let among : is_name_among (string_bytes c.in-Some.name.now) c.views.needed.items ≡ true = cc in
    record {
      needed = c.in_ok-push_names_read.ensures ∙ needed_step c.views.place c.self.inside.views.entries c.args.self.now (c.in-Some.name.now, c.in-Some.view.now) c.args.names.items c.views.needed.items true c.views-test.true c.self.view_is (sym c.in-Some.ensures.entry) c.views.invariant.needed among;
      within = omega arith;
    }

pub views-preserved-else-is_listed : goal.views-preserved-else-is_listed
views-preserved-else-is_listed c =
    let among : is_name_among (string_bytes c.in-Some.name.now) c.views.needed.items ≡ false = cc in
    record {
      needed = needed_step c.views.place c.self.inside.views.entries c.args.self.now (c.in-Some.name.now, c.in-Some.view.now) c.args.names.items c.views.needed.items false c.views-test.true c.self.view_is (sym c.in-Some.ensures.entry) c.views.invariant.needed among;
      within = omega arith;
    }

pub returns-clause-closed : goal.returns-clause-closed
returns-clause-closed c =
    needed_closed c.views.place (map view_form c.args.self.now) c.args.names.items c.views.needed.items c.views-test.false c.views.invariant.needed
    (subst (λ (vs : Views). AreFounded (map view_form vs)) c.self.view_is c.self.invariant.views.founded)
