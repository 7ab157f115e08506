use Rattle.std.proofs.Common.{ℕ, List, map, sym, subst, ◌∙◌}
use Rattle.std.specs.List.{AllByRecursion}
use Rattle.dv_pipe.specs.Sources.{lists_of}
use Rattle.dv_views.specs.Forms.{IsClosed, needed}
use Rattle.dv_views.specs.Inner.Views.{view_form}
use Rattle.dv_catalog.specs.Inner.CatalogParts.{AreLive}
use Rattle.dv_catalog.specs.State.{AreOrdered}
use Rattle.dv_catalog.proofs.Refreshed.{live_needed, live_refreshed, read_live, reads_nothing, reads_refreshed}
use Rattle.dv_catalog.proofs.refresh.refresh_needed.Goals as goal

pub returns-in_err-needed-clause-marks : goal.returns-in_err-needed-clause-marks
returns-in_err-needed-clause-marks c = reads_nothing c.args.names.items c.args.collections.now c.args.registry.now c.from_residual.result c.from_residual.ensures.0

pub returns-in_err-sources-clause-marks : goal.returns-in_err-sources-clause-marks
returns-in_err-sources-clause-marks c = reads_nothing c.args.names.items c.args.collections.now c.args.registry.now c.from_residual-in_err-sources.result c.from_residual-in_err-sources.ensures.0

pub refresh-requires : goal.refresh-requires
refresh-requires c =
    let those = sym c.deref-3.ensures.value in
    record {
      closed = subst (λ (names : List (List ℕ)). IsClosed names (map view_form c.args.registry.now)) those c.in_ok-needed.ensures.closed;
      read = subst (AllByRecursion (λ name. AreOrdered (lists_of c.in_ok-sources.sources name))) those (rw c.deref-2.ensures.value at c.in_ok-sources.ensures.ordered);
    }

pub returns-clause-live : goal.returns-clause-live
returns-clause-live c =
    live_refreshed c.args.names.items c.args.collections.now c.args.registry.now c.deref-3.result.now (c.deref-3.ensures.value ∙ c.in_ok-needed.ensures.needed) c.refresh.new.self c.what_is_asked_for_is_needed.ensures.asked c.refresh.result c.refresh.ensures.ok

pub returns-clause-marks : goal.returns-clause-marks
returns-clause-marks c =
    reads_refreshed c.args.names.items c.args.collections.now c.args.registry.now c.deref-3.result.now (c.deref-3.ensures.value ∙ c.in_ok-needed.ensures.needed) c.refresh.new.self c.refresh.result c.refresh.ensures.ok c.refresh.ensures.err

pub returns-then-not-is_one_stale-clause-live : goal.returns-then-not-is_one_stale-clause-live
returns-then-not-is_one_stale-clause-live c =
    let all : AreLive (needed (map view_form c.args.registry.now) c.args.names.items) c.args.registry.now = subst (λ (names : List (List ℕ)). AreLive names c.args.registry.now) (c.deref.ensures.value ∙ c.in_ok-needed.ensures.needed) (c.is_one_stale.ensures.live c.if-not-is_one_stale.true) in
    live_needed c.args.names.items c.args.collections.now c.args.registry.now c.what_is_asked_for_is_needed.ensures.asked all

pub returns-then-not-is_one_stale-clause-marks : goal.returns-then-not-is_one_stale-clause-marks
returns-then-not-is_one_stale-clause-marks c =
    let all : AreLive (needed (map view_form c.args.registry.now) c.args.names.items) c.args.registry.now = subst (λ (names : List (List ℕ)). AreLive names c.args.registry.now) (c.deref.ensures.value ∙ c.in_ok-needed.ensures.needed) (c.is_one_stale.ensures.live c.if-not-is_one_stale.true) in
    read_live c.args.names.items c.args.collections.now c.args.registry.now all
