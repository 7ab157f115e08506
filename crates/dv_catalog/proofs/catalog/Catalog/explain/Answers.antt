use Rattle.std.proofs.Common.{◌≡◌, [], ◌∷◌, None, sym, ap, ◌∙◌}
use Rattle.std.proofs.lemmas.Result.{IfOk-weaker}
use Rattle.dv_views.specs.Inner.Views.{rows_shown}
use Rattle.dv_catalog.specs.Inner.CatalogParts.{marked_of}
use Rattle.dv_catalog.specs.Marks.{Marked}
use Rattle.dv_catalog.specs.State.{rows_of}
use Rattle.dv_catalog.proofs.Explaining.{collection_explained, view_explained}
use Rattle.dv_catalog.proofs.Refreshed.{reads_on}
use Rattle.dv_catalog.proofs.catalog.Catalog.explain.Goals as goal

pub returns-in-Some-clause-explained : goal.returns-in-Some-clause-explained
returns-in-Some-clause-explained c =
    let name = c.args.namespace.now in
    let collections = c.self.inside.collections in
    let before = c.self.inside.views in
    let after = c.refresh_under.new.registry in
    let marks = c.in_ok-refresh_under.ensures.marks in
    let kept = c.law_shown.ensures.kept collections name (c.refresh_under.ensures.right c.self.invariant.right) c.in_ok-refresh_under.ensures.live ∙ ap (λ (m : Marked). rows_of name m.state) marks in
    rw (← c.self.view_is) (c.explained_view.ensures ∙ sym (view_explained name c.args.filter.now collections before after (ap (λ (m : Marked). m.state.views) marks) c.in-Some.rows (sym c.in-Some.ensures) kept))

pub returns-clause-explained : goal.returns-clause-explained
returns-clause-explained c =
    let name = c.args.namespace.now in
    let after = c.refresh_under.new.registry in
    let none : rows_shown name after ≡ None = sym c.in_default.ensures in
    let forms = ap (λ (m : Marked). m.state.views) c.in_ok-refresh_under.ensures.marks in
    let all = collection_explained name c.args.filter.now c.self.inside.collections c.self.inside.views after forms c.in_ok-refresh_under.ensures.live none in
    rw (← c.self.view_is) (IfOk-weaker c.explained_in.result _ _ (λ told is. is ∙ sym all) c.explained_in.ensures)

pub returns-clause-marks : goal.returns-clause-marks
returns-clause-marks c =
    let collections = c.self.inside.collections in
    rw (← c.self.view_is) (reads_on (c.args.namespace.now ∷ []) (marked_of collections c.self.inside.views) (marked_of collections c.refresh_under.new.registry) (tt {0}) c.in_ok-refresh_under.ensures.marks c.explained_in.result)
