use Rattle.std.specs.String.{string_bytes}
use Rattle.std.proofs.Common.{◌≡◌, ℕ, false, List, map, Some, Ok, Err, sym, subst, ap, ◌∙◌}
use Rattle.std.proofs.lemmas.Bool.{or_parts}
use Rattle.dv_command.specs.Inner.View.{view_on_seen}
use Rattle.dv_pipe.specs.Sources as pipes
use Rattle.dv_views.specs.Forms.{names_read, needed}
use Rattle.dv_views.specs.Inner.Made.{AreAlike}
use Rattle.dv_views.specs.Inner.Views.{view_form}
use Rattle.dv_views.specs.Inner.FormLaws.{same_forms}
use Rattle.dv_catalog.specs.Inner.CatalogParts.{marks_of, state_of}
use Rattle.dv_catalog.specs.Marks.{Marked, marks_made}
use Rattle.dv_catalog.specs.Inner.Parts.{Leaves}
use Rattle.dv_catalog.specs.State.{is_there, lists_of}
use Rattle.dv_catalog.specs.Views.{made}
use Rattle.dv_catalog.proofs.Making.{created_marks, kept_forms, kept_new, refused_marks, view_made, view_refused}
use Rattle.dv_catalog.proofs.Refreshed.{same_state}
use Rattle.dv_catalog.proofs.catalog.Catalog.create_view.Goals as goal

pub invariant_of-self : goal.invariant_of-self
invariant_of-self c =
    let source = c.deref-3.result.now in
    let stages = c.args.view.pipeline in
    let collections = c.self.inside.collections in
    let before = c.self.inside.views in
    let sources = c.in_ok-sources.sources in
    let free : is_there c.args.namespace.now (state_of collections before) ≡ false = rw (← c.self.view_is) at c.requires in
    let these = c.deref-2.ensures.value ∙ c.in_ok-needed.ensures.needed ∙ ap (needed (map view_form before)) (c.in_ok-names.ensures ∙ ap (names_read stages) (c.deref.ensures ∙ sym c.deref-3.ensures)) in
    let alike = subst (λ (ns : List (List ℕ)). AreAlike ns (pipes.lists_of sources) (lists_of collections)) these c.in_ok-sources.ensures.alike in
    kept_new c.args.namespace.now source stages collections before c.create.new.self c.in-Ok.ensures.ok (or_parts _ _ free).0 (c.create.ensures.right (lists_of collections) alike c.self.invariant.right) c.self.invariant

pub returns-in-Ok-clause-made : goal.returns-in-Ok-clause-made
returns-in-Ok-clause-made c =
    let source = string_bytes c.args.view.source in
    let stages = c.args.view.pipeline in
    let collections = c.self.inside.collections in
    let after = c.create.new.self in
    subst (λ (m : Marked). made c.args.namespace.now (Some (view_on_seen c.args.view)) m.state ≡ Ok (state_of collections after)) c.self.view_is
    (view_made c.args.namespace.now source stages collections c.self.inside.views after (rw c.deref-3.ensures at c.in-Ok.ensures.ok) (rw c.deref-3.ensures at c.in-Ok.ensures.fault))

pub returns-in-Ok-clause-marks : goal.returns-in-Ok-clause-marks
returns-in-Ok-clause-marks c =
    rw (← c.self.view_is)
    (created_marks c.args.namespace.now (string_bytes c.args.view.source) c.args.view.pipeline c.self.inside.collections c.self.inside.views c.create.new.self (rw c.deref-3.ensures at c.in-Ok.ensures.ok))

pub invariant_of-self-2 : goal.invariant_of-self-2
invariant_of-self-2 c =
    let source = c.deref-3.result.now in
    let stages = c.args.view.pipeline in
    let collections = c.self.inside.collections in
    let before = c.self.inside.views in
    let sources = c.in_ok-sources.sources in
    let these = c.deref-2.ensures.value ∙ c.in_ok-needed.ensures.needed ∙ ap (needed (map view_form before)) (c.in_ok-names.ensures ∙ ap (names_read stages) (c.deref.ensures ∙ sym c.deref-3.ensures)) in
    let alike = subst (λ (ns : List (List ℕ)). AreAlike ns (pipes.lists_of sources) (lists_of collections)) these c.in_ok-sources.ensures.alike in
    let forms = same_forms (needed (map view_form before) (names_read stages source)) before c.create.new.self c.in-Err.ensures.err in
    kept_forms collections before c.create.new.self forms (c.create.ensures.right (lists_of collections) alike c.self.invariant.right) c.self.invariant

pub returns-clause-made : goal.returns-clause-made
returns-clause-made c =
    let source = string_bytes c.args.view.source in
    let stages = c.args.view.pipeline in
    let collections = c.self.inside.collections in
    let before = c.self.inside.views in
    let after = c.create.new.self in
    let forms = same_forms (needed (map view_form before) (names_read stages source)) before after (rw c.deref-3.ensures at c.in-Err.ensures.err) in
    subst (λ (m : Marked). Leaves {B = Unit {0}} (made c.args.namespace.now (Some (view_on_seen c.args.view)) m.state) m.state (Err c.refusal_of.result) (state_of collections after)) c.self.view_is
    (rw c.refusal_of.ensures (view_refused c.args.namespace.now source stages collections before after c.in-Err.fault (rw c.deref-3.ensures at c.in-Err.ensures.fault), same_state collections before after forms))

pub returns-clause-marks : goal.returns-clause-marks
returns-clause-marks c =
    let source = string_bytes c.args.view.source in
    let stages = c.args.view.pipeline in
    let collections = c.self.inside.collections in
    let before = c.self.inside.views in
    rw (← c.self.view_is, c.refusal_of.ensures)
    (refused_marks c.args.namespace.now source stages collections before c.create.new.self c.in-Err.fault (rw c.deref-3.ensures at c.in-Err.ensures.fault) (Unit {0}) (marks_made (Some (view_on_seen c.args.view)) (map view_form before) (marks_of before))
    (rw c.deref-3.ensures at c.in-Err.ensures.err) (rw c.deref-3.ensures at c.in-Err.ensures.refused))
