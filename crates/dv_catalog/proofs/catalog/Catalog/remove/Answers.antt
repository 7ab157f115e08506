use Rattle.std.proofs.Common.{◌≡◌, false, inl, refl, sym, ap, ◌∙◌}
use Rattle.dv_catalog.specs.Inner.CatalogParts.{marks_of, state_of}
use Rattle.dv_catalog.specs.State.{is_collection, lists_of}
use Rattle.dv_catalog.proofs.Kept.{nothing_dropped, read_stays, view_dropped}
use Rattle.dv_catalog.proofs.Making.{kept_less}
use Rattle.dv_catalog.proofs.Marking.{marked_dropped, marks_less}
use Rattle.dv_catalog.proofs.catalog.Catalog.remove.Goals as goal

pub returns-then-not-has-clause-made : goal.returns-then-not-has-clause-made
returns-then-not-has-clause-made c =
    let none : is_collection c.args.namespace.now c.self.inside.collections ≡ false = sym c.has.ensures ∙ c.if-has.false in
    rw (← c.self.view_is) (inl (nothing_dropped c.args.namespace.now c.self.inside.collections c.self.inside.views none (sym c.has-2.ensures ∙ c.if-not-has.true)), refl)

pub returns-then-is_read-clause-made : goal.returns-then-is_read-clause-made
returns-then-is_read-clause-made c =
    let none : is_collection c.args.namespace.now c.self.inside.collections ≡ false = sym c.has.ensures ∙ c.if-has.false in
    rw (← c.self.view_is) (inl (read_stays c.args.namespace.now c.self.inside.collections c.self.inside.views none (sym c.has-2.ensures ∙ c.if-not-has.false) (sym c.is_read.ensures ∙ c.if-is_read.true)), refl)

pub invariant_of-self : goal.invariant_of-self
invariant_of-self c =
    let unread = sym c.is_read.ensures ∙ c.if-is_read.false in
    let right = c.a_removed_view_leaves_views_right.ensures c.args.namespace.now (lists_of c.self.inside.collections) c.self.inside.views unread c.self.invariant.right in
    rw c.remove.ensures.views (kept_less c.self.inside.collections c.args.namespace.now c.self.inside.views right c.self.invariant)

pub returns-clause-made : goal.returns-clause-made
returns-clause-made c =
    let none : is_collection c.args.namespace.now c.self.inside.collections ≡ false = sym c.has.ensures ∙ c.if-has.false in
    rw (← c.self.view_is, c.remove.ensures.views) (view_dropped c.args.namespace.now c.self.inside.collections c.self.inside.views none (sym c.has-2.ensures ∙ c.if-not-has.false) (sym c.is_read.ensures ∙ c.if-is_read.false))

pub returns-clause-marks : goal.returns-clause-marks
returns-clause-marks c =
    let name = c.args.namespace.now in
    let none : is_collection name c.self.inside.collections ≡ false = sym c.has.ensures ∙ c.if-has.false in
    rw (← c.self.view_is) (marked_dropped name (state_of c.self.inside.collections c.self.inside.views) (marks_of c.self.inside.views) (marks_of c.remove.new.self) none (ap marks_of c.remove.ensures.views ∙ marks_less name c.self.inside.views))
