use Rattle.std.proofs.Common.{take, ap, refl, ◌∙◌}
use Rattle.dv_change.specs.Inner.Told.{changes_told}
use Rattle.dv_catalog.specs.Inner.EffectView.{changes_seen}
use Rattle.dv_catalog.specs.State.{Namespaces, documents_of, lists_of}
use Rattle.dv_catalog.specs.Inner.Told.{AreTold}
use Rattle.dv_catalog.proofs.Keeping.{all_able, collections_after, documents_after, kept_after}
use Rattle.dv_catalog.proofs.Marking.{are_marked}
use Rattle.dv_catalog.proofs.Stopping.{first_placed}
use Rattle.dv_catalog.proofs.ToldViews.{told_first}
use Rattle.dv_catalog.proofs.catalog.Catalog.make.Goals as goal

pub told-requires-clause-placed : goal.told-requires-clause-placed
told-requires-clause-placed c = rw (← c.self.view_is) at c.requires.placed

pub told-requires-clause-standing : goal.told-requires-clause-standing
told-requires-clause-standing c = rw (← c.self.view_is) at c.requires.standing

pub invariant_of-self : goal.invariant_of-self
invariant_of-self c =
    let old = c.self.inside.collections in
    let before = c.self.inside.views in
    let name = c.args.namespace.now in
    let changes = changes_seen c.args.changes in
    let made = take c.make-done.result changes in
    let first : AreTold name before (documents_of name old) made c.truncate.new.self.items = rw c.truncate.ensures.items (told_first c.make-done.result name before (documents_of name old) changes c.in_ok-told.told.items c.in_ok-told.ensures) in
    let placed = first_placed (documents_of name old) changes c.make-done.result (rw (← c.self.view_is) at c.requires.placed) in
    kept_after c.told_changes_are_made.ensures c.what_is_not_read_does_not_matter.ensures old c.make-done.new.self before c.apply.new.self name made (changes_told c.truncate.new.self.items) c.truncate.new.self.items c.self.invariant (rw (← c.self.view_is) at c.requires.ordered)
    (all_able (documents_of name old) made placed) (λ n. ap (λ (ns : Namespaces). documents_of n ns) c.make-done.ensures.made ∙ documents_after old name made n) refl first (rw c.deref.ensures.value at c.apply.ensures.right)
    c.apply.ensures.forms (rw (← c.self.view_is) at c.requires.collection) (λ n e. collections_after old name made n (rw c.make-done.ensures.made at e))

pub returns-clause-views : goal.returns-clause-views
returns-clause-views c = rw (← c.self.view_is) c.apply.ensures.forms

pub returns-clause-marks : goal.returns-clause-marks
returns-clause-marks c =
    let old = c.self.inside.collections in
    let before = c.self.inside.views in
    let name = c.args.namespace.now in
    let changes = changes_seen c.args.changes in
    let made = take c.make-done.result changes in
    let first : AreTold name before (documents_of name old) made c.truncate.new.self.items = rw c.truncate.ensures.items (told_first c.make-done.result name before (documents_of name old) changes c.in_ok-told.told.items c.in_ok-told.ensures) in
    let placed = first_placed (documents_of name old) changes c.make-done.result (rw (← c.self.view_is) at c.requires.placed) in
    rw (← c.self.view_is)
    (are_marked c.told_changes_are_made.ensures c.what_is_not_read_is_not_counted.ensures (lists_of old) name made (changes_told c.truncate.new.self.items) c.truncate.new.self.items refl before c.apply.new.self (rw (← c.self.view_is) at c.requires.ordered)
    (all_able (documents_of name old) made placed) first c.self.invariant.right (rw c.deref.ensures.value at c.apply.ensures.counted))
