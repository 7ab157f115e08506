use Rattle.std.proofs.Common.{List, ap, subst, sym, take, ◌∙◌, ◌++◌, ◌∷◌, []}
use Rattle.std.proofs.lemmas.List.{take_all, take_more}
use Rattle.dv_change.specs.declared.change.Change.{Change}
use Rattle.dv_views.proofs.Kept.{HaveKept, kept_more, kept_none, kept_right}
use Rattle.dv_views.proofs.registry.Registry.apply.Goals as goal

pub changes-init : goal.changes-init
changes-init c = kept_none c.args.namespace.now c.args.self.now

pub changes-preserved : goal.changes-preserved
changes-preserved c =
    let namespace = c.args.namespace.now in
    let before = c.args.self.now in
    let so_far = take c.changes.change-index c.args.changes.now in
    let item = c.change-item.result in
    let more = take_more c.args.changes.now c.changes.change-index item c.changes-test.true ∙ ap (λ (x : Change). so_far ++ x ∷ []) (sym c.change-item.is) in
    subst (λ (xs : List Change). HaveKept namespace xs before c.take.new.self) (sym more)
    (kept_more c.kept_rows_are_those_from_scratch.ensures c.what_is_not_read_does_not_matter.ensures c.equal_keys_are_one.ensures namespace so_far item before c.changes.self c.take.new.self c.changes.invariant c.take.ensures)

pub returns-clause-forms : goal.returns-clause-forms
returns-clause-forms c = c.changes.invariant.followed.forms

pub returns-clause-right : goal.returns-clause-right
returns-clause-right c = λ lists made right.
    let namespace = c.args.namespace.now in
    let all = subst (λ (xs : List Change). HaveKept namespace xs c.args.self.now c.changes.self) (take_all c.changes.change-index c.args.changes.now c.changes-test.false) c.changes.invariant in
    kept_right namespace c.args.changes.now c.args.self.now c.changes.self all lists made right

pub returns-clause-counted : goal.returns-clause-counted
returns-clause-counted c = λ lists made right.
    let namespace = c.args.namespace.now in
    let all = subst (λ (xs : List Change). HaveKept namespace xs c.args.self.now c.changes.self) (take_all c.changes.change-index c.args.changes.now c.changes-test.false) c.changes.invariant in
    all.followed.counted lists made (right.copies namespace) right.views
