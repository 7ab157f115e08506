use Rattle.std.proofs.Common.{List, subst, take, sym, ap, ◌∙◌, ◌++◌, ◌∷◌, []}
use Rattle.std.proofs.lemmas.List.{take_all, take_more}
use Rattle.dv_change.specs.declared.taking.Taken as taking
use Rattle.dv_change.specs.Inner.Told.{changes_told}
use Rattle.dv_views.specs.Inner.Turned.{HaveTaken, known_at}
use Rattle.dv_views.proofs.Behind.{AreToldIn, HaveFollowed, follow_none, follow_told}
use Rattle.dv_views.proofs.told_registry.ToldRegistry.apply.Goals as goal

pub changes-init : goal.changes-init
changes-init c = follow_none c.args.namespace.now (AreToldIn []) c.args.self.now

pub changes-preserved : goal.changes-preserved
changes-preserved c =
    let namespace = c.args.namespace.now in
    let before = c.args.self.now in
    let so_far = take c.changes.taken-index c.args.all.now in
    let item = c.taken-item.result in
    let more = take_more c.args.all.now c.changes.taken-index item c.changes-test.true ∙ ap (λ (x : taking.Taken). so_far ++ x ∷ []) (sym c.taken-item.is) in
    let taken = subst (λ (ts : List taking.Taken). HaveTaken (known_at namespace ts) c.changes.self c.take.new.self) c.from_ref.ensures.value c.take.ensures.taken in
    subst (λ (xs : List taking.Taken). HaveFollowed namespace (changes_told xs) (AreToldIn xs) before c.take.new.self) (sym more)
    (follow_told c.kept_rows_are_those_from_scratch.ensures c.what_is_not_read_does_not_matter.ensures c.equal_keys_are_one.ensures namespace so_far item before c.changes.self c.take.new.self c.changes.invariant taken c.take.ensures.sound.live)

pub returns-clause-forms : goal.returns-clause-forms
returns-clause-forms c = c.changes.invariant.forms

pub returns-clause-right : goal.returns-clause-right
returns-clause-right c =
    (subst (λ (xs : List taking.Taken). HaveFollowed c.args.namespace.now (changes_told xs) (AreToldIn xs) c.args.self.now c.changes.self) (take_all c.changes.taken-index c.args.all.now c.changes-test.false) c.changes.invariant).right

pub returns-clause-counted : goal.returns-clause-counted
returns-clause-counted c =
    (subst (λ (xs : List taking.Taken). HaveFollowed c.args.namespace.now (changes_told xs) (AreToldIn xs) c.args.self.now c.changes.self) (take_all c.changes.taken-index c.args.all.now c.changes-test.false) c.changes.invariant).counted
