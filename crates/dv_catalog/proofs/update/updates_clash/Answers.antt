use Rattle.std.proofs.Common.{◌≡◌, false, List, map, sym, ap, subst, ◌∙◌}
use Rattle.std.proofs.lemmas.Result.{IfOk-weaker}
use Rattle.std.specs.List.{AllByRecursion, list_any}
use Rattle.dv_value.specs.Tree.{Field}
use Rattle.dv_coll.specs.Collection.{HasId}
use Rattle.dv_keyed.specs.Index.{IndexForm}
use Rattle.dv_index.specs.Unique.{replacing_clashes}
use Rattle.dv_index.specs.Inner.View.{afters}
use Rattle.dv_catalog.specs.Changes.{put}
use Rattle.dv_catalog.specs.Inner.EffectView.{after_of}
use Rattle.dv_catalog.proofs.Breaking.{none_break, puts_break}
use Rattle.dv_catalog.proofs.Keeping.{all_begin}
use Rattle.dv_catalog.proofs.ToldChanges.{all_identified}
use Rattle.dv_catalog.proofs.update.updates_clash.Goals as goal

pub returns-then-not-has_unique : goal.returns-then-not-has_unique
returns-then-not-has_unique c =
    let old = c.args.collection.now in
    let updates = c.args.updates.now in
    let none : list_any (λ (x : IndexForm). x.unique) old.indexes ≡ false = sym c.has_unique.ensures ∙ c.if-not-has_unique.true in
    sym (none_break old.indexes (map put (map (after_of updates.name) updates.each.items)) old.documents none)

pub replacing_clashes-requires-clause-identified : goal.replacing_clashes-requires-clause-identified
replacing_clashes-requires-clause-identified c =
    let updates = c.args.updates.now in
    let come = map (after_of updates.name) updates.each.items in
    let are : afters c.deref-3.result.now ≡ come = ap afters c.deref-3.ensures.value ∙ c.in_ok-pairs.ensures.after ∙ c.deref-2.ensures.value ∙ c.in_ok-afters.ensures in
    subst (AllByRecursion HasId) (sym are) (all_identified come (all_begin c.args.collection.now.documents (map put come) c.requires.placed))

pub returns : goal.returns
returns c =
    let old = c.args.collection.now in
    let updates = c.args.updates.now in
    let come = map (after_of updates.name) updates.each.items in
    let are : afters c.deref-3.result.now ≡ come = ap afters c.deref-3.ensures.value ∙ c.in_ok-pairs.ensures.after ∙ c.deref-2.ensures.value ∙ c.in_ok-afters.ensures in
    IfOk-weaker c.replacing_clashes.result _ _
    (λ clash is. is ∙ ap (λ (ds : List (List Field)). replacing_clashes old.indexes ds old.documents) are ∙ sym (puts_break old.indexes old.documents come c.requires.placed)) c.replacing_clashes.ensures
