use Rattle.std.proofs.Common.{Bor, ◌∙◌, ◌||◌, ap, sym, filter, map}
use Rattle.std.proofs.lemmas.List.Folds.{list_any-append}
use Rattle.std.proofs.Math.Bool.{or_assoc}
use Rattle.std.specs.BTreeMap.Range.{range_contains}
use Rattle.dv_order.specs.Key.{KeyTree, key_order}
use Rattle.dv_keyed.specs.Inner.Keys.{has_key}
use Rattle.dv_keyed.specs.Inner.Pairs.{Pair, has_id, pairs_of}
use Rattle.dv_keyed.proofs.Ranges.{ids-of-entry, pairs-between}
use Rattle.dv_keyed.proofs.pairs.Pairs.add_ids_between.Goals as goal

pub loop-found-init : goal.loop-found-init
loop-found-init c = λ i.
    let was = has_key i (map (λ (k : Bor KeyTree). k.now) c.args.ids.now.items) in
    let within = range_contains key_order c.args.low c.args.high in
    ap (λ es. was || has_id i (pairs_of es)) (c.into_iter-found-iterator.ensures.into_iter_gives ∙ c.range-found-items.ensures.between tt)
    ∙ ap (λ ps. was || has_id i ps) (pairs-between within c.self.inside.entries.entries ∙ ap (filter (λ (p : Pair). within p.0)) c.self.view_is)

pub loop-found-preserved : goal.loop-found-preserved
loop-found-preserved c = λ i.
    let before = map (λ (k : Bor KeyTree). k.now) c.loop-found.ids.items in
    let was = has_key i before in
    let rest = c.next.new.self in
    ap (λ b. b || has_id i (pairs_of rest)) (ap (has_key i) c.in_ok-add_to.ensures ∙ list_any-append _ before c.in-Some.found.now)
    ∙ or_assoc was (has_key i c.in-Some.found.now) (has_id i (pairs_of rest))
    ∙ ap (λ b. was || b) (sym (ids-of-entry i (c.in-Some.field-0-0.now, c.in-Some.found.now) rest))
    ∙ ap (λ es. was || has_id i (pairs_of es)) (sym c.in-Some.ensures.steps)
    ∙ c.loop-found.invariant i
