use Rattle.std.proofs.Common.{◌∙◌, ap, true}
use Rattle.dv_keyed.specs.Inner.Ahead.{leaf_sorted_by}
use Rattle.dv_keyed.specs.Inner.Interval.{is_in_all}
use Rattle.dv_keyed.specs.Inner.Pairs.{has_pair}
use Rattle.dv_keyed.proofs.before.ids_ahead.Goals as goal

pub returns-then-is_everything : goal.returns-then-is_everything
returns-then-is_everything c = λ k i before there only.
    c.in_ok-ids.ensures k i before (c.is_everything-is_everything.ensures c.if-is_everything.true (leaf_sorted_by k)) (ap (has_pair (leaf_sorted_by k) i) (c.as_pairs.ensures ∙ c.pairs-pairs.ensures) ∙ there)

pub returns : goal.returns
returns c = λ k i before there only.
    let leaf = leaf_sorted_by k in
    let held = ap (has_pair leaf i) c.pairs-pairs.ensures ∙ there in
    c.in_ok-add_several.ensures leaf i held (λ alone.
    c.in_ok-ids.ensures k i before (c.in_ok-ends.ensures leaf (ap (λ p. is_in_all leaf p c.args.filter.now) c.path.ensures ∙ only (λ l also. alone l (ap (has_pair l i) c.pairs-pairs.ensures ∙ also)))) (ap (has_pair leaf i) (c.as_pairs.ensures ∙ c.pairs-pairs.ensures) ∙ there))
