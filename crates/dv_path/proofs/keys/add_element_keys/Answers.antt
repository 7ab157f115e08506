use Rattle.std.proofs.Common.{◌∙◌, ◌||◌, ap}
use Rattle.std.specs.BTreeSet.{contains}
use Rattle.dv_order.specs.Key.{key_order}
use Rattle.dv_value.specs.View.{tree}
use Rattle.dv_path.specs.LeafKeys.{is_key_of, is_some_key}
use Rattle.dv_path.proofs.KeySets.{keys-more, on-err, seen-first}
use Rattle.dv_path.proofs.keys.add_element_keys.Goals as goal

pub loop-element-preserved : goal.loop-element-preserved
loop-element-preserved c = λ k.
    let x = c.element-item.result in
    c.in_ok-add_key.ensures.ok k
    ∙ ap (λ b. b || is_key_of k (tree x)) (c.loop-element.invariant k)
    ∙ keys-more k (contains key_order c.args.keys.now k) c.as_slice-element-items.result.now c.loop-element.element-index x c.loop-element-test.true c.element-item.is

pub returns-in_err-add_key-clause-part : goal.returns-in_err-add_key-clause-part
returns-in_err-add_key-clause-part c =
    let i = c.loop-element.element-index in
    on-err c.from_residual.result (
      i,
      λ k.
          c.in_err-add_key.ensures.err k
          ∙ c.loop-element.invariant k
          ∙ ap (λ vs. contains key_order c.args.keys.now k || is_some_key k vs) (seen-first i c.as_slice-element-items.result.now c.args.list.now c.as_slice-element-items.ensures),
    )
