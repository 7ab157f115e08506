use Rattle.std.specs.BTreeSet.{contains}
use Rattle.dv_order.specs.Key.{key_order}
use Rattle.dv_candidates.specs.View.{seen}
use Rattle.dv_path.proofs.KeySets.{with-list, without-list}
use Rattle.dv_path.proofs.keys.with_leaves.Goals as goal

pub returns-in_default : goal.returns-in_default
returns-in_default c = λ k.
    without-list k (seen c.args.candidate) (contains key_order c.args.keys k) _ (c.in_ok-add_key.ensures.ok k) c.in_default.ensures

pub returns : goal.returns
returns c = λ k.
    with-list k (seen c.args.candidate) (contains key_order c.args.keys k) _ (c.in_ok-add_key.ensures.ok k) c.in-Some.list.now _ c.in-Some.ensures (c.in_ok-add_element_keys.ensures.ok k)
