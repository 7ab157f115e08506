use Rattle.std.proofs.Common.{◌∙◌}
use Rattle.std.specs.BTreeSet.{contains}
use Rattle.dv_order.specs.Key.{key_order}
use Rattle.dv_candidates.specs.Candidates.{or_null}
use Rattle.dv_candidates.specs.View.{seen}
use Rattle.dv_path.proofs.KeySets.{key-added}
use Rattle.dv_path.proofs.keys.add_key.Goals as goal

pub returns-clause-ok : goal.returns-clause-ok
returns-clause-ok c = λ k.
    c.in_ok-insert.ensures.updates.0 k
    ∙ key-added k c.in_ok-candidate_key.field-0 (or_null (seen c.args.candidate)) (contains key_order c.args.keys.now k) c.in_ok-candidate_key.ensures
