use Rattle.std.proofs.Common.{◌∙◌, ◌||◌, ap}
use Rattle.std.specs.BTreeSet.{contains}
use Rattle.dv_order.specs.Key.{key_order}
use Rattle.dv_candidates.specs.View.{seen}
use Rattle.dv_gather.proofs.Gathered.{local-list, local-alone}
use Rattle.dv_gather.proofs.keys.with_local.Goals as goal

pub returns-in_default : goal.returns-in_default
returns-in_default c = λ k.
    c.in_ok-add_key.ensures.ok k ∙ ap (λ b. contains key_order c.args.keys k || b) (local-alone k (seen c.args.candidate) c.in_default.ensures)

pub returns : goal.returns
returns c = λ k.
    c.in_ok-add_element_keys.ensures.ok k ∙ ap (λ b. contains key_order c.args.keys k || b) (local-list k (seen c.args.candidate) c.in-Some.list.now c.in-Some.ensures)
