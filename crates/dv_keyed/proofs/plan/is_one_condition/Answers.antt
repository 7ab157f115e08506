use Rattle.std.proofs.Common.{◌∙◌}
use Rattle.dv_keyed.proofs.Decided.{one-part, several-parts}
use Rattle.dv_keyed.proofs.plan.is_one_condition.Goals as goal

pub returns-in-len1 : goal.returns-in-len1
returns-in-len1 c =
    c.is_one_under.ensures ∙ one-part c.members.result.now c.args.filter.now c.members.ensures c.part-item.result c.in-len1.len_at_least c.in-len1.len_below c.part-item.is

pub returns-in_default-2 : goal.returns-in_default-2
returns-in_default-2 c = several-parts c.members.result.now c.args.filter.now c.members.ensures c.in_default.len_at_least
