use Rattle.dv_keyed.proofs.Decided.{one-held, several-held}
use Rattle.dv_keyed.proofs.plan.is_alone.Goals as goal

pub returns-in-len1 : goal.returns-in-len1
returns-in-len1 c = one-held c.as_slice.result.now c.args.conditions.now c.as_slice.ensures c.in-len1.len_at_least c.in-len1.len_below

pub returns-in_default-2 : goal.returns-in_default-2
returns-in_default-2 c = several-held c.as_slice.result.now c.args.conditions.now c.as_slice.ensures c.in_default.len_at_least
