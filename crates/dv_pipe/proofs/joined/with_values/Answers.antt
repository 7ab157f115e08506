use Rattle.std.proofs.Common.{Vec, map, rules}
use Rattle.dv_value.specs.View.{tree}
use Rattle.dv_candidates.specs.View.{seen}
use Rattle.dv_pipe.proofs.RowsJoined.{values-behind}
use Rattle.dv_pipe.proofs.joined.with_values.Goals as goal

pub returns : goal.returns
returns c = values-behind seen _ (λ (values : Vec _ _). map tree values.items) (λ t x u h. search (rules, h.1, h)) c.args.local.now c.args.row.now c.args.values c.in_ok-all.all c.in_ok-all.ensures.outcome
