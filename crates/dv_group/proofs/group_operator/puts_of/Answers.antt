-- They are the changes from no rows to these.
use Rattle.std.proofs.Common.{◌++◌, ◌∙◌}
use Rattle.dv_change.specs.Inner.Told.{diff_told}
use Rattle.dv_group.proofs.group_operator.puts_of.Goals as goal

pub returns : goal.returns
returns c = c.in_ok-hand_over.ensures.out ∙ (λ i. c.new-puts.ensures.items i ++ diff_told (c.new-none.ensures i) c.args.rows.now)
