use Rattle.std.proofs.Common.{rules}
use Rattle.dv_words.proofs.Pairs.{one_more_space}
use Rattle.dv_words.proofs.line.behind_spaces.Goals as goal

pub spaces-preserved : goal.spaces-preserved
spaces-preserved c = one_more_space c.args.text.now c.spaces.rest.now c.spaces.invariant c.in-32.len_at_least (search rules)
