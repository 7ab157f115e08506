-- The fields so far, and what is left without `_id`, are the replacement.
use Rattle.std.proofs.Common.{codes}
use Rattle.dv_value.specs.Names.{value_under}
use Rattle.dv_update.specs.Apply.{chosen}
use Rattle.dv_update.proofs.Replacing.{IsReplaced}
use Rattle.dv_update.proofs.apply.replaced.Given as goal

abbrev pub invariant-others : goal.invariant-others
invariant-others l = IsReplaced (chosen (value_under (codes "_id") l.fields) (value_under (codes "_id") l.document)) l.fields l.changed l.name-iterator
