use Rattle.std.proofs.Common.{ap, suc}
use Rattle.dv_value.proofs.Moved.{AreNamed-moved, length-moved, levels-moved}
use Rattle.dv_value.proofs.laws.where_a_field_stands_is_no_matter.Goals as goal

pub returns : goal.returns
returns c = record { named = AreNamed-moved; size = length-moved; depth = λ before after f. ap suc (levels-moved before after f) }
