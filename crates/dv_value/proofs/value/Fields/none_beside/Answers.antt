use Rattle.std.proofs.Common.{refl}
use Rattle.dv_value.proofs.Zipped.{zip-none}
use Rattle.dv_value.proofs.value.Fields.none_beside.Goals as goal

pub returns : goal.returns
returns c = zip-none _ _ (rw c.in_ok-with_capacity.ensures.items refl)
