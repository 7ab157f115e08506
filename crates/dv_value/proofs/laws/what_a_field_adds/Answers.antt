use Rattle.dv_value.proofs.Moved.{length-nothing, length-field}
use Rattle.dv_value.proofs.laws.what_a_field_adds.Goals as goal

pub returns : goal.returns
returns c = record { nothing = length-nothing; more = length-field }
