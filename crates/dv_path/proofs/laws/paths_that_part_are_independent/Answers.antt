use Rattle.dv_path.proofs.Parting.{slot_apart, put_apart}
use Rattle.dv_path.proofs.laws.paths_that_part_are_independent.Goals as goal

pub returns-clause-slot : goal.returns-clause-slot
returns-clause-slot c = slot_apart

pub returns-clause-put : goal.returns-clause-put
returns-clause-put c = put_apart
