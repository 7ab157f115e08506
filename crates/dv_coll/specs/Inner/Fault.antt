-- The faults of an insert as text and as numbers.
use Rattle.std.specs.Prelude.{ℕ, List, codes}
use Rattle.dv_coll.specs.declared.fault.InsertFault.{InsertFault}
use Rattle.dv_coll.specs.declared.fault.InsertFault.TheVariants.{Duplicate, NoMemory}

abbrev pub fault_text : InsertFault → List ℕ
fault_text Duplicate = codes "Duplicate"
fault_text NoMemory = codes "NoMemory"

abbrev pub fault_number : InsertFault → ℕ
fault_number Duplicate = 1
fault_number NoMemory = 2
