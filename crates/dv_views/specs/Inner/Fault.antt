-- The faults of a new view as text and as numbers.
use Rattle.std.specs.Prelude.{ℕ, List, codes}
use Rattle.dv_views.specs.declared.fault.ViewFault.{ViewFault}
use Rattle.dv_views.specs.declared.fault.ViewFault.TheVariants.{Exists, ReadByView, LimitReached, NoMemory}

abbrev pub view_fault_text : ViewFault → List ℕ
view_fault_text Exists = codes "Exists"
view_fault_text ReadByView = codes "ReadByView"
view_fault_text LimitReached = codes "LimitReached"
view_fault_text NoMemory = codes "NoMemory"

abbrev pub view_fault_number : ViewFault → ℕ
view_fault_number Exists = 1
view_fault_number ReadByView = 2
view_fault_number LimitReached = 4
view_fault_number NoMemory = 5
