-- The faults of paths as text and as numbers.
use Rattle.std.specs.Prelude.{ℕ, List, codes}
use Rattle.dv_candidates.specs.declared.fault.PathFault.{PathFault}
use Rattle.dv_candidates.specs.declared.fault.PathFault.TheVariants.{EmptyComponent, NotViable, IndexTooLarge, NoMemory}

-- the name of a fault
abbrev pub path_fault_text : PathFault → List ℕ
path_fault_text EmptyComponent = codes "EmptyComponent"
path_fault_text NotViable = codes "NotViable"
path_fault_text IndexTooLarge = codes "IndexTooLarge"
path_fault_text NoMemory = codes "NoMemory"

-- the number of a fault
abbrev pub path_fault_number : PathFault → ℕ
path_fault_number EmptyComponent = 1
path_fault_number NotViable = 2
path_fault_number IndexTooLarge = 3
path_fault_number NoMemory = 4
