-- Why an update is refused: the faults as texts and as numbers.
use Rattle.std.specs.Prelude.{ℕ, List, codes}
use Rattle.dv_update.specs.declared.fault.UpdateFault.{UpdateFault}
use Rattle.dv_update.specs.declared.fault.UpdateFault.TheVariants.{UnknownOperator, Conflict, NotViable, NotNumber, Overflow, NotArray, IdChanged, TooLarge, TooDeep, NoMemory, BadName, BadOperand}

abbrev pub fault_text : UpdateFault → List ℕ
fault_text UnknownOperator = codes "UnknownOperator"
fault_text Conflict = codes "Conflict"
fault_text NotViable = codes "NotViable"
fault_text NotNumber = codes "NotNumber"
fault_text Overflow = codes "Overflow"
fault_text NotArray = codes "NotArray"
fault_text IdChanged = codes "IdChanged"
fault_text TooLarge = codes "TooLarge"
fault_text TooDeep = codes "TooDeep"
fault_text NoMemory = codes "NoMemory"
fault_text BadName = codes "BadName"
fault_text BadOperand = codes "BadOperand"

abbrev pub fault_number : UpdateFault → ℕ
fault_number UnknownOperator = 1
fault_number Conflict = 2
fault_number NotViable = 3
fault_number NotNumber = 4
fault_number Overflow = 5
fault_number NotArray = 6
fault_number IdChanged = 7
fault_number TooLarge = 8
fault_number TooDeep = 9
fault_number NoMemory = 10
fault_number BadName = 11
fault_number BadOperand = 12
