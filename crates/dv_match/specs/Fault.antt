-- Why a filter is refused: the faults as texts and as numbers.
use Rattle.std.specs.Prelude.{ℕ, List, codes}
use Rattle.dv_match.specs.declared.fault.FilterFault.{FilterFault}
use Rattle.dv_match.specs.declared.fault.FilterFault.TheVariants.{UnknownOperator, BadOperand, EmptyList, BadPath, NoMemory}

abbrev pub filter_fault_text : FilterFault → List ℕ
filter_fault_text UnknownOperator = codes "UnknownOperator"
filter_fault_text BadOperand = codes "BadOperand"
filter_fault_text EmptyList = codes "EmptyList"
filter_fault_text BadPath = codes "BadPath"
filter_fault_text NoMemory = codes "NoMemory"

abbrev pub filter_fault_number : FilterFault → ℕ
filter_fault_number UnknownOperator = 1
filter_fault_number BadOperand = 2
filter_fault_number EmptyList = 3
filter_fault_number BadPath = 4
filter_fault_number NoMemory = 5
