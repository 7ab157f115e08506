-- The faults of pipelines as text and as numbers, and what the faults of a path are in a pipeline.
use Rattle.std.specs.Prelude.{ℕ, List, codes}
use Rattle.dv_candidates.specs.declared.fault.PathFault.{PathFault}
use Rattle.dv_candidates.specs.declared.fault.PathFault.TheVariants as paths
use Rattle.dv_row.specs.declared.fault.PipelineFault.{PipelineFault}
use Rattle.dv_row.specs.declared.fault.PipelineFault.TheVariants.{UnknownStage, BadSpec, Filter, Conflict, TooMany, NoMemory}

-- the name of a fault
abbrev pub pipeline_fault_text : PipelineFault → List ℕ
pipeline_fault_text UnknownStage = codes "UnknownStage"
pipeline_fault_text BadSpec = codes "BadSpec"
pipeline_fault_text Filter = codes "Filter"
pipeline_fault_text Conflict = codes "Conflict"
pipeline_fault_text TooMany = codes "TooMany"
pipeline_fault_text NoMemory = codes "NoMemory"

-- the number of a fault
abbrev pub pipeline_fault_number : PipelineFault → ℕ
pipeline_fault_number UnknownStage = 1
pipeline_fault_number BadSpec = 2
pipeline_fault_number Filter = 3
pipeline_fault_number Conflict = 4
pipeline_fault_number TooMany = 5
pipeline_fault_number NoMemory = 6

-- the fault of a pipeline in which a path has this fault: `BadSpec`, unless memory ran out
abbrev pub pipeline_fault_of_path : PathFault → PipelineFault
pipeline_fault_of_path paths.NoMemory = NoMemory
pipeline_fault_of_path e = BadSpec
