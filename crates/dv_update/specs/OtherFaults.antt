-- The faults of the paths and filters in an update, as faults of the update.
use Rattle.dv_candidates.specs.declared.fault.PathFault.{PathFault}
use Rattle.dv_candidates.specs.declared.fault.PathFault.TheVariants as paths
use Rattle.dv_match.specs.declared.fault.FilterFault.{FilterFault}
use Rattle.dv_match.specs.declared.fault.FilterFault.TheVariants as filters
use Rattle.dv_update.specs.declared.fault.UpdateFault.{UpdateFault}
use Rattle.dv_update.specs.declared.fault.UpdateFault.TheVariants.{NotViable, NoMemory, BadName, BadOperand}

-- the fault of a path
abbrev pub of_path : PathFault → UpdateFault
of_path paths.EmptyComponent = BadName
of_path paths.NotViable = NotViable
of_path paths.IndexTooLarge = NotViable
of_path paths.NoMemory = NoMemory

-- the fault of a condition of `$pull`
abbrev pub of_filter : FilterFault → UpdateFault
of_filter filters.NoMemory = NoMemory
of_filter e = BadOperand
