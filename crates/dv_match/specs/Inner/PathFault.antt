-- The fault of a filter one of whose names is no path.
use Rattle.dv_candidates.specs.declared.fault.PathFault.{PathFault}
use Rattle.dv_candidates.specs.declared.fault.PathFault.TheVariants as paths
use Rattle.dv_match.specs.declared.fault.FilterFault.{FilterFault}
use Rattle.dv_match.specs.declared.fault.FilterFault.TheVariants.{BadPath, NoMemory}

abbrev pub of_path : PathFault → FilterFault
of_path paths.NoMemory = NoMemory
of_path e = BadPath
