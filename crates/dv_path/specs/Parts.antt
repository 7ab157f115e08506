-- What a part of a sort in memory represents.
use Rattle.dv_path.specs.declared.sort_spec.SortPart.{SortPart}
use Rattle.dv_path.specs.SortSpec.{Part}

-- the path and the direction of a part
abbrev pub part : SortPart → Part
part p = (p.path, p.direction)
