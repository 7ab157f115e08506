use Rattle.std.proofs.Common.{◌≡◌, map, take}
use Rattle.dv_path.specs.Parts.{part}
use Rattle.dv_path.proofs.sort_spec.SortSpec.try_clone.Given as goal

abbrev pub invariant-loop-part : goal.invariant-loop-part
invariant-loop-part l = map part l.parts.items ≡ map part (take l.part-index l.part-items)
