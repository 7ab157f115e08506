use Rattle.std.proofs.Common.{◌≡◌, map, take}
use Rattle.dv_path.specs.Parts.{part}
use Rattle.dv_sort.specs.Inner.Keys as defined
use Rattle.dv_sort.proofs.row.row_keys.Given as goal

abbrev pub invariant-loop-part : goal.invariant-loop-part
invariant-loop-part l = l.keys.items ≡ defined.row_keys (map part (take l.part-index l.parts)) l.document
