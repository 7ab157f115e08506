use Rattle.std.proofs.Common.{map, take, Some}
use Rattle.dv_value.specs.View.{tree}
use Rattle.dv_match.specs.Inner.Blocks.{Marked}
use Rattle.dv_match.proofs.marks.Marks.with_each.Given as goal

abbrev pub invariant-loop-element : goal.invariant-loop-element
invariant-loop-element l = Marked l.block (map Some (map tree (take l.element-index l.element-items))) l.fn.self l.marks
