use Rattle.std.proofs.Common.{◌≡◌, length}
use Rattle.std.specs.List.{list_all}
use Rattle.dv_match.specs.Inner.Asked.{parts}
use Rattle.dv_match.specs.Inner.Blocks.{has_equal}
use Rattle.dv_match.specs.Inner.Choices.{Ascend}
use Rattle.dv_match.proofs.marks.have_equals.Given as goal

abbrev pub invariant-each_block : goal.invariant-each_block
invariant-each_block l = (list_all (has_equal (parts l.place)) l.values ≡ list_all (has_equal (parts l.place)) l.left) × Ascend l.left

abbrev pub decreases-each_block : goal.decreases-each_block
decreases-each_block l = length l.left
