use Rattle.std.proofs.Common.{◌≡◌, ◌++◌, ◌+◌, ◌*◌, length, take}
use Rattle.std.specs.List.{flat_map}
use Rattle.dv_sort.specs.Sorting.{front}
use Rattle.dv_pipe.specs.Inner.Parts.{passed}
use Rattle.dv_pipe.proofs.step.+steps.Given as goal

abbrev pub decreases-push_row : goal.decreases-push_row
decreases-push_row l = 3 * length l.steps.now

abbrev pub decreases-push_made : goal.decreases-push_made
decreases-push_made l = 3 * length l.later.now + 1

abbrev pub decreases-push_each : goal.decreases-push_each
decreases-push_each l = 3 * length l.later.now + 2

abbrev pub invariant-push_each-made : goal.invariant-push_each-made
invariant-push_each-made l = front l.most l.rows.items ≡ front l.most (l.initial.rows.items ++ flat_map (passed l.later) (take l.place l.made))
