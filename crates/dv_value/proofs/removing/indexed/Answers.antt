use Rattle.dv_value.proofs.Removed.{HasEach-none, HasEach-next}
use Rattle.dv_value.proofs.removing.indexed.Goals as goal

pub loop-place-init : goal.loop-place-init
loop-place-init c = rw c.new-index.ensures HasEach-none

pub loop-place-preserved : goal.loop-place-preserved
loop-place-preserved c = rw c.in_ok-add.ensures.ok (HasEach-next c.args.names.now c.loop-place.place _ c.loop-place.index c.loop-place-test.true c.loop-place.invariant)
