use Rattle.std.proofs.Common.{◌≡◌, drop}
use Rattle.dv_path.specs.Slots.{slot, slot_behind}
use Rattle.dv_path.specs.SlotView.{slot_seen}
use Rattle.dv_path.proofs.slot.slot_at.Given as goal

abbrev pub invariant-loop-component : goal.invariant-loop-component
invariant-loop-component l = slot_behind (drop l.component-index l.component-items) (slot_seen l.slot) ≡ slot l.document l.path
