-- What a place in memory represents.
use Rattle.dv_value.specs.View.{tree}
use Rattle.dv_path.specs.declared.slot.Slot.{Slot}
use Rattle.dv_path.specs.declared.slot.Slot.TheVariants.{Taken, Free, Blocked}
use Rattle.dv_path.specs.Slots as slots
use Rattle.dv_path.specs.Slots.{taken, free, blocked}

-- the place that a `Slot` in memory represents
abbrev pub slot_seen : Slot → slots.Slot
slot_seen (Taken value) = taken (tree value.now)
slot_seen Free = free
slot_seen Blocked = blocked
