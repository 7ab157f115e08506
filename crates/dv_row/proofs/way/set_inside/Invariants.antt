-- The value for the documents that are left replaces the last one that was set.
use Rattle.std.proofs.Common.{◌≡◌, take}
use Rattle.std.specs.Option.{option_map}
use Rattle.dv_value.specs.View.{tree}
use Rattle.dv_row.specs.Inner.Crossings.{set_inward}
use Rattle.dv_row.proofs.way.set_inside.Given as goal

abbrev pub invariant-outward : goal.invariant-outward
invariant-outward l = set_inward l.inner (option_map tree l.fn.value) ≡ set_inward (take l.place l.inner) (option_map tree l.value)
