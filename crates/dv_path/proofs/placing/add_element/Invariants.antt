use Rattle.std.proofs.Common.{◌≡◌, ◌≤◌, ◌-◌, length, map}
use Rattle.dv_value.specs.View.{tree}
use Rattle.dv_path.specs.Placing.{with_element}
use Rattle.dv_path.proofs.placing.add_element.Given as goal

abbrev pub invariant-nulls : goal.invariant-nulls
invariant-nulls l = (length l.values.items ≤ l.place) × (with_element l.place (tree l.initial.value) (map tree l.values.items) ≡ with_element l.place (tree l.initial.value) (map tree l.initial.values.items)) × (l.value ≡ l.initial.value)

abbrev pub decreases-nulls : goal.decreases-nulls
decreases-nulls l = l.place - length l.values.items
