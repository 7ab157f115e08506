-- Values at which the values of a class begin or end, as the bounds of ranges.
use Rattle.std.specs.Prelude.{◌≡◌, ◌<◌, true, ⊤}
use Rattle.std.specs.declared.ops.Bound.{Bound}
use Rattle.std.specs.declared.ops.Bound.TheVariants.{Included, Excluded, Unbounded}
use Rattle.std.specs.Ordering.{is_le}
use Rattle.dv_value.specs.Tree.{Tree}
use Rattle.dv_order.specs.Order.{canon, class, order}

-- the bound is before each value of v's class: the least of them, included; or a value of a lower class, excluded; or none
abbrev pub StartsClass : Tree → Bound Tree → Type 0
StartsClass v (Included a) = (class a ≡ class v) × ((w : Tree) → class w ≡ class v → is_le (order (canon a) w) ≡ true)
StartsClass v (Excluded a) = class a < class v
StartsClass v Unbounded = ⊤

-- the bound is after each value of v's class: a value of a higher class, excluded; or none
abbrev pub EndsClass : Tree → Bound Tree → Type 0
EndsClass v (Included b) = ⊥
EndsClass v (Excluded b) = class v < class b
EndsClass v Unbounded = ⊤
