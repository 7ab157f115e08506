-- Values that a sum counts.
use Rattle.std.specs.Prelude.{Bool, ◌==◌}
use Rattle.dv_value.specs.Tree.{Tree}
use Rattle.dv_order.specs.Order.{class}

-- whether a value is in the class of numbers
abbrev pub is_number : Tree → Bool
is_number v = class v == 3
