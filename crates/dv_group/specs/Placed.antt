-- What `$group` returns for rows at positions.
use Rattle.std.specs.Prelude.{[], ◌∷◌, map}
use Rattle.dv_order.specs.Order.{canon}
use Rattle.dv_order.specs.Key.{value}
use Rattle.dv_change.specs.declared.position.Part.TheVariants.{Up}
use Rattle.dv_change.specs.Changes.{Positioned, forget}
use Rattle.dv_gather.specs.Grouping.{Grouping, group_row, key_of_group, keyed}
use Rattle.dv_gather.specs.Groups.{groups_of}

-- the row of each group, at the position of its key
unfoldable pub grouped_at : Grouping → Positioned → Positioned
grouped_at g rows = map (λ ds. (Up (value (canon (key_of_group g ds))) ∷ [], group_row g ds)) (groups_of (map (keyed g) (forget rows)))
