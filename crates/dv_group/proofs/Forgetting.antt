-- Without positions the rows of groups are those of $group.
use Rattle.std.specs.Prelude.{◌≡◌, List, ◌∷◌, [], map, refl}
use Rattle.std.proofs.Common.{ap}
use Rattle.dv_order.specs.Order.{canon}
use Rattle.dv_order.specs.Key.{value}
use Rattle.dv_row.specs.Row.{Row}
use Rattle.dv_change.specs.declared.position.Part.TheVariants.{Up}
use Rattle.dv_change.specs.Changes.{Positioned, forget}
use Rattle.dv_gather.specs.Grouping.{Grouping, group_row, grouped, key_of_group, keyed}
use Rattle.dv_gather.specs.Groups.{groups_of}
use Rattle.dv_group.specs.Placed.{grouped_at}

rows-forget : (g : Grouping) (groups : List (List Row)) → forget (map (λ ds. (Up (value (canon (key_of_group g ds))) ∷ [], group_row g ds)) groups) ≡ map (group_row g) groups
rows-forget g [] = refl
rows-forget g (ds ∷ groups) = ap (λ rows. group_row g ds ∷ rows) (rows-forget g groups)

pub group-forgets : (g : Grouping) (rows : Positioned) → forget (grouped_at g rows) ≡ grouped g (forget rows)
unfolding grouped_at grouped
group-forgets g rows = rows-forget g (groups_of (map (keyed g) (forget rows)))
