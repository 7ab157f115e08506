-- What `$lookup` returns for rows at positions.
use Rattle.std.specs.Prelude.{map}
use Rattle.dv_gather.specs.declared.lookup.Lookup.{Lookup}
use Rattle.dv_gather.specs.Lookups.{joined_row}
use Rattle.dv_change.specs.Changes.{Positioned, forget}

-- each row with the array of its matches in the other list, at its position
abbrev pub looked_up_at : Lookup → Positioned → Positioned → Positioned
looked_up_at l rows foreign = map (λ e. (e.0, joined_row l (forget foreign) e.1)) rows
