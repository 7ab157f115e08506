-- The parts that are borrowed from a position.
use Rattle.std.specs.Prelude.{[], ◌∷◌}
use Rattle.dv_order.specs.LentKeys.{lent_key}
use Rattle.dv_change.specs.declared.position.Part.TheVariants.{Up}
use Rattle.dv_change.specs.declared.lent.Parts.{Parts}
use Rattle.dv_change.specs.declared.lent.Parts.TheVariants.{One, Two, Listed}
use Rattle.dv_change.specs.declared.lent.Lent.{Lent}
use Rattle.dv_change.specs.declared.lent.Lent.TheVariants.{Alone, Together}
use Rattle.dv_change.specs.Positions.{PosTree}

abbrev pub parts_lent : Parts → PosTree
parts_lent (One parts) = parts
parts_lent (Two parts) = parts
parts_lent (Listed parts) = parts.now

abbrev pub lent_parts : Lent → PosTree
lent_parts (Alone key) = Up (lent_key key) ∷ []
lent_parts (Together parts) = parts_lent parts
