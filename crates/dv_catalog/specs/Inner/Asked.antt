-- The keys that a filter allows for `_id`s, as they are in memory.
use Rattle.std.specs.Prelude.{Bool}
use Rattle.dv_order.specs.Key.{KeyTree}
use Rattle.dv_keyed.specs.Inner.Interval.{is_between}
use Rattle.dv_keyed.specs.Inner.Keys.{has_key}
use Rattle.dv_catalog.specs.declared.asked.WantedIds.{WantedIds}
use Rattle.dv_catalog.specs.declared.asked.WantedIds.TheVariants.{Between, Among}

-- whether a key is among them
abbrev pub is_asked : WantedIds → KeyTree → Bool
is_asked (Between ends) k = is_between ends k
is_asked (Among keys) k = has_key k keys.items
