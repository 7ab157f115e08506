use Rattle.std.proofs.Common.{◌≡◌, drop, map}
use Rattle.std.specs.List.{position_from}
use Rattle.std.specs.Str.{bytes_eq}
use Rattle.dv_value.specs.Names.{bare, place_under}
use Rattle.dv_value.proofs.name_list.place_among.Given as goal

-- no field so far has the name
abbrev pub invariant-loop-place : goal.invariant-loop-place
invariant-loop-place l =
    place_under l.name (map bare l.names)
    ≡ position_from (λ f. bytes_eq l.name f.0) l.place (map bare (drop l.place l.names))
