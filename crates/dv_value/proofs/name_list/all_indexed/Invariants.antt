use Rattle.std.proofs.Common.{map, take}
use Rattle.dv_value.specs.Inner.Places.{IsNameIndexOf}
use Rattle.dv_value.specs.Names.{bare}
use Rattle.dv_value.proofs.name_list.all_indexed.Given as goal

abbrev pub invariant-loop-place : goal.invariant-loop-place
invariant-loop-place l = IsNameIndexOf (map bare (take l.place l.names)) l.index
