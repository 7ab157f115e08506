use Rattle.std.proofs.Common.{◌≡◌, ◌≤◌, ◌-◌, length, take, true}
use Rattle.std.specs.List.{list_all}
use Rattle.dv_catalog.specs.Inner.Behind.{looks_nowhere}
use Rattle.dv_catalog.proofs.behind.first_lookup.Given as goal

-- the stages so far look up nothing
abbrev pub invariant-stages : goal.invariant-stages
invariant-stages l = record {
  within : l.place ≤ length l.stages;
  nowhere : list_all looks_nowhere (take l.place l.stages) ≡ true;
}

abbrev pub decreases-stages : goal.decreases-stages
decreases-stages l = length l.stages - l.place
