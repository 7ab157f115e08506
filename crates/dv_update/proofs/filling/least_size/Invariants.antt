-- What is counted and what is left to count are together no more than all.
use Rattle.std.proofs.Common.{◌+◌, ◌≤◌, drop, map}
use Rattle.dv_update.specs.Inner.Filling.{least_size}
use Rattle.dv_update.specs.Inner.FillView.{fill}
use Rattle.dv_update.proofs.filling.least_size.Given as goal

abbrev pub invariant-fills : goal.invariant-fills
invariant-fills l = l.size + least_size (map fill (drop l.place l.fills)) ≤ least_size (map fill l.fills)
