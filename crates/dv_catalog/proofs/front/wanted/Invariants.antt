use Rattle.std.proofs.Common.{◌≡◌, drop}
use Rattle.dv_catalog.specs.Inner.Fronts.{wanted}
use Rattle.dv_catalog.proofs.front.wanted.Given as goal

-- the stages that are left need as many rows as all stages
abbrev pub invariant-stages : goal.invariant-stages
invariant-stages l = wanted (drop l.stage-index l.stages) ≡ wanted l.stages
