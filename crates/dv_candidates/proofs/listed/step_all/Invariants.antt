use Rattle.std.proofs.Common.{◌≡◌, map, take}
use Rattle.std.specs.List.{flat_map}
use Rattle.dv_candidates.specs.Candidates.{step_from}
use Rattle.dv_candidates.specs.View.{seen}
use Rattle.dv_candidates.proofs.listed.step_all.Given as goal

abbrev pub invariant-loop-candidate : goal.invariant-loop-candidate
invariant-loop-candidate l = map seen l.next.items ≡ flat_map (step_from l.component) (map seen (take l.candidate-index l.found))
