use Rattle.std.proofs.Common.{◌≡◌, map, drop}
use Rattle.std.specs.List.{flat_map}
use Rattle.dv_candidates.specs.Candidates.{whole, candidates}
use Rattle.dv_candidates.specs.View.{seen}
use Rattle.dv_candidates.proofs.listed.whole.Given as goal

abbrev pub invariant-loop-component : goal.invariant-loop-component
invariant-loop-component l = flat_map (candidates (drop l.component-index l.component-items)) (map seen l.found.items) ≡ whole l.document l.path
