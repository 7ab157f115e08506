use Rattle.std.proofs.Common.{◌≡◌, ◌∷◌, [], Some, drop}
use Rattle.std.specs.List.{flat_map}
use Rattle.dv_value.specs.Tree.{document, fields_of}
use Rattle.dv_candidates.specs.Candidates.{candidates, whole}
use Rattle.dv_candidates.specs.View.{seen}
use Rattle.dv_candidates.specs.Ways.{HasNoArray}
use Rattle.dv_candidates.proofs.sole.sole_candidate.Given as goal

abbrev pub invariant-loop-component : goal.invariant-loop-component
invariant-loop-component l = record {
  so-far : flat_map (candidates (drop l.component-index l.component-items)) (seen l.candidate ∷ []) ≡ whole l.document l.path;
  clear : HasNoArray l.path (Some (document (fields_of l.document))) → HasNoArray (drop l.component-index l.component-items) (seen l.candidate);
}
