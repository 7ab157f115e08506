use Rattle.std.proofs.Common.{◌≡◌, Bool, false, Some, map, take}
use Rattle.std.specs.List.{list_any}
use Rattle.dv_value.specs.View.{tree}
use Rattle.dv_candidates.specs.Candidates as candidates
use Rattle.dv_candidates.specs.Answering.{Answers}
use Rattle.dv_candidates.specs.View.{seen}
use Rattle.dv_candidates.proofs.any.any_element.Given as goal

abbrev pub invariant-loop-element : goal.invariant-loop-element
invariant-loop-element g l =
    (test : candidates.Candidate → Bool) → Answers seen (λ x b. goal.F-post g l.passes x b) test → list_any test (map Some (map tree (take l.element-index l.element-items))) ≡ false
