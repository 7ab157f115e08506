use Rattle.std.proofs.Common.{◌≡◌, ◌∙◌, map, ap, take, take_all}
use Rattle.std.specs.List.{flat_map}
use Rattle.dv_candidates.specs.Candidates.{leaves, with_elements}
use Rattle.dv_candidates.specs.View.{seen}
use Rattle.dv_candidates.proofs.listed.leaves.Goals as goal

pub returns : goal.returns
unfolding leaves
returns c =
    let items = c.deref-candidate-items.result.now in
    let all : take c.loop-candidate.candidate-index items ≡ c.in_ok-found.found.items = take_all c.loop-candidate.candidate-index items c.loop-candidate-test.false ∙ c.deref-candidate-items.ensures.value in
    c.loop-candidate.invariant ∙ ap (λ l. flat_map with_elements (map seen l)) all ∙ ap (flat_map with_elements) c.in_ok-found.ensures
