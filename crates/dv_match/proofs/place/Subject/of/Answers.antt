use Rattle.std.proofs.Common.{◌∙◌, ap, sym, append-nil}
use Rattle.std.specs.List.{flat_map}
use Rattle.dv_candidates.specs.Candidates.{leaves, with_elements}
use Rattle.dv_candidates.specs.View.{seen}
use Rattle.dv_match.proofs.place.Subject.of.Goals as goal

pub returns-in-Some-clause-parts : goal.returns-in-Some-clause-parts
unfolding leaves
returns-in-Some-clause-parts c = sym (ap (flat_map with_elements) c.in-Some.ensures.sole ∙ append-nil (with_elements (seen c.in-Some.candidate)))
