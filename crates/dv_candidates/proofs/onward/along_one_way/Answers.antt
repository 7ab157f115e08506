use Rattle.std.proofs.Common.{arith}
use Rattle.dv_candidates.proofs.Stands.{StandsFor-more}
use Rattle.dv_candidates.proofs.onward.along_one_way.Goals as goal

pub way-init : goal.way-init
way-init c = record {
  stand = record { within = c.requires; reaches = λ p h. h; reached = λ p h. h };
  weight = omega arith;
}

pub way-preserved : goal.way-preserved
way-preserved c = record {
  stand = StandsFor-more c.way.invariant.stand c.in-Some.ensures.stand;
  weight = omega (arith, c.way.invariant.weight, c.in-Some.ensures.weight);
}
