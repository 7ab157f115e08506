-- The state of a walk that has to reach what is wanted.
use Rattle.std.specs.Prelude.{Bool, Some}
use Rattle.dv_value.specs.View.{tree}
use Rattle.dv_candidates.specs.declared.onward.Stand.{Stand}
use Rattle.dv_candidates.specs.Candidates.{Candidate}
use Rattle.dv_candidates.specs.Inner.Places.{IsWithin, Reaches}

-- from a stand on, what is wanted is reached, and nothing else
pub record StandsFor (Wanted : (Candidate → Bool) → Type 0) (stand : Stand) : Type 0 where
  pub within : IsWithin stand.components.now stand.places
  pub reaches : (p : Candidate → Bool) → Reaches stand.components.now stand.places (Some (tree stand.value.now)) p → Wanted p
  pub reached : (p : Candidate → Bool) → Wanted p → Reaches stand.components.now stand.places (Some (tree stand.value.now)) p
