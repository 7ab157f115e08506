use Rattle.std.proofs.Common.{◌≡◌, ℕ, ◌&&◌, Bool, List, take}
use Rattle.dv_candidates.specs.Answering.{Answers}
use Rattle.dv_candidates.specs.Inner.Places.{has, passes_at}
use Rattle.dv_candidates.proofs.places.Places.those.Given as goal

abbrev pub invariant-loop-place : goal.invariant-loop-place
invariant-loop-place g l =
    (passes : List ℕ → Bool) → Answers (λ x. x.now) (λ x b. goal.F-post g l.test x b) passes → (place : ℕ) → has (record { mask = l.mask }) place ≡ (has l.self place && passes_at passes (take l.place l.components) place)
