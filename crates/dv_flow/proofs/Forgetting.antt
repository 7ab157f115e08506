-- Without positions the stages are those of a pipeline.
use Rattle.std.specs.Prelude.{◌≡◌, Bool, true, false, cond, ◌∷◌, [], filter, map, refl}
use Rattle.std.proofs.Common.{ap}
use Rattle.dv_match.specs.Filter.{Members}
use Rattle.dv_match.specs.Match.{matches}
use Rattle.dv_row.specs.declared.project.Project.{Project}
use Rattle.dv_row.specs.Projecting.{projected}
use Rattle.dv_change.specs.Changes.{Positioned, forget}
use Rattle.dv_flow.specs.Placed.{matched_at, shown_at}

pub match_forgets : (form : Members) (rows : Positioned) → forget (matched_at form rows) ≡ filter (matches form) (forget rows)
match_forgets form [] = refl
match_forgets form (e ∷ rows) = by (matches form e.1) (match_forgets form rows)
  where
    by : (b : Bool) → forget (matched_at form rows) ≡ filter (matches form) (forget rows) → forget (cond b (e ∷ matched_at form rows) (matched_at form rows)) ≡ cond b (e.1 ∷ filter (matches form) (forget rows)) (filter (matches form) (forget rows))
    by true rest = ap (λ ds. e.1 ∷ ds) rest
    by false rest = rest

pub project_forgets : (p : Project) (rows : Positioned) → forget (shown_at p rows) ≡ map (projected p) (forget rows)
project_forgets p [] = refl
project_forgets p (e ∷ rows) = ap (λ ds. projected p e.1 ∷ ds) (project_forgets p rows)
