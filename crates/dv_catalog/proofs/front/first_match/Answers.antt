use Rattle.std.proofs.Common.{◌∙◌, ◌∷◌, ap}
use Rattle.dv_catalog.proofs.Fronts.{match_first}
use Rattle.dv_catalog.proofs.front.first_match.Goals as goal

pub returns-in-Some-Match-default : goal.returns-in-Some-Match-default
returns-in-Some-Match-default c source lists rows =
    let here = c.in-Some-Match-default in
    match_first c.args.stages.now here.later.now source lists rows here.filter (here.ensures.cases.0 ∙ ap (λ s. s ∷ here.later.now) here.field-0-0-is)
