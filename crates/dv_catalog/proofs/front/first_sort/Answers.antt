use Rattle.std.proofs.Common.{◌∙◌, ◌∷◌, ap}
use Rattle.dv_catalog.proofs.Fronts.{sort_first}
use Rattle.dv_catalog.proofs.front.first_sort.Goals as goal

pub returns-in-Some-Sort-default : goal.returns-in-Some-Sort-default
returns-in-Some-Sort-default c source lists rows =
    let here = c.in-Some-Sort-default in
    sort_first c.args.stages.now here.later.now source lists rows here.spec (here.ensures.cases.0 ∙ ap (λ s. s ∷ here.later.now) here.field-0-0-is)
