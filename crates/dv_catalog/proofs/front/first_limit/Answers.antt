use Rattle.std.proofs.Common.{◌∙◌, ◌∷◌, ap}
use Rattle.dv_pipe.specs.Stages.{through}
use Rattle.dv_sort.specs.Sorting.{front}
use Rattle.dv_catalog.proofs.Fronts.{limit_first, wanted_enough}
use Rattle.dv_catalog.proofs.front.first_limit.Goals as goal

pub returns-in-Some-Limit-default : goal.returns-in-Some-Limit-default
returns-in-Some-Limit-default c source lists rows =
    let here = c.in-Some-Limit-default in
    limit_first c.args.stages.now here.later.now source lists rows here.count (here.ensures.cases.0 ∙ ap (λ s. s ∷ here.later.now) here.field-0-0-is)

pub returns : goal.returns
returns c source lists rows = ap (λ most. through c.args.stages.now source lists (front most rows)) c.wanted.ensures ∙ wanted_enough c.args.stages.now source lists rows
