use Rattle.dv_candidates.proofs.Asked.{stopped-where}
use Rattle.std.proofs.Common.{◌∙◌, rules}
use Rattle.dv_candidates.specs.Candidates.{whole}
use Rattle.dv_candidates.proofs.any.any_whole.Goals as goal

pub returns : goal.returns
returns g c test answers =
    c.is_err.ensures.value ∙ stopped-where _ test (λ t x u h. search (rules, h.1, h, answers.at)) (λ t x e h. search (rules, h.1, h, answers.at)) (whole c.args.document.now c.args.path.now) _ c.fold_ways-stopped.result c.fold_ways-stopped.ensures
