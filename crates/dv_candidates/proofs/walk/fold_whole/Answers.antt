use Rattle.std.proofs.Common.{◌∙◌, ap, sym, false, rules}
use Rattle.std.specs.List.{list_any}
use Rattle.std.proofs.lemmas.Bool.{or_left}
use Rattle.dv_candidates.specs.View.{seen}
use Rattle.dv_candidates.proofs.Folds.{Folded-call, any-one}
use Rattle.dv_candidates.proofs.walk.fold_whole.Goals as goal

pub returns-in-Some : goal.returns-in-Some
returns-in-Some g c =
    let x = seen c.in-Some.candidate in
    let sole = c.in-Some.ensures.sole in
    Folded-call c.f.result c.in-Some.candidate (search (rules, c.f.ensures)) (λ p h. record { passes = ap (list_any p) sole ∙ or_left (p x) false h }) (λ p h. any-one p x (sym (ap (list_any p) sole) ∙ h.passes))
