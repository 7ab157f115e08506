use Rattle.std.proofs.Common.{List, ◌++◌, ◌∷◌, [], ap, subst, sym, take, ◌∙◌}
use Rattle.std.proofs.lemmas.List.{take_more}
use Rattle.dv_pipe.specs.declared.stage.Stage.{Stage}
use Rattle.dv_views.specs.Inner.Operating.{AreFresh}
use Rattle.dv_views.proofs.Rolling.{fresh_more}
use Rattle.dv_views.proofs.stage_operator.operators_of.Goals as goal

pub stages-preserved : goal.stages-preserved
stages-preserved c =
    let so_far = take c.stages.stage-index c.args.stages.now in
    let more = take_more c.args.stages.now c.stages.stage-index c.stage-item.result c.stages-test.true ∙ ap (λ (s : Stage). so_far ++ s ∷ []) (sym c.stage-item.is) in
    subst (λ (ss : List Stage). AreFresh ss c.push.new.self.items) (sym more)
    (subst (AreFresh (so_far ++ c.stage-item.result ∷ [])) (sym c.in_ok-push.ensures.items) (fresh_more so_far c.stages.operators.items c.stage-item.result c.in_ok-operator.operator c.stages.invariant c.in_ok-operator.ensures))
