use Rattle.std.proofs.Common.{◌∙◌, ◌++◌, ◌∷◌, [], ◌<◌, ◌≤◌, length, ap, arith}
use Rattle.dv_path.proofs.Vectors.{null-pushed, element-pushed}
use Rattle.dv_path.proofs.placing.add_element.Goals as goal

pub nulls-preserved : goal.nulls-preserved
nulls-preserved c =
    let before : length c.nulls.values.items < c.args.place = omega arith in
    let pushed = null-pushed _ _ c.nulls.values.items c.push.new.self.items _ before c.in_ok-push.ensures.items c.nulls.invariant.1 in
    (pushed.0, pushed.1, c.nulls.invariant.2)

pub returns : goal.returns
returns c =
    let at : c.args.place ≤ length c.nulls.values.items = omega arith in
    element-pushed c.args.place c.args.value c.nulls.values.items c.push-2.new.self.items _ c.nulls.invariant.0 at (c.in_ok-push-2.ensures.items ∙ ap (λ v. c.nulls.values.items ++ v ∷ []) c.nulls.invariant.2) c.nulls.invariant.1
