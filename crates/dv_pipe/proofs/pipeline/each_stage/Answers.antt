use Rattle.std.proofs.Common.{◌≡◌, ◌∙◌, Err, rules}
use Rattle.dv_value.specs.View.{tree}
use Rattle.dv_pipe.specs.StageParsing.{stage_of}
use Rattle.dv_row.specs.Inner.EachLaws.{parsed-fault, parsed-all, each-map, gives-fault}
use Rattle.dv_pipe.proofs.pipeline.each_stage.Goals as goal

pub returns-in_err-parse : goal.returns-in_err-parse
returns-in_err-parse c =
    let e = c.in_err-parse.field-0.0 in
    let v = c.value-item.result in
    let told : c.from_residual.result ≡ Err e = search (rules, c.from_residual.ensures) in
    gives-fault _ c.from_residual.result e (stage_of (tree v)) _ told c.in_err-parse.ensures
    (λ refused. each-map stage_of tree c.args.list.now ∙ parsed-fault _ c.args.list.now c.stages.value-index c.stages.stages.items c.stages.invariant v e c.stages-test.true c.value-item.is refused)

pub returns : goal.returns
returns c = each-map stage_of tree c.args.list.now ∙ parsed-all _ c.args.list.now c.stages.value-index c.stages.stages.items c.stages.invariant c.stages-test.false
