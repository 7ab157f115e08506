use Rattle.std.proofs.Common.{◌≡◌, Err, inr, rules}
use Rattle.dv_value.specs.View.{tree}
use Rattle.dv_row.specs.Inner.EachLaws.{gives-fault}
use Rattle.dv_pipe.proofs.Pipelines.{many-fault, many, few-fault, few-stages}
use Rattle.dv_pipe.proofs.pipeline.Pipeline.parse.Goals as goal

pub returns-in_err-each_stage : goal.returns-in_err-each_stage
returns-in_err-each_stage c =
    let e = c.in_err-each_stage.field-0.0 in
    let told : c.from_residual.result ≡ Err e = search (rules, c.from_residual.ensures) in
    gives-fault _ c.from_residual.result e _ _ told c.in_err-each_stage.ensures (many-fault tree c.args.list.now e)

pub returns-then-list-gt-MOST_STAGES : goal.returns-then-list-gt-MOST_STAGES
returns-then-list-gt-MOST_STAGES c = inr (many tree c.args.list.now c.in_ok-each_stage.field-0.items c.in_ok-each_stage.ensures c.if-list-gt-MOST_STAGES.true)

pub returns-in_err-stages : goal.returns-in_err-stages
returns-in_err-stages c =
    let e = c.in_err-stages.field-0.0 in
    let told : c.from_residual-in_err-stages.result ≡ Err e = search (rules, c.from_residual-in_err-stages.ensures) in
    gives-fault _ c.from_residual-in_err-stages.result e _ _ told c.in_err-stages.ensures (few-fault tree c.args.list.now c.if-list-gt-MOST_STAGES.false e)

pub returns : goal.returns
returns c = few-stages tree c.args.list.now c.if-list-gt-MOST_STAGES.false c.in_ok-stages.stages.items c.in_ok-stages.ensures
