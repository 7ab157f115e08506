use Rattle.std.proofs.Common.{◌∙◌, ap, sym, inr}
use Rattle.dv_value.specs.View.{tree}
use Rattle.dv_value.specs.Inner.ListLaws.{none-of}
use Rattle.dv_pipe.specs.StageParsing.{stage_of}
use Rattle.dv_pipe.proofs.Single.{stage-of_others, stage-of_none, stage-of_one}
use Rattle.dv_pipe.proofs.stage.Stage.parse.Goals as goal

pub returns-then-len-ne1 : goal.returns-then-len-ne1
returns-then-len-ne1 c =
    inr (ap (λ v. stage_of (tree v)) c.in-Doc.is ∙ stage-of_others c.in-Doc.document (λ one. c.if-len-ne1.true (c.len.ensures.len ∙ one)))

pub returns-in_default-entry : goal.returns-in_default-entry
returns-in_default-entry c =
    inr (ap (λ v. stage_of (tree v)) c.in-Doc.is ∙ stage-of_none c.in-Doc.document (none-of _ c.entry.result _ c.entry.ensures c.in_default-entry.not-Some))

pub returns : goal.returns
returns c =
    let one = stage-of_one c.in-Doc.document c.in-Some.name.now (tree c.in-Some.operand.now) (sym c.len.ensures.len ∙ c.if-len-ne1.false) c.in-Some.ensures in
    rw (ap (λ v. stage_of (tree v)) c.in-Doc.is ∙ one) c.stage_named.ensures
