use Rattle.dv_value.specs.View.{tree}
use Rattle.dv_pipe.specs.StageParsing.{stage_of}
use Rattle.dv_row.specs.Inner.EachLaws.{IsParsedTo}
use Rattle.dv_pipe.proofs.pipeline.each_stage.Given as goal

abbrev pub invariant-stages : goal.invariant-stages
invariant-stages l = IsParsedTo (λ v. stage_of (tree v)) l.list l.value-index l.stages.items
