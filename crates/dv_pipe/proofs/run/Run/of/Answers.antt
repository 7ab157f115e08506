use Rattle.std.proofs.Common.{◌∙◌, ap, sym, arith}
use Rattle.std.specs.List.{flat_map}
use Rattle.dv_pipe.specs.Inner.Parts.{passed, rows_of_part}
use Rattle.dv_pipe.specs.Sources.{lists_of}
use Rattle.dv_pipe.specs.Stages.{through}
use Rattle.dv_pipe.proofs.Steps.{through-none, step_more}
use Rattle.dv_pipe.proofs.run.Run.of.Goals as goal

pub stages-init : goal.stages-init
stages-init c =
    let source = c.args.source.now in
    let lists = lists_of c.args.sources.now in
    (λ rows. ap (through c.args.stages.now source lists) (ap (λ ss. flat_map (passed ss) rows) c.new-steps.ensures.items ∙ through-none rows), omega arith)

pub stages-preserved : goal.stages-preserved
stages-preserved c =
    let source = c.args.source.now in
    let lists = lists_of c.args.sources.now in
    let later = c.in-Some.later.now in (
      step_more source lists c.args.stages.now c.stages.stages.now later c.in-Some.stage.now c.stages.steps.items c.in-Some.ensures.cases.0 c.stages.invariant.0 c.in-Step.step c.push.new.self.items c.in_ok-push-in-Step.ensures.items
          (λ rows. ap (λ p. through later source lists (rows_of_part p rows)) (sym c.in-Step.is) ∙ c.in_ok-step.ensures rows),
      omega (arith, c.in-Some.ensures.cases.1, c.stages.invariant.1),
    )
