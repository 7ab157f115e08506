use Rattle.std.proofs.Common.{◌∙◌, sym, length, eqb-true}
use Rattle.dv_pipe.specs.Sources.{lists_of}
use Rattle.dv_pipe.proofs.Through.{through_none}
use Rattle.dv_pipe.proofs.evaluation.rows_through.Goals as goal

pub returns : goal.returns
returns c =
    let later = c.runs.run.later.now in
    sym (through_none later c.args.source.now (lists_of c.args.sources.now) c.runs.left.items (eqb-true (length later) 0 (sym c.is_empty.ensures ∙ c.runs-test.false))) ∙ c.runs.invariant
