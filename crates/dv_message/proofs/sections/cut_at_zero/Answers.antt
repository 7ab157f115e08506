use Rattle.dv_message.proofs.sections.cut_at_zero.Goals as goal
use Rattle.dv_bson.specs.Inner.CutLaws.{cut_none, cut_some}

pub returns-in_err-end : goal.returns-in_err-end
returns-in_err-end c = rw c.from_residual.ensures (cut_none c.args.bytes.now c.in_err-end.ensures)

pub returns : goal.returns
returns c = cut_some c.args.bytes.now c.in_ok-end.end c.in_ok-end.ensures
