use Rattle.std.proofs.Common.{sym}
use Rattle.dv_message.proofs.Walked.{frames_first, frames_none}
use Rattle.dv_message.proofs.framed.Framed.split_first.Goals as goal

pub returns-in_err-document : goal.returns-in_err-document
returns-in_err-document c = rw c.from_residual.ensures (frames_none c.args.self.bytes.now (sym c.in_err-document.ensures))

pub returns : goal.returns
returns c = frames_first c.args.self.bytes.now _ _ (sym c.in_ok-document.ensures)
