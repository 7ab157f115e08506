use Rattle.std.proofs.lemmas.Result.{err_from_is_err_and}
use Rattle.dv_message.proofs.Brought.{one_read, one_fails}
use Rattle.dv_message.proofs.commands.read_alone.Goals as goal

pub returns-in_err-body : goal.returns-in_err-body
returns-in_err-body c =
    let p = err_from_is_err_and c.from_residual.result c.from_residual.ensures.1 in
    rw (p.1, p.2) (one_fails c.args.document.now c.in_err-body.field-0.0 c.in_err-body.ensures)

pub returns : goal.returns
returns c = rw c.new.ensures.items (one_read c.args.document.now c.in_ok-body.body c.in_ok-body.ensures)
