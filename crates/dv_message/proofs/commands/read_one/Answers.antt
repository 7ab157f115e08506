use Rattle.std.proofs.lemmas.Result.{err_from_is_err_and}
use Rattle.dv_message.proofs.Reading.{refused_as}
use Rattle.dv_message.proofs.commands.read_one.Goals as goal

pub returns-in_err-read : goal.returns-in_err-read
returns-in_err-read c =
    let p = err_from_is_err_and c.from_residual.result c.from_residual.ensures.1 in
    rw (p.1, p.2) (refused_as c.args.document.now c.in_err-read.field-0.0 c.in_err-read.ensures.refused)
