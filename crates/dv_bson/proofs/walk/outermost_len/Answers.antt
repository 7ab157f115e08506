use Rattle.std.proofs.Common.{refl}
use Rattle.std.proofs.lemmas.Result.{err_from_is_err_and}
use Rattle.dv_bson.proofs.Outermost.{fails_frame, fails_inside, gives_document}
use Rattle.dv_bson.proofs.walk.outermost_len.Goals as goal

pub returns-in_err-frame : goal.returns-in_err-frame
returns-in_err-frame c =
    let p = err_from_is_err_and c.from_residual.result c.from_residual.ensures.1 in
    rw (p.1, p.2) (fails_frame _ c.args.bytes.now c.in_err-frame.ensures.frame)

pub returns-in_err-walk_document : goal.returns-in_err-walk_document
returns-in_err-walk_document c =
    let p = err_from_is_err_and c.from_residual-in_err-walk_document.result c.from_residual-in_err-walk_document.ensures.1 in
    rw (p.1, p.2) (fails_inside _ c.args.bytes.now _ c.in_ok-frame.ensures.frame c.in_err-walk_document.ensures)

pub returns : goal.returns
returns c =
    let inside = c.in_ok-walk_document.ensures in
    ((inside.0, c.in_ok-frame.len), gives_document c.args.bytes.now _ inside.0 c.in_ok-frame.ensures.frame inside.1, refl)
