use Rattle.std.proofs.Common.{◌-◌, length, take, drop, arith}
use Rattle.std.proofs.lemmas.List.{length-drop, take_all}
use Rattle.std.proofs.lemmas.Result.{err_from_is_err_and}
use Rattle.dv_message.specs.Message.{split}
use Rattle.dv_wire.proofs.Straight.{shut_behind}
use Rattle.dv_wire.proofs.session.take_straight.Goals as goal

pub returns-in_err-taken : goal.returns-in_err-taken
returns-in_err-taken c =
    let p = err_from_is_err_and c.from_residual.result c.from_residual.ensures.1 in
    rw (p.1, p.2) c.in_err-taken.ensures.carried

pub returns-in_err-keep : goal.returns-in_err-keep
returns-in_err-keep c =
    let p = err_from_is_err_and c.from_residual-in_err-keep.result c.from_residual-in_err-keep.ensures.1 in
    let carried = c.in_ok-taken.ensures.carried in
    rw (p.1, p.2, c.in_err-keep.ensures.store)
    (carried.0, carried.1, carried.2, shut_behind c.args.session c.args.store.now (split c.args.piece.now) carried.0 _ _ carried.3)

pub returns : goal.returns
returns c =
    let taken = c.in_ok-taken.taken in
    let left = drop taken c.args.piece.now in
    let all = take_all (length c.args.piece.now - taken) left (omega (arith, length-drop taken c.args.piece.now)) in
    rw (c.in_ok-keep.ensures.kept, c.requires, all, c.in_ok-keep.ensures.store) c.in_ok-taken.ensures.carried
