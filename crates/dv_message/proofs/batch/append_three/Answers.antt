use Rattle.std.proofs.lemmas.Result.{err_from_is_err_and}
use Rattle.dv_message.proofs.Batches.{grown_behind_two, three_appended}
use Rattle.dv_message.proofs.batch.append_three.Goals as goal

pub returns-clause-ok : goal.returns-clause-ok
returns-clause-ok c = three_appended _ _ _ _ _ _ _ c.in_ok-extend_from_slice.ensures.items c.in_ok-extend_from_slice-2.ensures.items c.in_ok-extend_from_slice-3.ensures.items

pub returns-in_err-extend_from_slice-3-clause-err : goal.returns-in_err-extend_from_slice-3-clause-err
returns-in_err-extend_from_slice-3-clause-err c =
    let p = err_from_is_err_and c.from_residual-in_err-extend_from_slice-3.result c.from_residual-in_err-extend_from_slice-3.ensures.1 in
    rw p.1 (grown_behind_two c.args.out.now.items c.args.first.now c.args.second.now _ _ _ c.in_ok-extend_from_slice.ensures.items c.in_ok-extend_from_slice-2.ensures.items c.in_err-extend_from_slice-3.ensures.items)
