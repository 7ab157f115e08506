use Rattle.std.proofs.Common.{[], ◌∷◌, ◌∙◌, arith}
use Rattle.std.proofs.lemmas.Result.{err_from_is_err_and}
use Rattle.dv_message.specs.Inner.Batches.{rows_spelling}
use Rattle.dv_message.proofs.Batches.{array_closed, grown, grown_behind_two, longer}
use Rattle.dv_message.proofs.batch.append_array.Goals as goal

pub close-requires : goal.close-requires
close-requires c = omega (arith, c.len-start.ensures, c.in_ok-extend_from_slice.ensures.len, c.extend_from_slice.new.self.ok.0, c.append_rows.new.out.ok.0, longer c.extend_from_slice.new.self.items (rows_spelling 0 c.args.rows.now) c.append_rows.new.out.items c.in_ok-append_rows.ensures.ok)

pub returns-clause-ok : goal.returns-clause-ok
returns-clause-ok c =
    c.in_ok-close.ensures.ok
    ∙ array_closed c.args.rows.now _ _ _ c.len-start.result (c.len-start.ensures ∙ c.args.out.now.ok.0) c.in_ok-extend_from_slice.ensures.items c.in_ok-append_rows.ensures.ok

pub returns-in_err-append_rows-clause-err : goal.returns-in_err-append_rows-clause-err
returns-in_err-append_rows-clause-err c =
    let p = err_from_is_err_and c.from_residual-in_err-append_rows.result c.from_residual-in_err-append_rows.ensures.1 in
    rw p.1 (grown _ _ _ _ c.in_ok-extend_from_slice.ensures.items c.in_err-append_rows.ensures.err)

pub returns-in_err-close-clause-err : goal.returns-in_err-close-clause-err
returns-in_err-close-clause-err c =
    let p = err_from_is_err_and c.from_residual-in_err-close.result c.from_residual-in_err-close.ensures.1 in
    rw p.1 (grown_behind_two c.args.out.now.items (0 ∷ 0 ∷ 0 ∷ 0 ∷ []) (rows_spelling 0 c.args.rows.now) _ _ _ c.in_ok-extend_from_slice.ensures.items c.in_ok-append_rows.ensures.ok c.in_err-close.ensures.err)
