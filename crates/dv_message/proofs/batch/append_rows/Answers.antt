use Rattle.std.proofs.Common.{[], refl, sym, append-nil, arith}
use Rattle.std.proofs.lemmas.Result.{err_from_is_err_and}
use Rattle.dv_message.proofs.Batches.{grown, row_appended, rows_appended}
use Rattle.dv_message.proofs.batch.append_rows.Goals as goal

pub rows-init : goal.rows-init
rows-init c = record { left = refl; grew = ([], sym (append-nil _)) }

pub rows-preserved : goal.rows-preserved
rows-preserved c = record {
  left = row_appended c.args.rows.now c.rows.place c.rows.out.items _ c.rows.invariant.left c.index-rows-place.result _ (omega arith) c.index-rows-place.is c.in_ok-append_row.ensures.ok;
  grew = grown _ _ _ _ c.rows.invariant.grew.1 (_, c.in_ok-append_row.ensures.ok);
}

pub returns-clause-ok : goal.returns-clause-ok
returns-clause-ok c = rows_appended c.args.rows.now c.rows.place c.rows.out.items _ c.rows.invariant.left (omega arith)

pub returns-in_err-append_row-clause-err : goal.returns-in_err-append_row-clause-err
returns-in_err-append_row-clause-err c =
    let p = err_from_is_err_and c.from_residual.result c.from_residual.ensures.1 in
    rw p.1 (grown _ _ _ _ c.rows.invariant.grew.1 c.in_err-append_row.ensures.err)
