use Rattle.std.proofs.Common.{List, ℕ, ◌++◌, ap, ◌∙◌}
use Rattle.std.proofs.lemmas.Result.{err_from_is_err_and}
use Rattle.dv_message.specs.Inner.Batches.{batch_spelling}
use Rattle.dv_message.proofs.Batches.{grown}
use Rattle.dv_message.proofs.Measured.{behind_header}
use Rattle.dv_message.proofs.batch.append_unmeasured.Goals as goal

pub returns-clause-ok : goal.returns-clause-ok
returns-clause-ok c =
    let body = batch_spelling c.args.name.now c.args.namespace.now c.args.id c.args.rows.now in
    c.in_ok-append_reply_with.ensures.ok ∙ ap (λ (x : List ℕ). x ++ body) c.in_ok-extend_from_slice.ensures.items
    ∙ behind_header c.args.out.now.items c.header.result body c.args.request_id c.header.ensures

pub returns-in_err-append_reply_with-clause-err : goal.returns-in_err-append_reply_with-clause-err
returns-in_err-append_reply_with-clause-err c =
    let p = err_from_is_err_and c.from_residual-in_err-append_reply_with.result c.from_residual-in_err-append_reply_with.ensures.1 in
    rw p.1 (grown _ _ _ _ c.in_ok-extend_from_slice.ensures.items c.in_err-append_reply_with.ensures.err)
