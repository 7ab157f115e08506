use Rattle.std.proofs.Common.{arith}
use Rattle.std.proofs.lemmas.Result.{err_from_is_err_and}
use Rattle.dv_bson.proofs.Both.{document_takes}
use Rattle.dv_bson.proofs.Outermost.{is_read, same_read, only_memory, told, with_length}
use Rattle.dv_bson.proofs.walk.check_document.Goals as goal

pub returns-clause-found : goal.returns-clause-found
returns-clause-found c =
    let read = with_length c.args.bytes.now _ c.in_ok-outermost_len.ensures in
    let taken = document_takes c.args.bytes.now read.0 c.in_ok-outermost_len.field-0 (λ i. omega (arith, c.type_inv.bytes i)) read.1 in
    (read.0, taken.0, taken.1, taken.2)

pub returns-clause-only : goal.returns-clause-only
returns-clause-only c = λ d spelled rest valid fits e.
    let read = with_length c.args.bytes.now _ c.in_ok-outermost_len.ensures in
    (same_read c.args.bytes.now _ _ read.1 (is_read c.args.bytes.now d spelled rest valid fits e)).1

pub returns-clause-exact : goal.returns-clause-exact
returns-clause-exact c = with_length c.args.bytes.now _ c.in_ok-outermost_len.ensures

pub returns-in_err-outermost_len-clause-only : goal.returns-in_err-outermost_len-clause-only
returns-in_err-outermost_len-clause-only c = λ d spelled rest valid fits e.
    let p = err_from_is_err_and c.from_residual.result c.from_residual.ensures.1 in
    rw (p.1, p.2) (only_memory _ c.args.bytes.now _ c.in_err-outermost_len.ensures (is_read c.args.bytes.now d spelled rest valid fits e))

pub returns-in_err-outermost_len-clause-refused : goal.returns-in_err-outermost_len-clause-refused
returns-in_err-outermost_len-clause-refused c =
    let p = err_from_is_err_and c.from_residual.result c.from_residual.ensures.1 in
    rw (p.1, p.2) (told _ c.args.bytes.now c.in_err-outermost_len.ensures)
