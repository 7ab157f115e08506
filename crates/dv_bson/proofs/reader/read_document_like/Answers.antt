use Rattle.std.proofs.Common.{arith}
use Rattle.std.proofs.lemmas.Result.{err_from_is_err_and}
use Rattle.dv_bson.proofs.Both.{document_takes}
use Rattle.dv_bson.proofs.Outermost.{is_read, same_read, only_memory, told}
use Rattle.dv_bson.proofs.reader.read_document_like.Goals as goal

pub returns-clause-found : goal.returns-clause-found
returns-clause-found c = document_takes _ _ _ (λ i. omega (arith, c.type_inv.bytes i)) c.in_ok-outermost_of.ensures

pub returns-clause-only : goal.returns-clause-only
returns-clause-only c = λ d spelled rest valid fits e. same_read _ _ _ c.in_ok-outermost_of.ensures (is_read c.args.bytes.now d spelled rest valid fits e)

pub returns-in_err-outermost_of-clause-only : goal.returns-in_err-outermost_of-clause-only
returns-in_err-outermost_of-clause-only c = λ d spelled rest valid fits e.
    let p = err_from_is_err_and c.from_residual.result c.from_residual.ensures.1 in
    rw (p.1, p.2) (only_memory _ c.args.bytes.now _ c.in_err-outermost_of.ensures (is_read c.args.bytes.now d spelled rest valid fits e))

pub returns-in_err-outermost_of-clause-refused : goal.returns-in_err-outermost_of-clause-refused
returns-in_err-outermost_of-clause-refused c =
    let p = err_from_is_err_and c.from_residual.result c.from_residual.ensures.1 in
    rw (p.1, p.2) (told _ c.args.bytes.now c.in_err-outermost_of.ensures)
