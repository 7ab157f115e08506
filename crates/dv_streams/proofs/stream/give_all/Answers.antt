use Rattle.std.proofs.Common.{ap, ◌∙◌, arith}
use Rattle.std.proofs.lemmas.Result.{err_from_is_err_and}
use Rattle.dv_streams.specs.Stream.{once_more}
use Rattle.dv_streams.proofs.Written.{more_given}
use Rattle.dv_streams.proofs.stream.give_all.Goals as goal

pub pieces-preserved : goal.pieces-preserved
pieces-preserved g c =
    more_given (g.W.ByteOut.contents c.args.writer.now) (g.W.ByteOut.contents c.pieces.writer) (g.W.ByteOut.contents c.give.new.self) c.args.bytes.now c.pieces.rest.now c.in_ok-count.count _ _ _
    c.pieces.invariant c.in_ok-count.ensures.taken (omega (arith, c.if-count-eq0.false)) c.in_ok-count.ensures.failures

pub returns-in_err-count-clause-failed : goal.returns-in_err-count-clause-failed
returns-in_err-count-clause-failed g c =
    let p = err_from_is_err_and c.from_residual.result c.from_residual.ensures.1 in
    rw p.1 (c.in_err-count.ensures.failures ∙ ap once_more c.pieces.invariant.failures)

pub returns-then-count-eq0-clause-failed : goal.returns-then-count-eq0-clause-failed
returns-then-count-eq0-clause-failed g c = rw c.if-count-eq0.true at c.in_ok-count.ensures.failures ∙ ap once_more c.pieces.invariant.failures

pub returns-clause-counted : goal.returns-clause-counted
returns-clause-counted g c = c.pieces.invariant.failures
