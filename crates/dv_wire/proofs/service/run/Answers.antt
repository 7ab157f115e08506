use Rattle.std.proofs.Common.{refl}
use Rattle.std.proofs.KnownBytes.{Keeps-refl}
use Rattle.std.proofs.lemmas.Result.{err_from_is_err_and}
use Rattle.dv_wire.proofs.Ran.{ran_done, ran_fault}
use Rattle.dv_wire.proofs.service.run.Goals as goal
use Rattle.dv_wire.specs.Inner.CountLaws.{no_more}

pub returns-in_err-piece-clause-ran : goal.returns-in_err-piece-clause-ran
returns-in_err-piece-clause-ran g c =
    let p = err_from_is_err_and c.from_residual.result c.from_residual.ensures.1 in
    rw (p.1, p.2) (refl, Keeps-refl _, Keeps-refl _)

pub returns-in_err-piece-clause-reader : goal.returns-in_err-piece-clause-reader
returns-in_err-piece-clause-reader g c =
    let p = err_from_is_err_and c.from_residual.result c.from_residual.ensures.1 in
    rw (p.1, p.2) refl

pub returns-in_err-piece-clause-writer : goal.returns-in_err-piece-clause-writer
returns-in_err-piece-clause-writer g c =
    let p = err_from_is_err_and c.from_residual.result c.from_residual.ensures.1 in
    rw (p.1, p.2) refl

pub returns-in_err-session-clause-ran : goal.returns-in_err-session-clause-ran
returns-in_err-session-clause-ran g c =
    let p = err_from_is_err_and c.from_residual-in_err-session.result c.from_residual-in_err-session.ensures.1 in
    rw (p.1, p.2) (c.in_err-session.ensures.opened, Keeps-refl _, Keeps-refl _)

pub returns-in_err-session-clause-reader : goal.returns-in_err-session-clause-reader
returns-in_err-session-clause-reader g c =
    let p = err_from_is_err_and c.from_residual-in_err-session.result c.from_residual-in_err-session.ensures.1 in
    rw (p.1, p.2) refl

pub returns-in_err-session-clause-writer : goal.returns-in_err-session-clause-writer
returns-in_err-session-clause-writer g c =
    let p = err_from_is_err_and c.from_residual-in_err-session.result c.from_residual-in_err-session.ensures.1 in
    rw (p.1, p.2) refl

pub returns-in_err-counts-clause-ran : goal.returns-in_err-counts-clause-ran
returns-in_err-counts-clause-ran g c =
    let p = err_from_is_err_and c.from_residual-in_err-counts.result c.from_residual-in_err-counts.ensures.1 in
    rw (p.1, p.2)
    (ran_fault c.args.hub.now c.open.new.self c.serve-served.new.hub c.end-unfinished.new.self c.in_ok-session.session _ _ _ _
    c.in_ok-session.ensures.opened c.end-unfinished.ensures.ended _ c.in_err-counts.ensures.talked)

pub returns-in_err-counts-clause-reader : goal.returns-in_err-counts-clause-reader
returns-in_err-counts-clause-reader g c =
    let p = err_from_is_err_and c.from_residual-in_err-counts.result c.from_residual-in_err-counts.ensures.1 in
    rw (p.1, p.2) c.in_err-counts.ensures.reader

pub returns-in_err-counts-clause-writer : goal.returns-in_err-counts-clause-writer
returns-in_err-counts-clause-writer g c =
    let p = err_from_is_err_and c.from_residual-in_err-counts.result c.from_residual-in_err-counts.ensures.1 in
    rw (p.1, p.2) c.in_err-counts.ensures.writer

pub serve-served-requires-clause-there : goal.serve-served-requires-clause-there
serve-served-requires-clause-there g c = c.in_ok-session.ensures.there

pub returns-clause-ran : goal.returns-clause-ran
returns-clause-ran g c =
    ran_done c.args.hub.now c.open.new.self c.serve-served.new.hub c.end-unfinished.new.self c.in_ok-session.session _ _ _ _
    c.in_ok-session.ensures.opened c.end-unfinished.ensures.ended (c.in_ok-counts.counts, c.in_ok-counts.closing) c.end-unfinished.result
    c.in_ok-session.ensures.there c.end-unfinished.ensures.unfinished c.in_ok-counts.ensures.talked

pub returns-clause-reader : goal.returns-clause-reader
returns-clause-reader g c = c.in_ok-counts.ensures.reader

pub returns-clause-writer : goal.returns-clause-writer
returns-clause-writer g c = c.in_ok-counts.ensures.writer

pub returns-in_err-piece-clause-reads : goal.returns-in_err-piece-clause-reads
returns-in_err-piece-clause-reads g c =
    let p = err_from_is_err_and c.from_residual.result c.from_residual.ensures.1 in
    rw (p.1, p.2) (no_more (g.R.ByteIn.reads c.args.reader.now))

pub returns-in_err-session-clause-reads : goal.returns-in_err-session-clause-reads
returns-in_err-session-clause-reads g c =
    let p = err_from_is_err_and c.from_residual-in_err-session.result c.from_residual-in_err-session.ensures.1 in
    rw (p.1, p.2) (no_more (g.R.ByteIn.reads c.args.reader.now))

pub returns-in_err-counts-clause-reads : goal.returns-in_err-counts-clause-reads
returns-in_err-counts-clause-reads g c =
    let p = err_from_is_err_and c.from_residual-in_err-counts.result c.from_residual-in_err-counts.ensures.1 in
    rw (p.1, p.2) c.in_err-counts.ensures.reads

pub returns-clause-reads : goal.returns-clause-reads
returns-clause-reads g c = c.in_ok-counts.ensures.reads
