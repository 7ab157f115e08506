use Rattle.std.proofs.Common.{◌≡◌, ◌∙◌, ◌++◌, ◌+◌, [], ℕ, List, Err, ap, append-nil, arith, drop, length, refl, rules, subst, take}
use Rattle.std.proofs.lemmas.List.{drop_all, take_all, length-take-le}
use Rattle.std.proofs.lemmas.Result.{err_from_is_err_and}
use Rattle.std.specs.Io.KnownBytes.{Consumes}
use Rattle.dv_streams.specs.Stream.{once_more}
use Rattle.dv_scripts.specs.Inner.Pieces.{StopsIn, TakesPiece}
use Rattle.dv_scripts.specs.Script.{standing_of}
use Rattle.dv_scripts.proofs.Scripts.{asked, at_end, at_failure, at_limit, few_asked, last_stops, line_left, never_read, none_asked, not_flushed, nothing_read, read_more, read_stops}
use Rattle.dv_scripts.proofs.script.Progress.read.Goals as goal
use Rattle.dv_wire.specs.Inner.CountLaws.{one_more, no_more, asks_few, asks_most}

-- what a read leaves in a piece of this length
read_piece : (n : ℕ) (old new : List ℕ) → n ≡ length old → length new ≡ length old → take n (new ++ drop (length new) old) ≡ new
read_piece n old new whole same =
    ap (λ rest. take n (new ++ rest)) (drop_all (length new) old (omega (arith, same)))
    ∙ ap (take n) (append-nil new) ∙ take_all n new (omega (arith, whole, same))

pub reads-init : goal.reads-init
reads-init g c = (
  nothing_read (standing_of c.args.self.now.sessions c.args.hub.now) (g.R.ByteIn.remaining c.args.reader.now) (g.W.ByteOut.contents c.args.writer.now) c.args.self.now.number c.args.self.now.line.items c.requires.first c.requires.line,
  c.in_ok-piece.ensures,
  refl,
  refl,
  no_more (g.R.ByteIn.reads c.args.reader.now),
)

pub returns-in_err-piece-clause-stopped : goal.returns-in_err-piece-clause-stopped
returns-in_err-piece-clause-stopped g c =
    let p = err_from_is_err_and c.from_residual.result c.from_residual.ensures.1 in
    rw (p.1, p.2) (never_read (standing_of c.args.self.now.sessions c.args.hub.now) (g.R.ByteIn.remaining c.args.reader.now) (g.W.ByteOut.contents c.args.writer.now))

pub returns-in_err-piece-clause-reader : goal.returns-in_err-piece-clause-reader
returns-in_err-piece-clause-reader g c = let p = err_from_is_err_and c.from_residual.result c.from_residual.ensures.1 in rw (p.1, p.2) refl

pub returns-in_err-piece-clause-writer : goal.returns-in_err-piece-clause-writer
returns-in_err-piece-clause-writer g c = let p = err_from_is_err_and c.from_residual.result c.from_residual.ensures.1 in rw (p.1, p.2) refl

pub returns-in_err-piece-clause-reads : goal.returns-in_err-piece-clause-reads
returns-in_err-piece-clause-reads g c = let p = err_from_is_err_and c.from_residual.result c.from_residual.ensures.1 in rw (p.1, p.2) (none_asked (g.R.ByteIn.reads c.args.reader.now))

pub returns-in_err-flush-clause-stopped : goal.returns-in_err-flush-clause-stopped
returns-in_err-flush-clause-stopped g c =
    let p = err_from_is_err_and c.from_residual-in_err-flush.result c.from_residual-in_err-flush.ensures.1 in
    rw (p.1, p.2, c.in_err-flush.ensures.fault) (not_flushed _ _ _ _ _ _ _ _ _ c.reads.invariant.0 (g.W.ByteOut.contents c.flush.new.writer) c.flush.ensures.kept)

pub returns-in_default-clause-stopped : goal.returns-in_default-clause-stopped
returns-in_default-clause-stopped g c = at_failure _ _ _ _ _ _ _ _ _ c.reads.invariant.0 (g.R.ByteIn.remaining c.take.new.self) (g.W.ByteOut.contents c.flush.new.writer) c.in_default.ensures.kept c.flush.ensures.kept

pub returns-clause-stopped : goal.returns-clause-stopped
returns-clause-stopped g c = at_limit _ _ _ _ _ _ _ _ _ c.reads.invariant.0

pub returns-in_err-flush-clause-writer : goal.returns-in_err-flush-clause-writer
returns-in_err-flush-clause-writer g c =
    let p = err_from_is_err_and c.from_residual-in_err-flush.result c.from_residual-in_err-flush.ensures.1 in
    rw (p.1, p.2, c.in_err-flush.ensures.fault) (c.in_err-flush.ensures.failures ∙ ap once_more c.reads.invariant.3)

pub returns-in_err-flush-clause-reader : goal.returns-in_err-flush-clause-reader
returns-in_err-flush-clause-reader g c =
    let p = err_from_is_err_and c.from_residual-in_err-flush.result c.from_residual-in_err-flush.ensures.1 in
    rw (p.1, p.2, c.in_err-flush.ensures.fault) c.reads.invariant.2

pub returns-in_err-flush-clause-reads : goal.returns-in_err-flush-clause-reads
returns-in_err-flush-clause-reads g c =
    let p = err_from_is_err_and c.from_residual-in_err-flush.result c.from_residual-in_err-flush.ensures.1 in
    rw (p.1, p.2, c.in_err-flush.ensures.fault) (asked c.reads.counter _ _ (omega (arith, c.reads-test.true)) c.reads.invariant.4)

pub returns-in_default-clause-reader : goal.returns-in_default-clause-reader
returns-in_default-clause-reader g c = c.in_default.ensures.failures ∙ ap once_more c.reads.invariant.2

pub returns-in_default-clause-writer : goal.returns-in_default-clause-writer
returns-in_default-clause-writer g c = c.in_ok-flush.ensures.failures ∙ c.reads.invariant.3

pub returns-in_default-clause-reads : goal.returns-in_default-clause-reads
returns-in_default-clause-reads g c = asks_few c.reads.counter _ _ _ c.reads-test.true c.reads.invariant.4 c.in_default.ensures.reads

pub finish_line-requires : goal.finish_line-requires
finish_line-requires g c = line_left _ _ _ _ _ _ _ _ _ c.reads.invariant.0 c.reads-test.true

pub returns-then-count-eq0-clause-done : goal.returns-then-count-eq0-clause-done
returns-then-count-eq0-clause-done g c =
    let none = subst (λ count. Consumes (g.R.ByteIn.remaining c.reads.reader) (g.R.ByteIn.remaining c.take.new.self) (take count c.take.new.piece)) c.if-count-eq0.true c.in-Ok.ensures.bytes in
    let done = c.in_ok-finish_line.ensures.done in
    at_end _ _ _ _ _ _ _ _ _ c.reads.invariant.0 (g.R.ByteIn.remaining c.take.new.self) (g.W.ByteOut.contents c.finish_line.new.writer) (g.W.ByteOut.contents c.flush.new.writer) c.flush.ensures.kept none
    (c.in-Ok.ensures.end c.if-count-eq0.true) done.0 (standing_of c.finish_line.new.self.sessions c.finish_line.new.hub) done.1 done.2

pub returns-in_err-finish_line-clause-stopped : goal.returns-in_err-finish_line-clause-stopped
returns-in_err-finish_line-clause-stopped g c =
    let p = err_from_is_err_and c.from_residual-in_err-finish_line.result c.from_residual-in_err-finish_line.ensures.1 in
    let none = subst (λ count. Consumes (g.R.ByteIn.remaining c.reads.reader) (g.R.ByteIn.remaining c.take.new.self) (take count c.take.new.piece)) c.if-count-eq0.true c.in-Ok.ensures.bytes in
    let stopped = c.in_err-finish_line.ensures.stopped in
    rw (p.1, p.2)
    (last_stops _ _ _ _ _ _ _ _ _ c.reads.invariant.0 (g.R.ByteIn.remaining c.take.new.self) (g.W.ByteOut.contents c.finish_line.new.writer) (g.W.ByteOut.contents c.flush.new.writer) c.flush.ensures.kept none
    (c.in-Ok.ensures.end c.if-count-eq0.true) c.in_err-finish_line.field-0.0 stopped.0 c.finish_line.new.hub stopped.1 stopped.2)

pub returns-clause-reader : goal.returns-clause-reader
returns-clause-reader g c = c.reads.invariant.2

pub returns-clause-writer : goal.returns-clause-writer
returns-clause-writer g c = c.reads.invariant.3

pub returns-clause-reads : goal.returns-clause-reads
returns-clause-reads g c = asks_most c.reads.counter _ _ (search (rules, arith)) c.reads-test.false c.reads.invariant.4

pub returns-then-count-eq0-clause-reads : goal.returns-then-count-eq0-clause-reads
returns-then-count-eq0-clause-reads g c = asks_few c.reads.counter _ _ _ c.reads-test.true c.reads.invariant.4 c.in-Ok.ensures.reads

pub returns-in_err-finish_line-clause-reads : goal.returns-in_err-finish_line-clause-reads
returns-in_err-finish_line-clause-reads g c =
    let p = err_from_is_err_and c.from_residual-in_err-finish_line.result c.from_residual-in_err-finish_line.ensures.1 in
    (few_asked _ c.from_residual-in_err-finish_line.result c.in_err-finish_line.field-0.0 _ _ _ _ _ _ _ (p.1 ∙ ap Err p.2) c.in_err-finish_line.ensures.stopped.2 (asks_few c.reads.counter _ _ _ c.reads-test.true c.reads.invariant.4 c.in-Ok.ensures.reads))

-- what was read for the script
pub returns-in_err-take-clause-stopped : goal.returns-in_err-take-clause-stopped
returns-in_err-take-clause-stopped g c =
    let p = err_from_is_err_and c.from_residual-in_err-take.result c.from_residual-in_err-take.ensures.1 in
    let same : length c.take.new.piece ≡ length c.reads.piece.items = c.take.auto.piece ∙ ap length c.deref_mut.ensures.value in
    let piece = read_piece c.reads.piece.len c.reads.piece.items c.take.new.piece c.reads.piece.ok.0 same in
    let shown = ap (take c.in-Ok.count) (c.deref.ensures.value ∙ piece) in
    let stopped = c.in_err-take.ensures.stopped in
    rw (p.1, p.2)
    (read_stops _ _ _ _ _ _ _ _ _ c.reads.invariant.0 (g.R.ByteIn.remaining c.take.new.self) (g.W.ByteOut.contents c.take-in-reads.new.writer) c.in_err-take.field-0.0 (take c.in-Ok.count c.take.new.piece) stopped.0 c.take-in-reads.new.hub
    (g.W.ByteOut.contents c.flush.new.writer) c.flush.ensures.kept c.in-Ok.ensures.bytes stopped.1
    (subst (λ bytes. StopsIn c.in_err-take.field-0.0 (standing_of c.reads.self.sessions c.reads.hub) c.reads.self.number c.reads.self.line.items bytes stopped.0 c.take-in-reads.new.hub) shown stopped.2))

pub returns-in_err-take-clause-reads : goal.returns-in_err-take-clause-reads
returns-in_err-take-clause-reads g c =
    let p = err_from_is_err_and c.from_residual-in_err-take.result c.from_residual-in_err-take.ensures.1 in
    let ends = c.in_err-take.ensures.stopped.2.ends [] in
    (few_asked _ c.from_residual-in_err-take.result c.in_err-take.field-0.0 _ _ _ _ _ _ _ (p.1 ∙ ap Err p.2) ends.3 (asks_few c.reads.counter _ _ _ c.reads-test.true c.reads.invariant.4 c.in-Ok.ensures.reads))

pub reads-preserved : goal.reads-preserved
reads-preserved g c =
    let same : length c.take.new.piece ≡ length c.reads.piece.items = c.take.auto.piece ∙ ap length c.deref_mut.ensures.value in
    let piece = read_piece c.reads.piece.len c.reads.piece.items c.take.new.piece c.reads.piece.ok.0 same in
    let shown = ap (take c.in-Ok.count) (c.deref.ensures.value ∙ piece) in
    let front = take c.in-Ok.count c.take.new.piece in
    let small = length-take-le c.in-Ok.count c.take.new.piece c.in-Ok.ensures.few in
    let done = c.in_ok-take.ensures.done in
    let new = standing_of c.take-in-reads.new.self.sessions c.take-in-reads.new.hub in
    let taken : (takes : TakesPiece (standing_of c.reads.self.sessions c.reads.hub) c.reads.self.line.items front done.0 new c.take-in-reads.new.self.line.items) × (c.take-in-reads.new.self.number ≡ c.reads.self.number + length takes.lines) =
    subst (λ bytes. (takes : TakesPiece (standing_of c.reads.self.sessions c.reads.hub) c.reads.self.line.items bytes done.0 new c.take-in-reads.new.self.line.items) × (c.take-in-reads.new.self.number ≡ c.reads.self.number + length takes.lines))
    shown (done.2, done.3) in (
      read_more _ _ _ _ _ _ _ _ _ c.reads.invariant.0 (g.R.ByteIn.remaining c.take.new.self) (g.W.ByteOut.contents c.take-in-reads.new.writer) front done.0 new c.take-in-reads.new.self.number c.take-in-reads.new.self.line.items
          (g.W.ByteOut.contents c.flush.new.writer) c.flush.ensures.kept c.in-Ok.ensures.bytes (omega (arith, small, c.in-Ok.ensures.few, same, c.reads.invariant.1)) done.1 taken.0 taken.1 c.in_ok-take.ensures.line,
      omega (arith, ap length piece, same, c.reads.invariant.1),
      c.in-Ok.ensures.failures ∙ c.reads.invariant.2,
      c.in_ok-take.ensures.writer ∙ c.in_ok-flush.ensures.failures ∙ c.reads.invariant.3,
      one_more c.reads.counter _ _ _ c.reads.invariant.4 c.in-Ok.ensures.reads,
    )
