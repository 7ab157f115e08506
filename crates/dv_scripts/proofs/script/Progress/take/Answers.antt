use Rattle.std.proofs.Common.{◌∙◌, ◌++◌, ◌<◌, ◌^◌, [], Err, suc, ap, refl, sym, subst, append-nil}
use Rattle.std.proofs.KnownBytes.{Appends-nil}
use Rattle.std.proofs.lemmas.Result.{err_from_is_err_and}
use Rattle.dv_scripts.specs.Script.{HasNoLf, standing_of}
use Rattle.dv_scripts.specs.Stops.{EndsAt}
use Rattle.dv_scripts.proofs.Pieces.{clean_still, line_stops, line_taken, not_kept, nothing_taken, numbers_left, rest_taken, stops_ended, stops_open}
use Rattle.dv_scripts.proofs.script.Progress.take.Goals as goal

pub lines-init : goal.lines-init
lines-init g c =
    (nothing_taken (standing_of c.args.self.now.sessions c.args.hub.now) c.args.self.now.number c.args.self.now.line.items c.args.piece.now (g.W.ByteOut.contents c.args.writer.now) c.requires.line, refl)

pub finish_line-requires : goal.finish_line-requires
finish_line-requires g c =
    subst (λ n. suc n < 2 ^ 64) (sym (ap (λ p. p.number) c.keep.ensures.kept))
    (numbers_left _ _ _ _ _ _ _ _ _ _ c.lines.invariant.0 c.in-Some.end.now c.in-Some.behind.now c.in-Some.ensures.1 c.in-Some.ensures.0 c.requires.numbers)

pub lines-preserved : goal.lines-preserved
lines-preserved g c =
    let done = c.in_ok-finish_line.ensures.done in
    let next = c.in_ok-finish_line.ensures.next in (
      line_taken _ _ _ _ _ _ _ _ _ _ c.lines.invariant.0 c.in-Some.end.now c.in-Some.behind.now c.in-Some.ensures.1 c.in-Some.ensures.0
          (standing_of c.keep.new.self.sessions c.lines.hub) c.keep.new.self.number c.keep.new.self.line.items
          (ap (λ p. standing_of p.sessions c.lines.hub) c.keep.ensures.kept) (ap (λ p. p.number) c.keep.ensures.kept) c.in_ok-keep.ensures.line
          (standing_of c.finish_line.new.self.sessions c.finish_line.new.hub) done.0 (g.W.ByteOut.contents c.finish_line.new.writer) c.finish_line.new.self.number c.finish_line.new.self.line.items
          done.1 done.2 next.1 next.0,
      c.in_ok-finish_line.ensures.writer ∙ c.lines.invariant.1,
    )

pub returns-in_err-keep-clause-stopped : goal.returns-in_err-keep-clause-stopped
returns-in_err-keep-clause-stopped g c =
    let p = err_from_is_err_and c.from_residual.result c.from_residual.ensures.1 in
    let now = standing_of c.lines.self.sessions c.lines.hub in
    let fault = c.in_err-keep.field-0.0 in
    let why = not_kept fault now c.lines.self.number c.lines.self.line.items c.in-Some.end.now c.in_err-keep.ensures.faults (λ e. c.keep.ensures.limit.0 (c.in_err-keep.was ∙ ap Err e)) [] in
    rw (p.1, p.2)
    (stops_ended _ _ _ _ _ _ _ _ _ _ c.lines.invariant.0 fault [] c.lines.hub c.in-Some.end.now c.in-Some.behind.now c.in-Some.ensures.1 c.in-Some.ensures.0
    (subst (λ l. EndsAt fault now c.lines.self.number l [] c.lines.hub) (append-nil (c.lines.self.line.items ++ c.in-Some.end.now)) why) (g.W.ByteOut.contents c.lines.writer) (Appends-nil (g.W.ByteOut.contents c.lines.writer)))

pub returns-in_err-finish_line-clause-stopped : goal.returns-in_err-finish_line-clause-stopped
returns-in_err-finish_line-clause-stopped g c =
    let p = err_from_is_err_and c.from_residual-in_err-finish_line.result c.from_residual-in_err-finish_line.ensures.1 in
    let stopped = c.in_err-finish_line.ensures.stopped in
    rw (p.1, p.2)
    (line_stops _ _ _ _ _ _ _ _ _ _ c.lines.invariant.0 c.in-Some.end.now c.in-Some.behind.now c.in-Some.ensures.1 c.in-Some.ensures.0
    (standing_of c.keep.new.self.sessions c.lines.hub) c.keep.new.self.number c.keep.new.self.line.items
    (ap (λ p. standing_of p.sessions c.lines.hub) c.keep.ensures.kept) (ap (λ p. p.number) c.keep.ensures.kept) c.in_ok-keep.ensures.line
    c.in_err-finish_line.field-0.0 stopped.0 c.finish_line.new.hub (g.W.ByteOut.contents c.finish_line.new.writer) stopped.2 stopped.1)

pub returns-in_err-keep-2-clause-stopped : goal.returns-in_err-keep-2-clause-stopped
returns-in_err-keep-2-clause-stopped g c =
    let p = err_from_is_err_and c.from_residual-in_err-keep-2.result c.from_residual-in_err-keep-2.ensures.1 in
    let fault = c.in_err-keep-2.field-0.0 in
    rw (p.1, p.2)
    (stops_open _ _ _ _ _ _ _ _ _ _ c.lines.invariant.0 fault [] c.lines.hub c.in_default.ensures
    (not_kept fault (standing_of c.lines.self.sessions c.lines.hub) c.lines.self.number c.lines.self.line.items c.lines.rest.now c.in_err-keep-2.ensures.faults (λ e. c.keep-2.ensures.limit.0 (c.in_err-keep-2.was ∙ ap Err e)))
    (g.W.ByteOut.contents c.lines.writer) (Appends-nil (g.W.ByteOut.contents c.lines.writer)))

pub returns-clause-line : goal.returns-clause-line
returns-clause-line g c = subst HasNoLf (sym c.in_ok-keep-2.ensures.line) (clean_still _ _ _ _ _ _ _ _ _ _ c.lines.invariant.0 c.in_default.ensures)

pub returns-clause-done : goal.returns-clause-done
returns-clause-done g c =
    let so_far = c.lines.invariant.0 in
    let taken =
    rest_taken _ _ _ _ _ _ _ _ _ _ so_far (standing_of c.keep-2.new.self.sessions c.lines.hub) c.keep-2.new.self.number c.keep-2.new.self.line.items
    (ap (λ p. standing_of p.sessions c.lines.hub) c.keep-2.ensures.kept) (ap (λ p. p.number) c.keep-2.ensures.kept) c.in_ok-keep-2.ensures.line in
    (so_far.said, so_far.appended, taken.0, taken.1)
