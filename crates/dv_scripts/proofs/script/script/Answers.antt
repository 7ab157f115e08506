use Rattle.std.proofs.KnownBytes.{Keeps-refl}
use Rattle.dv_scripts.specs.Script.{no_sessions, standing_of}
use Rattle.dv_scripts.proofs.Scripts.{fails_behind, flush_stops, on_ok, ran_begun, ran_unflushed, ran_whole, stops_begun}
use Rattle.dv_scripts.proofs.script.script.Goals as goal

pub returns-in-Ok-clause-done : goal.returns-in-Ok-clause-done
returns-in-Ok-clause-done g c =
    let from = g.R.ByteIn.remaining c.args.reader.now in
    let before = g.W.ByteOut.contents c.args.writer.now in
    let after = g.W.ByteOut.contents c.flush.new.writer in
    let new = standing_of c.read.new.self.sessions c.read.new.hub in
    on_ok _ _ c.flush.result _ (ran_whole from before after (no_sessions c.args.hub.now) new
    (ran_begun c.new-progress.result.sessions c.args.hub.now c.new-progress.ensures.none from before (g.W.ByteOut.contents c.read.new.writer) after c.flush.ensures.kept new c.in-Ok.ensures.done))

pub returns-in-Ok-clause-stopped : goal.returns-in-Ok-clause-stopped
returns-in-Ok-clause-stopped g c =
    let from = g.R.ByteIn.remaining c.args.reader.now in
    let before = g.W.ByteOut.contents c.args.writer.now in
    let after = g.W.ByteOut.contents c.flush.new.writer in
    let new = standing_of c.read.new.self.sessions c.read.new.hub in
    flush_stops _ c.flush.result (no_sessions c.args.hub.now) from (g.R.ByteIn.remaining c.read.new.reader) before after c.read.new.hub c.flush.ensures.fault
    (ran_unflushed from (g.R.ByteIn.remaining c.read.new.reader) before after (no_sessions c.args.hub.now) new
    (ran_begun c.new-progress.result.sessions c.args.hub.now c.new-progress.ensures.none from before (g.W.ByteOut.contents c.read.new.writer) after c.flush.ensures.kept new c.in-Ok.ensures.done))

pub returns-then-is_of_writer-clause-stopped : goal.returns-then-is_of_writer-clause-stopped
returns-then-is_of_writer-clause-stopped g c =
    let after = g.W.ByteOut.contents c.read.new.writer in
    stops_begun c.new-progress.result.sessions c.args.hub.now c.new-progress.ensures.none (g.R.ByteIn.remaining c.args.reader.now) (g.W.ByteOut.contents c.args.writer.now) after after (Keeps-refl after)
    c.in-Err.fault (g.R.ByteIn.remaining c.read.new.reader) c.read.new.hub c.in-Err.ensures.stopped

pub returns : goal.returns
returns g c = record {
  done = tt;
  stopped = stops_begun c.new-progress.result.sessions c.args.hub.now c.new-progress.ensures.none (g.R.ByteIn.remaining c.args.reader.now) (g.W.ByteOut.contents c.args.writer.now)
      (g.W.ByteOut.contents c.read.new.writer) (g.W.ByteOut.contents c.flush-in-Err.new.writer) c.flush-in-Err.ensures.kept c.in-Err.fault (g.R.ByteIn.remaining c.read.new.reader) c.read.new.hub c.in-Err.ensures.stopped;
  reader = c.in-Err.ensures.reader;
  writer = fails_behind _ _ c.read.result c.in-Err.fault c.flush-in-Err.result _ _ _ c.in-Err.is (λ e. let yes = c.is_of_writer.ensures.1 e in let not = c.if-is_of_writer.false in cc) c.read.ensures.writer c.flush-in-Err.ensures.failures;
  reads = c.in-Err.ensures.reads;
}
