use Rattle.std.proofs.Common.{◌≡◌, ◌∙◌, ◌<◌, refl, rules}
use Rattle.dv_serving.proofs.Served.{more_served, none_served, not_written}
use Rattle.dv_serving.proofs.serve.serve_on.Goals as goal

pub connections-init : goal.connections-init
connections-init g c = (
  none_served c.args.connections (g.L.Listener.coming c.args.listener.now) (g.L.Listener.closed c.args.listener.now) c.args.hub.now (g.W.ByteOut.contents c.args.writer.now) (g.W.TextOut.flushes c.args.writer.now),
  refl,
  refl,
)

pub connections-preserved : goal.connections-preserved
connections-preserved g c =
    let more : c.connections.number < c.args.connections = search rules in
    let served = c.in_ok-told.ensures.served in
    let accepted : g.L.Listener.failures c.serve_next.new.listener ≡ g.L.Listener.failures c.connections.listener = c.in_ok-told.ensures.failures in
    let written : g.W.ByteOut.failures c.tell.new.writer ≡ g.W.ByteOut.failures c.connections.writer = c.in_ok-tell.ensures.failures in (
      more_served c.args.connections c.connections.number (g.L.Listener.coming c.args.listener.now) (g.L.Listener.coming c.connections.listener)
          (g.L.Listener.closed c.args.listener.now) (g.L.Listener.closed c.connections.listener) c.args.hub.now c.connections.hub
          (g.W.ByteOut.contents c.args.writer.now) (g.W.ByteOut.contents c.connections.writer) (g.W.TextOut.flushes c.args.writer.now) (g.W.TextOut.flushes c.connections.writer) c.connections.invariant.0
          (g.L.Listener.coming c.serve_next.new.listener) (g.L.Listener.closed c.serve_next.new.listener) c.serve_next.new.hub c.in_ok-told.told served.0 served.1 served.2 served.3
          (g.W.ByteOut.contents c.tell.new.writer) (g.W.TextOut.flushes c.tell.new.writer) c.in_ok-tell.ensures.ok c.in_ok-tell.ensures.flushed more,
      accepted ∙ c.connections.invariant.1,
      written ∙ c.connections.invariant.2,
    )

pub returns-in_err-tell-clause-write : goal.returns-in_err-tell-clause-write
returns-in_err-tell-clause-write g c =
    let more : c.connections.number < c.args.connections = search rules in
    let served = c.in_ok-told.ensures.served in
    λ e. not_written c.args.connections c.connections.number (g.L.Listener.coming c.args.listener.now) (g.L.Listener.coming c.connections.listener)
    (g.L.Listener.closed c.args.listener.now) (g.L.Listener.closed c.connections.listener) c.args.hub.now c.connections.hub
    (g.W.ByteOut.contents c.args.writer.now) (g.W.ByteOut.contents c.connections.writer) (g.W.TextOut.flushes c.args.writer.now) (g.W.TextOut.flushes c.connections.writer) c.connections.invariant.0
    (g.L.Listener.coming c.serve_next.new.listener) (g.L.Listener.closed c.serve_next.new.listener) c.serve_next.new.hub c.in_ok-told.told served.0 served.1 served.2 served.3
    (g.W.TextOut.flushes c.tell.new.writer) c.in_err-tell.ensures.unflushed more
