use Rattle.std.proofs.Common.{◌≡◌, ◌-◌}
use Rattle.dv_serving.proofs.Served.{ServedSoFar}
use Rattle.dv_serving.proofs.serve.serve_on.Given as goal

abbrev pub invariant-connections : goal.invariant-connections
invariant-connections g l =
    ServedSoFar l.connections l.number (g.L.Listener.coming l.fn.listener) (g.L.Listener.coming l.listener) (g.L.Listener.closed l.fn.listener) (g.L.Listener.closed l.listener)
    l.fn.hub l.hub (g.W.ByteOut.contents l.fn.writer) (g.W.ByteOut.contents l.writer) (g.W.TextOut.flushes l.fn.writer) (g.W.TextOut.flushes l.writer)
    × (g.L.Listener.failures l.listener ≡ g.L.Listener.failures l.fn.listener)
    × (g.W.ByteOut.failures l.writer ≡ g.W.ByteOut.failures l.fn.writer)

abbrev pub decreases-connections : goal.decreases-connections
decreases-connections g l = l.connections - l.number
