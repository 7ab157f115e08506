use Rattle.std.proofs.Common.{rules, subst, sym}
use Rattle.dv_host.specs.Outside.{Accepts}
use Rattle.dv_serving.specs.Serve.{ClosesConnection, IsFresh}
use Rattle.dv_serving.proofs.Served.{session_had}
use Rattle.dv_serving.proofs.serve.serve_next.Goals as goal

pub returns-clause-served : goal.returns-clause-served
returns-clause-served g c =
    let coming = g.L.Listener.coming c.args.listener.now in
    let closed = g.L.Listener.closed c.args.listener.now in
    let input = g.L.Input.ByteIn.remaining c.in_ok-input.input in
    let left = g.L.Input.ByteIn.remaining c.run-told.new.reader in
    let before = g.L.Output.ByteOut.contents c.in_ok-input.output in
    let after = g.L.Output.ByteOut.contents c.run-told.new.writer in
    let next : Accepts coming input (g.L.Listener.coming c.accept.new.self) = search rules in
    let fresh : IsFresh closed before = search rules in
    let closes = subst (λ old. ClosesConnection old left after (g.L.Listener.closed c.close.new.self)) c.accept.ensures.closed c.close.ensures.closed in
    let (connection, same, closes_so, had) = session_had closed (g.L.Listener.closed c.close.new.self) c.args.hub.now c.run-told.new.hub c.run-told.result input left before after fresh c.run-told.ensures.ran closes in
    (connection, subst (λ known. Accepts coming known (g.L.Listener.coming c.close.new.self)) (sym same) (subst (λ new. Accepts coming input new) (sym c.close.ensures.coming) next), closes_so, had)
