use Rattle.std.proofs.Common.{◌≡◌, ◌+◌, ◌-◌, arith, refl}
use Rattle.dv_host.specs.Schedule.{HappensBy}
use Rattle.dv_host.proofs.All.{recounted, same_outside}
use Rattle.dv_host.proofs.hosting.rounds.Goals as goal

pub turns-init : goal.turns-init
turns-init g c = (
  omega arith,
  λ first start count stands. recounted (HappensBy g.S.Sessions.opens g.S.Sessions.feeds g.S.Sessions.ends) _ _ _ _ _ _ _ count _ stands (count + (c.args.connections - c.args.connections)) (omega arith),
)

pub turns-preserved : goal.turns-preserved
turns-preserved g c = (
  omega (arith, c.turns.invariant.0),
  λ first start count stands.
      let had = c.args.connections - c.turns.left in
      let few = c.greet_all-left.ensures.few in
      let le = c.turns.invariant.0 in
      let greeted = c.greet_all-left.ensures.stands first start (count + had) (c.turns.invariant.1 first start count stands) in
      let same : count + had + c.greet_all-left.result ≡ count + (c.args.connections - (c.turns.left - c.greet_all-left.result)) = omega (arith, few, le) in
      c.serve_ready.ensures first start _ (recounted (HappensBy g.S.Sessions.opens g.S.Sessions.feeds g.S.Sessions.ends) _ _ _ _ _ _ _ _ _
      (same_outside (HappensBy g.S.Sessions.opens g.S.Sessions.feeds g.S.Sessions.ends) _ _ _ _ _ _ _ _ _ greeted _ _ c.wait.ensures.coming c.wait.ensures.closed) _ same),
)

pub returns-in_default : goal.returns-in_default
returns-in_default g c = λ first start count stands.
    let had = c.args.connections - c.turns.left in
    let greeted = c.greet_all-left.ensures.stands first start (count + had) (c.turns.invariant.1 first start count stands) in
    let same : count + had + c.greet_all-left.result ≡ count + (had + c.greet_all-left.result) = omega arith in (
      had + c.greet_all-left.result,
      tt,
      recounted (HappensBy g.S.Sessions.opens g.S.Sessions.feeds g.S.Sessions.ends) _ _ _ _ _ _ _ _ _
          (same_outside (HappensBy g.S.Sessions.opens g.S.Sessions.feeds g.S.Sessions.ends) _ _ _ _ _ _ _ _ _ greeted _ _ c.wait.ensures.coming c.wait.ensures.closed) _ same,
    )

pub returns-then-is_empty : goal.returns-then-is_empty
returns-then-is_empty g c = λ first start count stands.
    let had = c.args.connections - c.turns.left in
    let few = c.greet_all-left.ensures.few in
    let le = c.turns.invariant.0 in
    let none = c.if-left-eq0.true in
    let greeted = c.greet_all-left.ensures.stands first start (count + had) (c.turns.invariant.1 first start count stands) in
    let same : count + had + c.greet_all-left.result ≡ count + c.args.connections = omega (arith, few, le, none) in
    (c.args.connections, refl, recounted (HappensBy g.S.Sessions.opens g.S.Sessions.feeds g.S.Sessions.ends) _ _ _ _ _ _ _ _ _ greeted _ same)

pub returns : goal.returns
returns g c = λ first start count stands. (c.args.connections - c.turns.left, tt, c.turns.invariant.1 first start count stands)
