use Rattle.std.proofs.Common.{ap₂, sym, ◌∙◌, ◌≡◌}
use Rattle.std.specs.Ordering.{ordering_then}
use Rattle.dv_change.specs.Inner.PlaceLaws.{code_order, first_decides}
use Rattle.dv_change.specs.Inner.Places.{parts_of}
use Rattle.dv_change.proofs.place.Place.order.Goals as goal

pub returns-then-is_ne : goal.returns-then-is_ne
returns-then-is_ne c =
    let a = c.in-Some.a in
    let b = c.in-Some-head.b in
    let own = c.in-Some.ensures in
    let others = c.in-Some-head.ensures in
    let heads : c.then-heads.result ≡ code_order a.top a.high a.low b.top b.high b.low =
    c.then-heads.ensures ∙ ap₂ ordering_then (c.then.ensures ∙ ap₂ ordering_then c.cmp.ensures c.cmp-2.ensures) c.cmp-3.ensures in
    first_decides (parts_of c.args.self.now) (parts_of c.args.other.now) c.then-heads.result
    (heads ∙ (λ j. code_order (sym own.0 j) (sym own.1 j) (sym own.2 j) (sym others.0 j) (sym others.1 j) (sym others.2 j)))
    (sym c.if-is_ne.ensures)
