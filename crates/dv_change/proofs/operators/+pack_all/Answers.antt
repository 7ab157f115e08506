-- The first operator holds what it held, and so do those after it.
use Rattle.std.proofs.Common.{rules, ◌≡◌, ◌∷◌}
use Rattle.dv_change.specs.Inner.Answered.{ok-one}
use Rattle.dv_change.proofs.Passing.{stays-more}
use Rattle.dv_change.proofs.operators.+pack_all.Goals as goal

pub returns-clause-held : goal.returns-clause-held
returns-clause-held g t c =
    let o = g.O.Operator in
    let e : c.args.operators.now ≡ c.in-Some.first.now ∷ c.in-Some.behind.now = search rules in
    let first = c.in_ok-pack.ensures in
    ok-one c.pack_all.result c.pack_all.ensures.held (λ rest.
    stays-more o.makes o.holds c.in-Some.first.now c.pack.new.self c.in-Some.behind.now c.pack_all.new.operators first.makes first.holds rest c.args.operators.now e)
