-- The changes that the first operator returns lead from no rows to its result; the operators after it take them in.
use Rattle.std.proofs.Common.{rules, ◌≡◌, ◌∷◌}
use Rattle.dv_change.specs.Inner.Answered.{ok-in}
use Rattle.dv_change.proofs.Passing.{filled-through}
use Rattle.dv_change.proofs.operators.+fill_all.Goals as goal

pub returns-clause-filled : goal.returns-clause-filled
returns-clause-filled g t c =
    let o = g.O.Operator in
    let laws = g.met.O.Operator in
    let e : c.args.operators.now ≡ c.in-Some.first.now ∷ c.in-Some.behind.now = search rules in
    ok-in c.fill_all.result c.fill_all.ensures.filled (λ last rest.
    filled-through o.makes o.holds laws.positioned laws.ordered laws.empty c.in-Some.first.now c.fill.new.self c.in-Some.behind.now c.fill_all.new.operators c.args.all.items c.in_ok-made.made.items last.items c.in_ok-made.ensures.makes c.in_ok-made.ensures.filled rest c.args.operators.now e)
