-- For no rows, no rows come out.
use Rattle.std.proofs.Common.{rules, ◌≡◌, []}
use Rattle.dv_change.proofs.Made.{made_first}
use Rattle.dv_change.proofs.told_rows.ToldRows.new.Goals as goal

pub returns-clause-made : goal.returns-clause-made
returns-clause-made g c = λ forms fresh.
    let o = g.O.Operator in
    let laws = g.met.O.Operator in
    let rows : c.new-2.result.entries ≡ [] = search rules in
    made_first o.makes o.holds laws.positioned laws.ordered laws.empty c.new.result c.args.operators.items c.new-2.result.entries forms c.new.ensures rows fresh
