-- A change leaves rows in the order of their positions.
use Rattle.std.proofs.Common.{rules, ◌≡◌}
use Rattle.dv_change.specs.Changes.{with_change}
use Rattle.dv_change.specs.Inner.DiffLaws.{positioned-changed}
use Rattle.dv_change.proofs.told_rows.put.Goals as goal

pub returns-in_ok-insert-in-Put-clause-positioned : goal.returns-in_ok-insert-in-Put-clause-positioned
returns-in_ok-insert-in-Put-clause-positioned c =
    let e : c.insert.new.self.entries ≡ with_change c.args.rows.now.entries c.args.change = search rules in
    rw e (positioned-changed c.args.rows.now.entries c.args.change c.requires c.law_exact.ensures)

pub returns-in-Gone-clause-positioned : goal.returns-in-Gone-clause-positioned
returns-in-Gone-clause-positioned c =
    let e : c.remove.new.self.entries ≡ with_change c.args.rows.now.entries c.args.change = search rules in
    rw e (positioned-changed c.args.rows.now.entries c.args.change c.requires c.law_exact.ensures)
