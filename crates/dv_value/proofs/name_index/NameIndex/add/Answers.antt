use Rattle.std.specs.String.{string_bytes}
use Rattle.dv_value.proofs.ByText.{by_text-insert}
use Rattle.dv_value.proofs.name_index.NameIndex.add.Goals as goal

pub returns-clause-ok : goal.returns-clause-ok
returns-clause-ok c =
    let inserted = by_text-insert c.self.inside.places c.insert.new.self (string_bytes c.in_ok-name.name) c.args.place c.in_ok-insert.ensures.updates in
    rw (← c.self.view_is, ← c.in_ok-name.ensures.ok) inserted
