use Rattle.std.proofs.Common.{sym, ◌∙◌}
use Rattle.std.specs.String.{string_bytes}
use Rattle.dv_command.proofs.Rare.{asked_plainly}
use Rattle.dv_command.proofs.reads.find_in.Goals as goal

pub returns-then-not-has_rare : goal.returns-then-not-has_rare
returns-then-not-has_rare c =
    asked_plainly c.args.body.now (sym c.has_rare.ensures ∙ c.if-not-has_rare.true) c.args.database.now c.in_ok-collection.collection.now (string_bytes c.in_ok-namespace.namespace) c.in_ok-filter.filter
    c.in_ok-collection.ensures c.in_ok-namespace.ensures c.in_ok-filter.ensures
