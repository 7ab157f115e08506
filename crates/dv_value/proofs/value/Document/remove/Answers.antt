use Rattle.std.proofs.Common.{◌≡◌, false, sym, ◌∙◌}
use Rattle.dv_value.specs.Names.{has_name}
use Rattle.dv_value.specs.Inner.NameLaws.{without_missing}
use Rattle.dv_value.proofs.Changed.{value_missing}
use Rattle.dv_value.proofs.value.Document.remove.Goals as goal

pub returns-then-not-has-clause-before : goal.returns-then-not-has-clause-before
returns-then-not-has-clause-before c =
    let none : has_name c.args.name.now c.args.self.now ≡ false = sym c.has.ensures.has ∙ c.if-not-has.true in
    sym (value_missing c.args.name.now c.args.self.now none)

pub returns-then-not-has-clause-ok : goal.returns-then-not-has-clause-ok
returns-then-not-has-clause-ok c =
    let none : has_name c.args.name.now c.args.self.now ≡ false = sym c.has.ensures.has ∙ c.if-not-has.true in
    sym (without_missing c.args.name.now c.args.self.now none)
