use Rattle.std.proofs.Common.{◌≡◌, true, false, refl, sym, ◌∙◌}
use Rattle.dv_value.specs.Names.{has_name}
use Rattle.dv_bson.proofs.Fronts.{compared}
use Rattle.dv_bson.proofs.reading.field_name_of.Goals as goal

pub returns-then-has : goal.returns-then-has
returns-then-has c =
    let found : has_name c.in_ok-name.name.now c.args.before.now ≡ true = sym c.has.ensures.has ∙ c.if-has.true in
    compared _ _ _ _ c.in_ok-name.ensures ∙ rw found refl

pub returns : goal.returns
returns c =
    let found : has_name c.in_ok-name.name.now c.args.before.now ≡ false = sym c.has.ensures.has ∙ c.if-has.false in
    compared _ _ _ _ c.in_ok-name.ensures ∙ rw found refl
