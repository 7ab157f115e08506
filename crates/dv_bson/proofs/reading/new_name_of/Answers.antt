use Rattle.std.proofs.Common.{◌≡◌, true, false, refl, sym, ◌∙◌}
use Rattle.dv_value.specs.Names.{has_name}
use Rattle.dv_bson.proofs.Fronts.{compared, has_name-bare}
use Rattle.dv_bson.proofs.reading.new_name_of.Goals as goal

pub returns-then-has : goal.returns-then-has
returns-then-has c = λ seen named.
    let found : has_name c.in_ok-name.name.now seen ≡ true = sym (has_name-bare _ seen _ named) ∙ sym c.has.ensures ∙ c.if-has.true in
    compared _ _ _ _ c.in_ok-name.ensures ∙ rw found refl

pub returns : goal.returns
returns c = λ seen named.
    let found : has_name c.in_ok-name.name.now seen ≡ false = sym (has_name-bare _ seen _ named) ∙ sym c.has.ensures ∙ c.if-has.false in
    compared _ _ _ _ c.in_ok-name.ensures ∙ rw found refl
