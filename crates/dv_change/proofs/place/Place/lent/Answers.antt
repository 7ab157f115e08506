use Rattle.std.proofs.Common.{ap, sym, ◌∙◌, ◌∷◌, []}
use Rattle.dv_change.specs.Inner.Places.{parts_of}
use Rattle.dv_change.proofs.place.Place.lent.Goals as goal

pub returns-in-One : goal.returns-in-One
returns-in-One c = ap (λ p. p ∷ []) c.of_code.ensures ∙ ap parts_of (sym c.in-One.is)

pub returns-in-Two : goal.returns-in-Two
returns-in-Two c = (λ j. c.of_code-in-Two.ensures j ∷ c.of_code-in-Two-2.ensures j ∷ []) ∙ ap parts_of (sym c.in-Two.is)
