use Rattle.std.proofs.Common.{ap, subst, sym, ◌∙◌, ◌≡◌, ◌∷◌, []}
use Rattle.std.specs.Option.{IfSome}
use Rattle.dv_change.specs.Positions.{PosTree}
use Rattle.dv_change.specs.Inner.Places.{parts_of}
use Rattle.dv_change.proofs.place.Place.behind_part.Goals as goal

pub returns-clause-parts : goal.returns-clause-parts
returns-clause-parts c =
    subst (λ (parts : PosTree). IfSome c.two-place.result (λ place. parts_of place ≡ c.args.part.now ∷ parts)) (ap (λ p. p ∷ []) c.of_code-own.ensures ∙ ap parts_of (sym c.in-One.is)) c.two-place.ensures.parts
