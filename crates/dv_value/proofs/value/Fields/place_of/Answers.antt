use Rattle.std.proofs.Common.{map, arith}
use Rattle.std.proofs.lemmas.List.{length-map}
use Rattle.dv_value.specs.View.{tree}
use Rattle.dv_value.proofs.Zipped.{AreNamed-zip, place_found, place_behind, place_nowhere}
use Rattle.dv_value.proofs.value.Fields.place_of.Goals as goal

pub returns-in_err-place-clause-place : goal.returns-in_err-place-clause-place
returns-in_err-place-clause-place c =
    rw (c.from_residual.ensures, ← c.self.view_is) (place_nowhere c.args.name.now _ _ (rw length-map c.self.invariant) (rw c.deref.ensures at c.in_err-place.ensures.place))

pub returns-in_err-place-clause-named : goal.returns-in_err-place-clause-named
returns-in_err-place-clause-named c = rw (← c.self.view_is) (AreNamed-zip _ _ (rw c.deref.ensures at c.in_err-place.ensures.named))

pub returns-then-place-len-clause-place : goal.returns-then-place-len-clause-place
returns-then-place-len-clause-place c =
    let values = c.self.inside.values.items in
    rw (← c.self.view_is) (place_found c.args.name.now _ (map tree values) (rw length-map c.self.invariant) c.in_ok-place.place (rw c.deref.ensures at c.in_ok-place.ensures.place)
    (omega (arith, c.if-place-len.true, c.len.ensures, c.self.inside.values.ok.0, length-map values tree)))

pub returns-then-place-len-clause-named : goal.returns-then-place-len-clause-named
returns-then-place-len-clause-named c = rw (← c.self.view_is) (AreNamed-zip _ _ (rw c.deref.ensures at c.in_ok-place.ensures.named))

pub returns-else-place-len-clause-place : goal.returns-else-place-len-clause-place
returns-else-place-len-clause-place c =
    let values = c.self.inside.values.items in
    rw (← c.self.view_is) (place_behind c.args.name.now _ (map tree values) (rw length-map c.self.invariant) c.in_ok-place.place (rw c.deref.ensures at c.in_ok-place.ensures.place)
    (omega (arith, c.if-place-len.false, c.len.ensures, c.self.inside.values.ok.0, length-map values tree)))

pub returns-else-place-len-clause-named : goal.returns-else-place-len-clause-named
returns-else-place-len-clause-named c = rw (← c.self.view_is) (AreNamed-zip _ _ (rw c.deref.ensures at c.in_ok-place.ensures.named))
