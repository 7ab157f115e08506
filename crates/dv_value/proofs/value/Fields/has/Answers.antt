use Rattle.std.proofs.Common.{◌≡◌, Some, map, length, sym, arith}
use Rattle.std.specs.List.{slice_get}
use Rattle.std.proofs.lemmas.List.{length-map}
use Rattle.dv_value.specs.View.{tree}
use Rattle.dv_value.proofs.Named.{is_some-place}
use Rattle.dv_value.proofs.Zipped.{AreNamed-zip, next_is_fresh}
use Rattle.dv_value.proofs.value.Fields.has.Goals as goal

pub returns-then-is_at-clause-has : goal.returns-then-is_at-clause-has
returns-then-is_at-clause-has c =
    let names = c.self.inside.names.value in
    let values = c.self.inside.values.items in
    let place : c.len-place.result ≡ length (map tree values) = omega (arith, c.len-place.ensures, c.self.inside.values.ok.0, length-map values tree) in
    let next : slice_get names (length (map tree values)) ≡ Some c.args.name.now = rw (c.deref-then-place-len.ensures, place) at (c.is_at.ensures.0 c.if-is_at.true) in
    rw (← c.self.view_is) (sym (next_is_fresh c.args.name.now names (map tree values) (rw c.deref.ensures at c.len.ensures.named) next))

pub returns-then-is_at-clause-named : goal.returns-then-is_at-clause-named
returns-then-is_at-clause-named c = rw (← c.self.view_is) (AreNamed-zip _ _ (rw c.deref.ensures at c.len.ensures.named))

pub returns-clause-has : goal.returns-clause-has
returns-clause-has c = rw (c.is_some.ensures, c.place_of.ensures.place) (is_some-place c.args.name.now 0 c.args.self.now)
