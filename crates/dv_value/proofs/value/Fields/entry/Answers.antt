use Rattle.std.proofs.Common.{◌≡◌, ◌≤◌, length, map, Some, None, sym, ap, ◌∙◌, refl, arith}
use Rattle.std.proofs.lemmas.Grind.{common_steps}
use Rattle.std.proofs.lemmas.List.{length-map}
use Rattle.std.proofs.lemmas.Option.{slice_get_read, slice_get-map}
use Rattle.std.proofs.lemmas.Bool.{ltb-true}
use Rattle.std.specs.List.{slice_get}
use Rattle.dv_value.specs.View.{tree}
use Rattle.dv_value.proofs.Zipped.{zip_past, slice_get-zip, paired}
use Rattle.dv_value.proofs.value.Fields.entry.Goals as goal

pub returns-in_err-value : goal.returns-in_err-value
returns-in_err-value c =
    let values = c.self.inside.values.items in
    let past : length values ≤ c.args.place = grind (arith, common_steps) in
    rw (c.from_residual.ensures, ← c.self.view_is) (sym (zip_past c.self.inside.names.value (map tree values) c.args.place (rw length-map past)))

pub returns-in_err-name : goal.returns-in_err-name
returns-in_err-name c =
    let names = c.self.inside.names.value in
    let values = map tree c.self.inside.values.items in
    let none : slice_get names c.args.place ≡ None = sym (rw c.deref-2.ensures at c.in_err-name.ensures) in
    rw (c.from_residual-in_err-name.ensures, ← c.self.view_is) (sym (slice_get-zip names values c.args.place ∙ ap (λ o. paired o (slice_get values c.args.place)) none))

pub returns : goal.returns
returns c =
    let names = c.self.inside.names.value in
    let values = c.self.inside.values.items in
    let name : slice_get names c.args.place ≡ Some c.in_ok-name.name.now = sym (rw c.deref-2.ensures at c.in_ok-name.ensures) in
    let there : slice_get c.deref.result.now c.args.place ≡ Some c.in_ok-value.value.now = slice_get_read _ (length c.deref.result.now) c.args.place c.in_ok-value.value.now refl (ltb-true _ _ (sym c.in_ok-value.ensures.lookup.0)) c.in_ok-value.ensures.lookup.1 in
    let value : slice_get values c.args.place ≡ Some c.in_ok-value.value.now = rw c.deref.ensures.value at there in
    rw (← c.self.view_is) (sym (slice_get-zip names (map tree values) c.args.place ∙ rw (name, slice_get-map tree values c.args.place, value) refl))
