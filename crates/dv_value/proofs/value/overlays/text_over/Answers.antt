use Rattle.std.proofs.Common.{◌≡◌, ◌≤◌, length, map, Some, sym, ap, ◌∙◌, refl, arith}
use Rattle.std.proofs.lemmas.Grind.{common_steps}
use Rattle.std.proofs.lemmas.List.{length-map}
use Rattle.std.proofs.lemmas.Option.{slice_get_read, slice_get_past, slice_get-map}
use Rattle.std.proofs.lemmas.Bool.{ltb-true}
use Rattle.std.specs.List.{slice_get}
use Rattle.dv_value.specs.View.{covering}
use Rattle.dv_value.specs.declared.value.Cover.TheVariants.{Absent, Shared}
use Rattle.dv_value.proofs.value.overlays.text_over.Goals as goal

pub returns-in_err-cover : goal.returns-in_err-cover
returns-in_err-cover c =
    let covers = c.args.covers.now.items in
    let past : length covers ≤ c.args.place = grind (arith, common_steps) in
    rw (c.from_residual.ensures, slice_get_past (map covering covers) c.args.place (rw length-map past)) refl

pub returns-in-Shared : goal.returns-in-Shared
returns-in-Shared c =
    let covers = c.args.covers.now.items in
    let there : slice_get c.deref.result.now c.args.place ≡ Some c.in_ok-cover.cover.now = slice_get_read _ (length c.deref.result.now) c.args.place c.in_ok-cover.cover.now refl (ltb-true _ _ (sym c.in_ok-cover.ensures.lookup.0)) c.in_ok-cover.ensures.lookup.1 in
    let here : slice_get covers c.args.place ≡ Some (Shared c.in-Shared.text) = (rw c.deref.ensures.value at there) ∙ ap Some c.in-Shared.is in
    rw (slice_get-map covering covers c.args.place, here) refl

pub returns-in-Absent : goal.returns-in-Absent
returns-in-Absent c =
    let covers = c.args.covers.now.items in
    let there : slice_get c.deref.result.now c.args.place ≡ Some c.in_ok-cover.cover.now = slice_get_read _ (length c.deref.result.now) c.args.place c.in_ok-cover.cover.now refl (ltb-true _ _ (sym c.in_ok-cover.ensures.lookup.0)) c.in_ok-cover.ensures.lookup.1 in
    let here : slice_get covers c.args.place ≡ Some Absent = (rw c.deref.ensures.value at there) ∙ ap Some c.in-Absent.is in
    rw (slice_get-map covering covers c.args.place, here) refl
