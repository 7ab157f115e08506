use Rattle.std.proofs.Common.{◌≡◌, ◌≤◌, ◌∙◌, ◌∷◌, length, None, Some, slice_get, ap, sym, refl}
use Rattle.std.proofs.lemmas.List.{length-map}
use Rattle.std.proofs.lemmas.Option.{slice_get-map, slice_get_past, slice_get_read}
use Rattle.std.specs.Option.{option_map}
use Rattle.dv_value.specs.Names.{value_under}
use Rattle.dv_value.specs.Tree.{array, document, elements_of, fields_of}
use Rattle.dv_value.specs.View.{tree}
use Rattle.dv_candidates.specs.Path.{index_of}
use Rattle.dv_update.specs.Inner.Filling.{beyond, beyond_array}
use Rattle.dv_update.proofs.Filled.{plain-value, none-missing, in-document, in-array, at-element, at-end, too-far}
use Rattle.dv_update.proofs.filling.+beyond.Goals as goal

pub beyond-returns-in_default : goal.beyond-returns-in_default
beyond-returns-in_default t c = plain-value c.args.path.now c.args.there.now c.in_default.not-Doc c.in_default.not-Array

pub beyond_in_document-returns-in_err-there : goal.beyond_in_document-returns-in_err-there
beyond_in_document-returns-in_err-there t c =
    let names = c.in_ok-component.further.now in
    let name = c.in_ok-component.component.now in
    let d = c.args.document.now in
    let none : None ≡ value_under name d = c.in_err-there.ensures ∙ ap (λ n. value_under n d) c.as_str.ensures.name in
    let here : beyond c.args.path.now (Some (document (fields_of d))) ≡ beyond names (value_under name d) = ap (λ p. beyond p (Some (document (fields_of d)))) c.in_ok-component.ensures.cases.0 ∙ in-document name names d in
    rw c.from_residual-in_err-there.ensures (none-missing names (value_under name d) none ∙ sym here)

pub beyond_in_document-returns : goal.beyond_in_document-returns
beyond_in_document-returns t c =
    let names = c.in_ok-component.further.now in
    let name = c.in_ok-component.component.now in
    let d = c.args.document.now in
    let some : Some (tree c.in_ok-there.there.now) ≡ value_under name d = c.in_ok-there.ensures ∙ ap (λ n. value_under n d) c.as_str.ensures.name in
    let here : beyond c.args.path.now (Some (document (fields_of d))) ≡ beyond names (value_under name d) = ap (λ p. beyond p (Some (document (fields_of d)))) c.in_ok-component.ensures.cases.0 ∙ in-document name names d in
    c.beyond.ensures ∙ ap (beyond names) some ∙ sym here

pub beyond_in_list-returns-in-Some : goal.beyond_in_list-returns-in-Some
beyond_in_list-returns-in-Some t c =
    let names = c.in_ok-component.further.now in
    let name = c.in_ok-component.component.now in
    let vs = c.args.list.now in
    let here : beyond c.args.path.now (Some (array (elements_of vs))) ≡ beyond_array (beyond names) (name ∷ names) (index_of name) vs = ap (λ p. beyond p (Some (array (elements_of vs)))) c.in_ok-component.ensures.cases.0 ∙ in-array name names vs in
    let items = c.as_slice.result.now in
    let there : slice_get vs c.in_ok-place.place ≡ Some (tree c.in-Some.element.now) = rw (← c.as_slice.ensures) (slice_get-map tree items c.in_ok-place.place ∙ ap (option_map tree) (slice_get_read items (length items) c.in_ok-place.place c.in-Some.element.now refl c.in-Some.ensures.lookup.3.0 c.in-Some.ensures.lookup.1)) in
    c.beyond.ensures ∙ at-element names name vs c.in_ok-place.place c.in_ok-place.ensures (tree c.in-Some.element.now) there ∙ sym here

pub beyond_in_list-returns-in-None : goal.beyond_in_list-returns-in-None
beyond_in_list-returns-in-None t c =
    let names = c.in_ok-component.further.now in
    let name = c.in_ok-component.component.now in
    let vs = c.args.list.now in
    let here : beyond c.args.path.now (Some (array (elements_of vs))) ≡ beyond_array (beyond names) (name ∷ names) (index_of name) vs = ap (λ p. beyond p (Some (array (elements_of vs)))) c.in_ok-component.ensures.cases.0 ∙ in-array name names vs in
    let past : length vs ≤ c.in_ok-place.place = rw (← c.as_slice.ensures, length-map) c.in-None.ensures.lookup.3 in
    ap Some c.in_ok-component.ensures.cases.0 ∙ at-end names name vs c.in_ok-place.place c.in_ok-place.ensures (slice_get_past vs c.in_ok-place.place past) c.if-place-le-MOST_FILLED.true ∙ sym here

pub beyond_in_list-returns-in-None-2 : goal.beyond_in_list-returns-in-None-2
beyond_in_list-returns-in-None-2 t c =
    let names = c.in_ok-component.further.now in
    let name = c.in_ok-component.component.now in
    let vs = c.args.list.now in
    let here : beyond c.args.path.now (Some (array (elements_of vs))) ≡ beyond_array (beyond names) (name ∷ names) (index_of name) vs = ap (λ p. beyond p (Some (array (elements_of vs)))) c.in_ok-component.ensures.cases.0 ∙ in-array name names vs in
    let past : length vs ≤ c.in_ok-place.place = rw (← c.as_slice.ensures, length-map) c.in-None.ensures.lookup.3 in
    too-far names name vs c.in_ok-place.place c.in_ok-place.ensures (slice_get_past vs c.in_ok-place.place past) c.if-place-le-MOST_FILLED.false ∙ sym here
