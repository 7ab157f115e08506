use Rattle.std.proofs.Common.{◌≡◌, ◌∙◌, ◌∷◌, None, Some, ap, sym, length, ◌≤◌}
use Rattle.std.specs.Result.{result_err}
use Rattle.std.proofs.lemmas.List.{length-map}
use Rattle.std.proofs.lemmas.Option.{slice_get_past}
use Rattle.dv_value.specs.Names.{value_under}
use Rattle.dv_value.specs.View.{tree}
use Rattle.dv_candidates.specs.Path.{index_of}
use Rattle.dv_path.specs.Placing.{put_behind, put_element}
use Rattle.dv_path.proofs.Refused.{missing, refused-missing, refused-in-document, refused-in-array, refused-near}
use Rattle.dv_path.proofs.refusing.+refusing.Goals as goal

pub refusal_behind-returns-in_err-get-in-Doc : goal.refusal_behind-returns-in_err-get-in-Doc
refusal_behind-returns-in_err-get-in-Doc t c = λ v.
    let rest = c.in_ok-component.rest.now in
    let name = c.in_ok-component.component.now in
    let d = c.in-Doc.document in
    let here : result_err (put_behind c.args.rest.now v (Some (tree c.args.there.now))) ≡ result_err (put_behind rest v (value_under name d)) = ap (λ p. result_err (put_behind p v (Some (tree c.args.there.now)))) c.in_ok-component.ensures.cases.0 ∙ ap (λ w. result_err (put_behind (name ∷ rest) v (Some (tree w)))) c.in-Doc.is ∙ refused-in-document rest v name d in
    let none : None ≡ value_under name d = c.in_err-get-in-Doc.ensures ∙ ap (λ n. value_under n d) c.as_str.ensures.name in
    rw c.from_residual-in_err-get-in-Doc.ensures (refused-missing rest v (value_under name d) none ∙ sym here)

pub refusal_behind-returns-in_ok-get-in-Doc : goal.refusal_behind-returns-in_ok-get-in-Doc
refusal_behind-returns-in_ok-get-in-Doc t c = λ v.
    let rest = c.in_ok-component.rest.now in
    let name = c.in_ok-component.component.now in
    let d = c.in-Doc.document in
    let here : result_err (put_behind c.args.rest.now v (Some (tree c.args.there.now))) ≡ result_err (put_behind rest v (value_under name d)) = ap (λ p. result_err (put_behind p v (Some (tree c.args.there.now)))) c.in_ok-component.ensures.cases.0 ∙ ap (λ w. result_err (put_behind (name ∷ rest) v (Some (tree w)))) c.in-Doc.is ∙ refused-in-document rest v name d in
    let some : Some (tree c.in_ok-get-in-Doc.field-0.now) ≡ value_under name d = c.in_ok-get-in-Doc.ensures ∙ ap (λ n. value_under n d) c.as_str.ensures.name in
    c.refusal_behind.ensures v ∙ ap (λ o. result_err (put_behind rest v o)) some ∙ sym here

pub refusal_behind-returns-in-Array : goal.refusal_behind-returns-in-Array
refusal_behind-returns-in-Array t c = λ v.
    let rest = c.in_ok-component.rest.now in
    let name = c.in_ok-component.component.now in
    let list = c.in-Array.list in
    let here : result_err (put_behind c.args.rest.now v (Some (tree c.args.there.now))) ≡ result_err (put_element (put_behind rest v) (index_of name) list) = ap (λ p. result_err (put_behind p v (Some (tree c.args.there.now)))) c.in_ok-component.ensures.cases.0 ∙ ap (λ w. result_err (put_behind (name ∷ rest) v (Some (tree w)))) c.in-Array.is ∙ refused-in-array rest v name list in
    c.refusal_in_list.ensures v ∙ sym here

pub refusal_in_list-returns-in-None : goal.refusal_in_list-returns-in-None
refusal_in_list-returns-in-None t c = λ v.
    let vs = c.args.list.now in
    let past : length vs ≤ c.in-Some.index = rw (← c.as_slice.ensures, length-map) c.in-None.ensures.lookup.3 in
    let put = put_behind c.args.rest.now v in
    sym (refused-near put (index_of c.args.component.now) c.in-Some.index vs c.in-Some.ensures (slice_get_past vs c.in-Some.index past) c.if-index-le-MOST_BEYOND.true ∙ missing c.args.rest.now v)
