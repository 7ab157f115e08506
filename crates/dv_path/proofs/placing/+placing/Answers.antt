use Rattle.std.proofs.Common.{◌≡◌, ◌∙◌, ◌≤◌, ◌++◌, ◌∷◌, [], length, Some, None, Ok, Err, map, ap, sym, rules, arith}
use Rattle.std.proofs.lemmas.List.{length-map}
use Rattle.std.specs.Option.{option_map}
use Rattle.dv_value.specs.Tree.{null, document, array, fields_of, elements_of}
use Rattle.dv_value.specs.Names.{value_under, has_name, with_value_under}
use Rattle.dv_value.specs.View.{tree}
use Rattle.dv_value.specs.Inner.TreeLaws.{fields_again, elements_again}
use Rattle.dv_candidates.specs.Path.{index_of}
use Rattle.dv_path.specs.Placing.{result_map, put_field, put_element, put_behind}
use Rattle.dv_path.proofs.Exchanged.{same-fields, nameless, put-new, put-there}
use Rattle.dv_path.proofs.Vectors.{list-there, list-new, gives-refused}
use Rattle.dv_path.proofs.placing.+placing.Goals as goal
use Rattle.dv_path.proofs.placing.+placing.Goals.{put_into_list-then-index-len+in_ok-put, put_into_list-else-index-len+then-index-le-MOST_BEYOND+in_ok-put-2+in_ok-add_element}

pub put_into_document-add_field-requires : goal.put_into_document-add_field-requires
put_into_document-add_field-requires t c =
    let name = c.args.component.now in
    let none : None ≡ value_under name c.args.document = ap (option_map tree) (sym c.in_default.is) ∙ c.in_ok-there.ensures.taken in
    ap (has_name name) (c.in_ok-there.ensures.left ∙ same-fields name null c.args.document (sym none)) ∙ nameless name c.args.document (sym none)

pub put_into_document-returns-in_default : goal.put_into_document-returns-in_default
put_into_document-returns-in_default t c =
    let name = c.args.component.now in
    let none : None ≡ value_under name c.args.document = ap (option_map tree) (sym c.in_default.is) ∙ c.in_ok-there.ensures.taken in
    put-new name null c.args.document (put_behind c.args.rest.now (tree c.args.value)) (tree c.in_ok-put.put) none c.in_ok-put.ensures ∙ ap Ok (sym (c.in_ok-add_field.ensures ∙ ap (λ fs. fs ++ (name, tree c.in_ok-put.put) ∷ []) c.in_ok-there.ensures.left))

pub put_into_document-returns : goal.put_into_document-returns
put_into_document-returns t c =
    let name = c.args.component.now in
    let there : Some (tree c.in-Some.there) ≡ value_under name c.args.document = ap (option_map tree) (sym c.in-Some.is) ∙ c.in_ok-there.ensures.taken in
    put-there name null c.args.document (put_behind c.args.rest.now (tree c.args.value)) (tree c.in-Some.there) (tree c.in_ok-put-2.put) there c.in_ok-put-2.ensures ∙ ap Ok (sym (c.in_ok-put_field_back.ensures ∙ ap (with_value_under name (tree c.in_ok-put-2.put)) c.in_ok-there.ensures.left))

pub put_into_list-returns : goal.put_into_list-returns
put_into_list-returns t c =
    let inner = put_behind c.args.rest.now (tree c.args.value) in
    let o = index_of c.args.component.now in
    let index = c.in-Some.index in
    let vs = map tree c.into_inner-values.result.items in
    ap (put_element inner o) (sym c.into_inner-values.ensures) ∙ elim c.if-index-len.branch [
      | put_into_list-then-index-len+in_ok-put w ↦
          list-there inner o index vs (map tree w.take_element-there.new.values.items) c.of.result (tree w.take_element-there.result) (tree w.in_ok-put.put) c.in-Some.ensures w.take_element-there.ensures.taken w.take_element-there.ensures.left w.in_ok-put.ensures (c.of.ensures ∙ ap (λ l. map tree l.items) w.values-is ∙ w.put_element_back.ensures)
      | put_into_list-else-index-len+then-index-le-MOST_BEYOND+in_ok-put-2+in_ok-add_element w ↦
          let past : length c.into_inner-values.result.items ≤ index = omega arith in
          let past-seen : length vs ≤ index = rw length-map past in
          let within : index ≤ 100000 = omega arith in
          list-new inner o index vs c.of.result (tree w.in_ok-put-2.put) c.in-Some.ensures past-seen within w.in_ok-put-2.ensures (c.of.ensures ∙ ap (λ l. map tree l.items) w.values-is ∙ w.in_ok-add_element.ensures)
    ]

pub put_into_value-returns-in_err-changed-in-Doc : goal.put_into_value-returns-in_err-changed-in-Doc
put_into_value-returns-in_err-changed-in-Doc t c =
    let rest = c.in-Some.rest.now in
    let name = c.in-Some.component.now in
    let v = tree c.args.value in
    let e = c.in_err-changed-in-Doc.field-0.0 in
    let here : put_behind c.args.rest.now v (Some (tree c.args.there)) ≡ result_map (λ fs. document (fields_of fs)) (put_field (put_behind rest v) name c.in-Doc.document) = ap (λ p. put_behind p v (Some (tree c.args.there))) c.in-Some.ensures.cases.0 ∙ ap (λ w. put_behind (name ∷ rest) v (Some (tree w))) c.in-Doc.is ∙ ap (λ fs. result_map (λ gs. document (fields_of gs)) (put_field (put_behind rest v) name fs)) (fields_again c.in-Doc.document) in
    let told : c.from_residual.result ≡ Err e = search (rules, c.from_residual.ensures) in
    gives-refused (λ fs. document (fields_of fs)) tree c.from_residual.result e (put_field (put_behind rest v) name c.in-Doc.document) (put_behind c.args.rest.now v (Some (tree c.args.there))) told here c.in_err-changed-in-Doc.ensures

pub put_into_value-returns-in-Doc : goal.put_into_value-returns-in-Doc
put_into_value-returns-in-Doc t c =
    let rest = c.in-Some.rest.now in
    let name = c.in-Some.component.now in
    let v = tree c.args.value in
    let here : put_behind c.args.rest.now v (Some (tree c.args.there)) ≡ result_map (λ fs. document (fields_of fs)) (put_field (put_behind rest v) name c.in-Doc.document) = ap (λ p. put_behind p v (Some (tree c.args.there))) c.in-Some.ensures.cases.0 ∙ ap (λ w. put_behind (name ∷ rest) v (Some (tree w))) c.in-Doc.is ∙ ap (λ fs. result_map (λ gs. document (fields_of gs)) (put_field (put_behind rest v) name fs)) (fields_again c.in-Doc.document) in
    here ∙ ap (result_map (λ fs. document (fields_of fs))) c.in_ok-changed-in-Doc.ensures

pub put_into_value-returns-in_err-changed-in-Array : goal.put_into_value-returns-in_err-changed-in-Array
put_into_value-returns-in_err-changed-in-Array t c =
    let rest = c.in-Some.rest.now in
    let name = c.in-Some.component.now in
    let v = tree c.args.value in
    let e = c.in_err-changed-in-Array.field-0.0 in
    let here : put_behind c.args.rest.now v (Some (tree c.args.there)) ≡ result_map (λ vs. array (elements_of vs)) (put_element (put_behind rest v) (index_of name) c.in-Array.list) = ap (λ p. put_behind p v (Some (tree c.args.there))) c.in-Some.ensures.cases.0 ∙ ap (λ w. put_behind (name ∷ rest) v (Some (tree w))) c.in-Array.is ∙ ap (λ vs. result_map (λ ws. array (elements_of ws)) (put_element (put_behind rest v) (index_of name) vs)) (elements_again c.in-Array.list) in
    let told : c.from_residual-in_err-changed-in-Array.result ≡ Err e = search (rules, c.from_residual-in_err-changed-in-Array.ensures) in
    gives-refused (λ vs. array (elements_of vs)) tree c.from_residual-in_err-changed-in-Array.result e (put_element (put_behind rest v) (index_of name) c.in-Array.list) (put_behind c.args.rest.now v (Some (tree c.args.there))) told here c.in_err-changed-in-Array.ensures

pub put_into_value-returns-in-Array : goal.put_into_value-returns-in-Array
put_into_value-returns-in-Array t c =
    let rest = c.in-Some.rest.now in
    let name = c.in-Some.component.now in
    let v = tree c.args.value in
    let here : put_behind c.args.rest.now v (Some (tree c.args.there)) ≡ result_map (λ vs. array (elements_of vs)) (put_element (put_behind rest v) (index_of name) c.in-Array.list) = ap (λ p. put_behind p v (Some (tree c.args.there))) c.in-Some.ensures.cases.0 ∙ ap (λ w. put_behind (name ∷ rest) v (Some (tree w))) c.in-Array.is ∙ ap (λ vs. result_map (λ ws. array (elements_of ws)) (put_element (put_behind rest v) (index_of name) vs)) (elements_again c.in-Array.list) in
    here ∙ ap (result_map (λ vs. array (elements_of vs))) c.in_ok-changed-in-Array.ensures
