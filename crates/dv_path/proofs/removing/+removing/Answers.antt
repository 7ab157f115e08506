use Rattle.std.proofs.Common.{◌≡◌, ◌∙◌, ◌≤◌, ◌∷◌, length, Some, None, map, ap, sym, arith}
use Rattle.std.proofs.lemmas.List.{length-map}
use Rattle.std.specs.Option.{option_map}
use Rattle.dv_value.specs.Tree.{null, document, array, fields_of, elements_of}
use Rattle.dv_value.specs.Names.{value_under, with_value_under, without}
use Rattle.dv_value.specs.View.{tree}
use Rattle.dv_value.specs.Inner.TreeLaws.{fields_again, elements_again}
use Rattle.dv_candidates.specs.Path.{index_of}
use Rattle.dv_path.specs.Removing.{remove_field, remove_element, left_behind}
use Rattle.dv_path.proofs.Exchanged.{left-missing, left-some, left-none}
use Rattle.dv_path.proofs.Vectors.{remove-some, remove-none, remove-past}
use Rattle.dv_path.proofs.removing.+removing.Goals as goal
use Rattle.dv_path.proofs.removing.+removing.Goals.{remove_from_document-in-Some-2+in_ok-put_field_back-in-Some-2, remove_from_document-in-None+in_ok-drop_field-in-None, remove_from_list-then-index-len+in_ok-left+in-Some-2, remove_from_list-then-index-len+in_ok-left+in_default-2, remove_from_list-else-index-len}

pub left_of-returns-in_ok-left-in-Doc : goal.left_of-returns-in_ok-left-in-Doc
left_of-returns-in_ok-left-in-Doc t c =
    let rest = c.in-Some.rest.now in
    let name = c.in-Some.component.now in
    let here : left_behind c.args.rest.now (tree c.args.there) ≡ Some (document (fields_of (remove_field (left_behind rest) name c.in-Doc.document))) = ap (λ p. left_behind p (tree c.args.there)) c.in-Some.ensures.cases.0 ∙ ap (λ w. left_behind (name ∷ rest) (tree w)) c.in-Doc.is ∙ ap (λ fs. Some (document (fields_of (remove_field (left_behind rest) name fs)))) (fields_again c.in-Doc.document) in
    ap (λ fs. Some (document (fields_of fs))) c.in_ok-left-in-Doc.ensures ∙ sym here

pub left_of-returns-in_ok-left-in-Array : goal.left_of-returns-in_ok-left-in-Array
left_of-returns-in_ok-left-in-Array t c =
    let rest = c.in-Some.rest.now in
    let name = c.in-Some.component.now in
    let here : left_behind c.args.rest.now (tree c.args.there) ≡ Some (array (elements_of (remove_element (left_behind rest) (index_of name) c.in-Array.list))) = ap (λ p. left_behind p (tree c.args.there)) c.in-Some.ensures.cases.0 ∙ ap (λ w. left_behind (name ∷ rest) (tree w)) c.in-Array.is ∙ ap (λ vs. Some (array (elements_of (remove_element (left_behind rest) (index_of name) vs)))) (elements_again c.in-Array.list) in
    ap (λ vs. Some (array (elements_of vs))) c.in_ok-left-in-Array.ensures ∙ sym here

pub remove_from_document-returns-in_default : goal.remove_from_document-returns-in_default
remove_from_document-returns-in_default t c =
    let none : None ≡ value_under c.args.component.now c.args.document = ap (option_map tree) (sym c.in_default.is) ∙ c.in_ok-there.ensures.taken in
    c.in_ok-there.ensures.left ∙ left-missing c.args.component.now null c.args.document (left_behind c.args.rest.now) none

pub remove_from_document-returns : goal.remove_from_document-returns
remove_from_document-returns t c =
    let name = c.args.component.now in
    let fs = c.args.document in
    let left = left_behind c.args.rest.now in
    let v = tree c.in-Some.there in
    let there : Some v ≡ value_under name fs = ap (option_map tree) (sym c.in-Some.is) ∙ c.in_ok-there.ensures.taken in
    elim c.match-branch-4.branch [
      | remove_from_document-in-Some-2+in_ok-put_field_back-in-Some-2 w ↦
          let u = tree w.in-Some-2.left in
          w.document-is ∙ w.in_ok-put_field_back-in-Some-2.ensures ∙ ap (with_value_under name u) c.in_ok-there.ensures.left ∙ left-some name null fs left v u there (ap (option_map tree) (sym w.in-Some-2.is) ∙ c.in_ok-left.ensures)
      | remove_from_document-in-None+in_ok-drop_field-in-None w ↦
          w.document-is ∙ w.in_ok-drop_field-in-None.ensures ∙ ap (without name) c.in_ok-there.ensures.left ∙ left-none name null fs left v there (ap (option_map tree) (sym w.in-None.is) ∙ c.in_ok-left.ensures)
    ]

pub remove_from_list-returns : goal.remove_from_list-returns
remove_from_list-returns t c =
    let left = left_behind c.args.rest.now in
    let o = index_of c.args.component.now in
    let index = c.in-Some.index in
    let vs = map tree c.into_inner-values.result.items in
    let seen : map tree c.if-index-len.values.items ≡ remove_element left o vs = elim c.if-index-len.branch [
      | remove_from_list-then-index-len+in_ok-left+in-Some-2 w ↦
          remove-some left o index vs (map tree w.take_element-there.new.values.items) (map tree c.if-index-len.values.items) (tree w.take_element-there.result) (tree w.in-Some-2.left) c.in-Some.ensures w.take_element-there.ensures.taken w.take_element-there.ensures.left (ap (option_map tree) (sym w.in-Some-2.is) ∙ w.in_ok-left.ensures) (ap (λ l. map tree l.items) w.values-is ∙ w.put_element_back.ensures)
      | remove_from_list-then-index-len+in_ok-left+in_default-2 w ↦
          ap (λ l. map tree l.items) w.values-is ∙ remove-none left o index vs (map tree w.take_element-there.new.values.items) (tree w.take_element-there.result) c.in-Some.ensures w.take_element-there.ensures.taken w.take_element-there.ensures.left (ap (option_map tree) (sym w.in_default-2.is) ∙ w.in_ok-left.ensures)
      | remove_from_list-else-index-len w ↦
          let past : length c.into_inner-values.result.items ≤ index = omega arith in
          let past-seen : length vs ≤ index = rw length-map past in
          ap (λ l. map tree l.items) w.values-is ∙ remove-past left o index vs c.in-Some.ensures past-seen
    ] in
    c.of.ensures ∙ seen ∙ ap (remove_element left o) c.into_inner-values.ensures
