use Rattle.std.proofs.Common.{◌≡◌, ◌∙◌, ◌+◌, ◌≤◌, Some, None, length, map, drop, drop_of_length-le, ap, sym, refl, subst, arith, ℕ, List}
use Rattle.std.proofs.lemmas.List.{length-map}
use Rattle.std.specs.Option.{option_map}
use Rattle.dv_value.specs.Tree.{Tree, null, document, array, fields_of, elements_of}
use Rattle.dv_value.specs.Names.{value_under, with_value_under}
use Rattle.dv_value.specs.View.{tree}
use Rattle.dv_path.specs.Inner.GroupView.{group}
use Rattle.dv_path.specs.declared.grouping.Group.{Group}
use Rattle.dv_path.specs.Inner.Groups.{left_of_each, remove_each_element, with_groups, elements_with_groups, IsGrouping}
use Rattle.dv_candidates.specs.Path.{index_of}
use Rattle.dv_path.specs.Removing.{remove_field, remove_element}
use Rattle.dv_path.proofs.Exchanged.{left-missing, left-some}
use Rattle.dv_path.proofs.Grouped.{open-in-document, done-in-document, open-in-array, done-in-array, open-apart, open-less, open-on, group-drop, inside-document, inside-array, inside-other, apart-some, apart-gone}
use Rattle.dv_path.proofs.Together.{lent}
use Rattle.dv_path.proofs.Vectors.{remove-some, remove-past}
use Rattle.dv_path.proofs.removing_each.+together.Goals as goal

-- the groups as the loop visits them
in-these : (paths : List (List (List ℕ))) (groups items : List Group) → items ≡ groups → IsGrouping (map group groups) paths → IsGrouping (map group items) paths
in-these paths groups items is grouping = let P : List Group → Type 0 = λ gs. IsGrouping (map group gs) paths in subst P (sym is) grouping

pub left_of-returns-then-goes_itself : goal.left_of-returns-then-goes_itself
left_of-returns-then-goes_itself t c = sym (apart-gone (lent c.args.paths.now) (tree c.args.there) c.requires (sym c.if-goes_itself.ensures))

pub left_of-returns-in_ok-left-in-Doc : goal.left_of-returns-in_ok-left-in-Doc
left_of-returns-in_ok-left-in-Doc t c =
    let paths = lent c.args.paths.now in
    ap (λ fs. document (fields_of fs)) c.in_ok-left-in-Doc.ensures
    ∙ sym (inside-document paths c.in-Doc.document (apart-some paths c.requires (sym c.if-goes_itself.ensures)))
    ∙ ap (λ w. left_of_each paths (tree w)) (sym c.in-Doc.is)

pub left_of-returns-in_ok-left-in-Array : goal.left_of-returns-in_ok-left-in-Array
left_of-returns-in_ok-left-in-Array t c =
    let paths = lent c.args.paths.now in
    ap (λ vs. array (elements_of vs)) c.in_ok-left-in-Array.ensures
    ∙ sym (inside-array paths c.in-Array.list (apart-some paths c.requires (sym c.if-goes_itself.ensures)))
    ∙ ap (λ w. left_of_each paths (tree w)) (sym c.in-Array.is)

pub left_of-returns-in_default : goal.left_of-returns-in_default
left_of-returns-in_default t c =
    let paths = lent c.args.paths.now in
    sym (inside-other paths c.args.there (apart-some paths c.requires (sym c.if-goes_itself.ensures)) c.in_default.not-Doc c.in_default.not-Array)

pub remove_from_document-groups-init : goal.remove_from_document-groups-init
remove_from_document-groups-init t c =
    (refl, open-in-document (lent c.args.paths.now) (lent c.deref.result.now) (map group c.deref-group-items.result.now) (ap lent c.deref.ensures.value ∙ c.in_ok-further.ensures) (in-these (lent c.deref.result.now) c.in_ok-groups.groups.items c.deref-group-items.result.now c.deref-group-items.ensures.value c.in_ok-groups.ensures) c.requires)

pub remove_from_document-remove_from_field-requires : goal.remove_from_document-remove_from_field-requires
remove_from_document-remove_from_field-requires t c =
    let g = c.group-item.result in
    let rest = map group (drop (c.groups.group-index + 1) c.deref-group-items.result.now) in
    let head = group-drop c.deref-group-items.result.now c.groups.group-index g c.groups-test.true c.group-item.is in
    let less = open-less (group g) _ rest head c.groups.invariant.1 in
    let apart = open-apart (group g) _ rest head c.groups.invariant.1 in
    (omega (arith, less), apart)

pub remove_from_document-groups-preserved : goal.remove_from_document-groups-preserved
remove_from_document-groups-preserved t c =
    let g = c.group-item.result in
    let rest = map group (drop (c.groups.group-index + 1) c.deref-group-items.result.now) in
    let head = group-drop c.deref-group-items.result.now c.groups.group-index g c.groups-test.true c.group-item.is in
    (ap (λ fs. with_groups fs rest) c.in_ok-changed-2.ensures ∙ ap (with_groups c.groups.changed) (sym head) ∙ c.groups.invariant.0, open-on (group g) _ rest head c.groups.invariant.1)

pub remove_from_document-returns : goal.remove_from_document-returns
remove_from_document-returns t c =
    let groups = c.deref-group-items.result.now in
    sym (ap (λ l. with_groups c.groups.changed (map group l)) (drop_of_length-le groups c.groups-test.false))
    ∙ c.groups.invariant.0
    ∙ done-in-document (lent c.args.paths.now) (lent c.deref.result.now) (map group groups) (ap lent c.deref.ensures.value ∙ c.in_ok-further.ensures) (in-these (lent c.deref.result.now) c.in_ok-groups.groups.items c.deref-group-items.result.now c.deref-group-items.ensures.value c.in_ok-groups.ensures) c.requires c.in_ok-changed.changed c.args.document c.in_ok-changed.ensures

pub remove_from_element-returns-in_ok-left : goal.remove_from_element-returns-in_ok-left
remove_from_element-returns-in_ok-left t c =
    let rests = (group c.args.group.now).1 in
    let left = λ (v : Tree). Some (left_of_each rests v) in
    let vs = map tree c.args.values.now.items in
    let v = tree c.take_element-there.result in
    let name = c.component-component.result.now in
    remove-some left (index_of name) c.in-Some.index vs (map tree c.take_element-there.new.values.items) (map tree c.put_element_back.new.values.items) v (tree c.in_ok-left.left) c.in-Some.ensures c.take_element-there.ensures.taken c.take_element-there.ensures.left (ap Some (c.in_ok-left.ensures ∙ ap (λ l. left_of_each l v) c.rests.ensures)) c.put_element_back.ensures
    ∙ ap (λ n. remove_element left (index_of n) vs) c.component-component.ensures

pub remove_from_element-returns-else-index-len : goal.remove_from_element-returns-else-index-len
remove_from_element-returns-else-index-len t c =
    let left = λ (v : Tree). Some (left_of_each (group c.args.group.now).1 v) in
    let vs = map tree c.args.values.now.items in
    let past : length c.args.values.now.items ≤ c.in-Some.index = omega arith in
    let past-seen : length vs ≤ c.in-Some.index = rw length-map past in
    remove-past left (index_of c.component-component.result.now) c.in-Some.index vs c.in-Some.ensures past-seen
    ∙ ap (λ n. remove_element left (index_of n) vs) c.component-component.ensures

pub remove_from_field-returns-in_default : goal.remove_from_field-returns-in_default
remove_from_field-returns-in_default t c =
    let left = λ (v : Tree). Some (left_of_each (group c.args.group.now).1 v) in
    let name = c.component-component.result.now in
    let none : None ≡ value_under name c.args.document = ap (option_map tree) (sym c.in_default.is) ∙ c.in_ok-there.ensures.taken in
    c.in_ok-there.ensures.left
    ∙ left-missing name null c.args.document left none
    ∙ ap (λ n. remove_field left n c.args.document) c.component-component.ensures

pub remove_from_field-returns : goal.remove_from_field-returns
remove_from_field-returns t c =
    let left = λ (v : Tree). Some (left_of_each (group c.args.group.now).1 v) in
    let name = c.component-component.result.now in
    let fs = c.args.document in
    let v = tree c.in-Some.there in
    let u = tree c.in_ok-left.left in
    let there : Some v ≡ value_under name fs = ap (option_map tree) (sym c.in-Some.is) ∙ c.in_ok-there.ensures.taken in
    c.in_ok-put_field_back.ensures
    ∙ ap (with_value_under name u) c.in_ok-there.ensures.left
    ∙ left-some name null fs left v u there (ap Some (c.in_ok-left.ensures ∙ ap (λ l. left_of_each l v) c.rests.ensures))
    ∙ ap (λ n. remove_field left n fs) c.component-component.ensures

pub remove_from_list-groups-init : goal.remove_from_list-groups-init
remove_from_list-groups-init t c =
    (refl, open-in-array (lent c.args.paths.now) (map group c.deref-group-items.result.now) (in-these (lent c.args.paths.now) c.in_ok-groups.groups.items c.deref-group-items.result.now c.deref-group-items.ensures.value c.in_ok-groups.ensures) c.requires)

pub remove_from_list-remove_from_element-requires : goal.remove_from_list-remove_from_element-requires
remove_from_list-remove_from_element-requires t c =
    let g = c.group-item.result in
    let rest = map group (drop (c.groups.group-index + 1) c.deref-group-items.result.now) in
    let head = group-drop c.deref-group-items.result.now c.groups.group-index g c.groups-test.true c.group-item.is in
    let less = open-less (group g) _ rest head c.groups.invariant.1 in
    let apart = open-apart (group g) _ rest head c.groups.invariant.1 in
    (omega (arith, less), apart)

pub remove_from_list-groups-preserved : goal.remove_from_list-groups-preserved
remove_from_list-groups-preserved t c =
    let g = c.group-item.result in
    let rest = map group (drop (c.groups.group-index + 1) c.deref-group-items.result.now) in
    let head = group-drop c.deref-group-items.result.now c.groups.group-index g c.groups-test.true c.group-item.is in
    (ap (λ vs. elements_with_groups vs rest) c.in_ok-remove_from_element.ensures ∙ ap (elements_with_groups (map tree c.groups.values.items)) (sym head) ∙ c.groups.invariant.0, open-on (group g) _ rest head c.groups.invariant.1)

pub remove_from_list-returns : goal.remove_from_list-returns
remove_from_list-returns t c =
    let groups = c.deref-group-items.result.now in
    let paths = lent c.args.paths.now in
    c.of.ensures
    ∙ sym (ap (λ l. elements_with_groups (map tree c.groups.values.items) (map group l)) (drop_of_length-le groups c.groups-test.false))
    ∙ c.groups.invariant.0
    ∙ done-in-array paths (map group groups) (in-these (lent c.args.paths.now) c.in_ok-groups.groups.items c.deref-group-items.result.now c.deref-group-items.ensures.value c.in_ok-groups.ensures) c.requires (map tree c.into_inner-values.result.items)
    ∙ ap (λ vs. remove_each_element vs paths) c.into_inner-values.ensures
