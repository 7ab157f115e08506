use Rattle.std.proofs.Common.{◌≡◌, ◌∙◌, ◌+◌, ◌-◌, ◌++◌, ◌∷◌, [], ap, sym, subst, map, Some, drop, take, arith, append-nil}
use Rattle.std.proofs.lemmas.List.{map-append}
use Rattle.std.specs.Option.{option_map, option_to_list}
use Rattle.dv_value.specs.Tree.{Field, document, array, fields_of, elements_of, list_of_elements}
use Rattle.dv_value.specs.View.{tree}
use Rattle.dv_value.specs.Inner.Weight.{value_weighs_less}
use Rattle.dv_value.specs.Inner.ListLaws.{take-read}
use Rattle.dv_value.specs.Inner.TreeLaws.{fields_back, elements_back}
use Rattle.dv_row.specs.declared.level.Level.{Level}
use Rattle.dv_row.specs.Expressions.{with_field_behind}
use Rattle.dv_row.specs.Projecting.{paths_behind, left_of_value, left_inside, fields_left, elements_left}
use Rattle.dv_row.specs.Inner.Turns.{left_behind, IsFresh}
use Rattle.dv_row.proofs.Left.{single, elements-left_more}
use Rattle.dv_row.proofs.Turning.{entered, going-first, going-in, going-out, gone, in-smaller, out-smaller, left-next, left-past, value-here, weighs-less, weighs-next}
use Rattle.dv_row.proofs.project.+left.Goals as goal
use Rattle.dv_row.proofs.project.+left.Goals.{list_left-in-Some+in_ok-push, list_left-in_default, go_on-then-stays+in_ok-show_field, go_on-else-stays+in_ok-kept+in_ok-push_field}

pub document_left-turns-init : goal.document_left-turns-init
document_left-turns-init t c =
    going-first c.args.keeps c.args.ways.now c.args.document.now c.in_ok-level.level c.new-around.result.items (subst (λ ways. IsFresh ways c.args.document.now c.in_ok-level.level) c.same.ensures c.in_ok-level.ensures) c.new-around.ensures.items

pub document_left-turns-smaller-in-Entered : goal.document_left-turns-smaller-in-Entered
document_left-turns-smaller-in-Entered t c =
    let turn = rw c.in-Entered.is at c.in_ok-outer.ensures.turn in
    in-smaller c.args.keeps c.args.ways.now c.args.document.now c.turns.around.items c.turns.level c.turns.invariant c.in-Entered.outer c.in-Entered.inner turn c.push.new.self.items c.in_ok-push-in-Entered.ensures.items

pub document_left-turns-preserved-in-Entered : goal.document_left-turns-preserved-in-Entered
document_left-turns-preserved-in-Entered t c =
    let turn = rw c.in-Entered.is at c.in_ok-outer.ensures.turn in
    going-in c.args.keeps c.args.ways.now c.args.document.now c.turns.around.items c.turns.level c.turns.invariant c.in-Entered.outer c.in-Entered.inner turn c.push.new.self.items c.in_ok-push-in-Entered.ensures.items c.go_on.ensures.named

pub document_left-turns-smaller : goal.document_left-turns-smaller
document_left-turns-smaller t c =
    let ended = rw c.in-Ended.is at c.in_ok-outer.ensures.turn in
    let next = c.in_ok-level-in-Ended.level in
    out-smaller c.args.keeps c.args.ways.now c.args.document.now c.turns.around.items c.turns.level c.turns.invariant c.in-Ended.left ended c.in-Some.outer next c.pop.new.self.items c.in-Some.ensures.items c.in_ok-level-in-Ended.ensures.further

pub document_left-turns-preserved : goal.document_left-turns-preserved
document_left-turns-preserved t c =
    let ended = rw c.in-Ended.is at c.in_ok-outer.ensures.turn in
    let next = c.in_ok-level-in-Ended.level in
    going-out c.args.keeps c.args.ways.now c.args.document.now c.turns.around.items c.turns.level c.turns.invariant c.in-Ended.left ended c.in-Some.outer next c.pop.new.self.items c.in-Some.ensures.items c.in_ok-level-in-Ended.ensures.further c.go_on.ensures.named (c.in_ok-level-in-Ended.ensures.left c.args.keeps)

pub document_left-returns-in_default : goal.document_left-returns-in_default
document_left-returns-in_default t c =
    let ended = rw c.in-Ended.is at c.in_ok-outer.ensures.turn in
    let none = rw c.in_default.is at c.pop.ensures.cases in
    let around = c.turns.around.items in
    let rest = c.pop.new.self.items in
    let popped : around ≡ [] = c.pop.ensures.items ∙ ap (λ o. rest ++ option_to_list o) c.in_default.is ∙ append-nil rest ∙ c.pop.ensures.rest ∙ ap (λ n. take (n - 1) around) none.0 in
    gone c.args.keeps c.args.ways.now c.args.document.now around c.turns.level c.turns.invariant c.in-Ended.left ended c.go_on.ensures.named popped

pub go_on-returns-in-Some-clause-turn : goal.go_on-returns-in-Some-clause-turn
go_on-returns-in-Some-clause-turn t c =
    let keeps = c.args.keeps in
    let inside = c.in-Some.inner.now in
    let inner = c.in_ok-inner.inner in
    let f : Field = (c.field.result.0.now, tree c.field.result.1.now) in
    let outer : Level = record { ways = c.args.level.ways; document = c.args.level.document; place = c.fields.place; left = c.fields.left } in
    let behind = c.behind-behind.ensures in
    entered keeps c.args.level outer inner f (sym c.field.ensures) inside
    (subst (λ ways. IsFresh ways inside inner) behind c.in_ok-inner.ensures) c.in-Some.ensures.document c.fields.invariant
    (weighs-less c.args.level.document.now c.args.level.place c.fields.place c.fields.auto.place)
    (subst (λ ways. left_of_value keeps ways f.1 ≡ left_inside keeps ways f.1) behind (c.in-Some.ensures.inside keeps))

pub go_on-value_left-requires : goal.go_on-value_left-requires
go_on-value_left-requires t c =
    let d = c.args.level.document.now in
    let f : Field = (c.field.result.0.now, tree c.field.result.1.now) in
    (omega (arith, weighs-next d c.fields.place f (sym c.field.ensures), weighs-less d c.args.level.place c.fields.place c.fields.auto.place), tt)

pub go_on-fields-preserved : goal.go_on-fields-preserved
go_on-fields-preserved t c =
    let keeps = c.args.keeps in
    let ways = c.args.level.ways in
    let d = c.args.level.document.now in
    let f : Field = (c.field.result.0.now, tree c.field.result.1.now) in
    let here = sym c.field.ensures in
    let behind = ap (λ ws. left_of_value keeps ws f.1) c.behind-behind.ensures in
    let left = c.fields.left in
    let pushed : c.if-stays.left ≡ with_field_behind f.0 (left_of_value keeps (paths_behind f.0 ways) f.1) left =
    elim c.if-stays.branch [
      | go_on-then-stays+in_ok-show_field w ↦ w.left-is ∙ w.in_ok-show_field.ensures.ok ∙ ap (λ k. with_field_behind f.0 k left) (ap Some (value-here d c.fields.place f here) ∙ sym (c.stays.ensures w.if-stays.true f.1) ∙ behind)
      | go_on-else-stays+in_ok-kept+in_ok-push_field w ↦ w.left-is ∙ w.in_ok-push_field.ensures.ok ∙ ap (λ k. with_field_behind f.0 k left) (w.in_ok-kept.ensures ∙ behind)
    ] in
    c.fields.invariant ∙ left-next keeps ways d c.fields.place f left here ∙ ap (left_behind keeps ways (drop (c.fields.place + 1) d)) (sym pushed)

pub go_on-returns-clause-turn : goal.go_on-returns-clause-turn
go_on-returns-clause-turn t c =
    c.fields.invariant ∙ left-past c.args.keeps c.args.level.ways c.args.level.document.now c.fields.place c.fields.left (omega (arith, c.len-place-end.ensures.len))

pub left_inside-returns-in_ok-left-in-Doc : goal.left_inside-returns-in_ok-left-in-Doc
unfolding left_inside
left_inside-returns-in_ok-left-in-Doc t c =
    let ways = c.args.ways.now in
    ap (λ fs. Some (document (fields_of fs))) c.in_ok-left-in-Doc.ensures ∙ ap (λ fs. Some (document fs)) (fields_back (fields_left c.args.keeps ways (fields_of c.in-Doc.document))) ∙ sym (ap (λ v. left_inside c.args.keeps ways (tree v)) c.in-Doc.is)

pub left_inside-returns-in_ok-left-in-Array : goal.left_inside-returns-in_ok-left-in-Array
unfolding left_inside
left_inside-returns-in_ok-left-in-Array t c =
    let ways = c.args.ways.now in
    ap (λ vs. Some (array (elements_of vs))) c.in_ok-left-in-Array.ensures ∙ ap (λ vs. Some (array vs)) (elements_back (elements_left c.args.keeps ways (elements_of c.in-Array.list))) ∙ sym (ap (λ v. left_inside c.args.keeps ways (tree v)) c.in-Array.is)

pub list_left-elements-init : goal.list_left-elements-init
unfolding elements_left
list_left-elements-init t c = ap (map tree) c.new-left.ensures.items

pub list_left-left_inside-requires : goal.list_left-left_inside-requires
list_left-left_inside-requires t c =
    (omega (arith, value_weighs_less c.as_slice-element-items.result.now c.args.list.now c.elements.element-index c.element-item.result c.as_slice-element-items.ensures c.elements-test.true c.element-item.is), tt)

pub list_left-elements-preserved : goal.list_left-elements-preserved
list_left-elements-preserved t c =
    let keeps = c.args.keeps in
    let ways = c.args.ways.now in
    let items = c.as_slice-element-items.result.now in
    let i = c.elements.element-index in
    let x = c.element-item.result in
    let before = map tree c.elements.left.items in
    let kept : left_inside keeps ways (tree x) ≡ option_map tree c.in_ok-kept.field-0 = sym c.in_ok-kept.ensures in
    let pushed : map tree c.match-branch-2.left.items ≡ before ++ single (left_inside keeps ways (tree x)) =
    elim c.match-branch-2.branch [
      | list_left-in-Some+in_ok-push w ↦ ap (λ v. map tree v.items) w.left-is ∙ ap (map tree) w.in_ok-push.ensures.items ∙ map-append tree c.elements.left.items (w.in-Some.kept ∷ []) ∙ ap (λ k. before ++ single k) (sym (kept ∙ ap (option_map tree) w.in-Some.is))
      | list_left-in_default w ↦ ap (λ v. map tree v.items) w.left-is ∙ sym (append-nil before) ∙ ap (λ k. before ++ single k) (sym (kept ∙ ap (option_map tree) w.in_default.is))
    ] in
    pushed ∙ ap (λ l. l ++ single (left_inside keeps ways (tree x))) c.elements.invariant ∙ sym (elements-left_more keeps ways (map tree (take i items)) (tree x)) ∙ ap (λ l. list_of_elements (elements_left keeps ways (elements_of l))) (sym (ap (map tree) (take-read items i x c.elements-test.true c.element-item.is) ∙ map-append tree (take i items) (x ∷ [])))
