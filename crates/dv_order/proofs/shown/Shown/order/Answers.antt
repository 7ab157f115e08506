-- The order does not see the width of integers.
use Rattle.std.proofs.Common.{◌∙◌, sym}
use Rattle.dv_value.specs.Tree.{array, document, elements_of, fields_of}
use Rattle.dv_order.specs.Key.{key_order}
use Rattle.dv_order.specs.Inner.SameOrder.{order_of_canon}
use Rattle.dv_order.specs.Inner.Sources.{shown_key}
use Rattle.dv_order.proofs.shown.Shown.order.Goals as goal

pub returns-in-Document-Document : goal.returns-in-Document-Document
returns-in-Document-Document c =
    let two = c.in-Document-Document in
    c.compare_documents.ensures
    ∙ sym (order_of_canon (document (fields_of two.a.now)) (document (fields_of two.b.now)))
    ∙ (λ j. key_order (shown_key (sym two.is-0 j)) (shown_key (sym two.is-1 j)))

pub returns-in-Array-Array : goal.returns-in-Array-Array
returns-in-Array-Array c =
    let two = c.in-Array-Array in
    c.compare_lists.ensures
    ∙ sym (order_of_canon (array (elements_of two.a.now)) (array (elements_of two.b.now)))
    ∙ (λ j. key_order (shown_key (sym two.is-0 j)) (shown_key (sym two.is-1 j)))
