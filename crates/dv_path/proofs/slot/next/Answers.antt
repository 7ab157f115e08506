use Rattle.std.proofs.Common.{◌≡◌, ◌∙◌, ap, sym}
use Rattle.dv_value.specs.Names.{value_under}
use Rattle.dv_value.specs.View.{tree}
use Rattle.dv_value.specs.Inner.TreeLaws.{fields_again, elements_again}
use Rattle.dv_candidates.specs.Path.{index_of}
use Rattle.dv_path.specs.Slots.{taken, slot_of, next_slot, element_slot}
use Rattle.dv_path.specs.SlotView.{slot_seen}
use Rattle.dv_path.proofs.slot.next.Goals as goal

pub returns-in-Doc : goal.returns-in-Doc
returns-in-Doc c =
    let name = c.args.component.now in
    let here : next_slot name (slot_seen c.args.slot) ≡ slot_of (value_under name c.in-Doc.document) = ap (λ s. next_slot name (slot_seen s)) c.in-Taken.is ∙ ap (λ v. next_slot name (taken (tree v))) c.in-Doc.is ∙ ap (λ fs. slot_of (value_under name fs)) (fields_again c.in-Doc.document) in
    c.field.ensures ∙ sym here

pub returns-in-Array : goal.returns-in-Array
returns-in-Array c =
    let name = c.args.component.now in
    let here : next_slot name (slot_seen c.args.slot) ≡ element_slot (index_of name) c.in-Array.list = ap (λ s. next_slot name (slot_seen s)) c.in-Taken.is ∙ ap (λ v. next_slot name (taken (tree v))) c.in-Array.is ∙ ap (element_slot (index_of name)) (elements_again c.in-Array.list) in
    c.element.ensures ∙ sym here
