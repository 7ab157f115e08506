use Rattle.std.proofs.Common.{◌∙◌, drop, ap, sym, ◌+◌}
use Rattle.dv_path.specs.Slots.{slot, slot_behind}
use Rattle.dv_path.specs.SlotView.{slot_seen}
use Rattle.dv_path.proofs.Slotted.{slot-first, slot-more, slot-end}
use Rattle.dv_path.proofs.slot.slot_at.Goals as goal
use Rattle.dv_value.specs.Inner.ListLaws.{positive}

pub loop-component-init : goal.loop-component-init
loop-component-init c =
    let names = c.components-components.result.now in
    ap (λ ns. slot_behind ns (slot_seen c.field-slot.result)) c.behind-component-items.ensures ∙ ap (slot_behind (drop 1 names)) c.field-slot.ensures ∙ slot-first names c.args.document.now c.index-components-0.result (positive names (λ none. c.components-components.ensures.some (sym c.components-components.ensures.components ∙ none))) c.index-components-0.is ∙ ap (slot c.args.document.now) c.components-components.ensures.components

pub loop-component-preserved : goal.loop-component-preserved
loop-component-preserved c =
    let names = c.behind-component-items.result.now in
    let i = c.loop-component.component-index in
    ap (slot_behind (drop (i + 1) names)) c.next-slot.ensures ∙ slot-more names i c.component-item.result (slot_seen c.loop-component.slot) c.loop-component-test.true c.component-item.is ∙ c.loop-component.invariant

pub returns : goal.returns
returns c = sym (slot-end c.behind-component-items.result.now c.loop-component.component-index (slot_seen c.loop-component.slot) c.loop-component-test.false) ∙ c.loop-component.invariant
