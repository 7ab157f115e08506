use Rattle.std.proofs.Common.{◌∙◌, sym}
use Rattle.dv_path.proofs.Placed.{remove-first, remove_nothing}
use Rattle.dv_path.proofs.Slotted.{no-value}
use Rattle.dv_path.proofs.removing.remove_at.Goals as goal
use Rattle.dv_value.specs.Inner.ListLaws.{positive}

pub returns-in_default : goal.returns-in_default
returns-in_default c = sym (remove_nothing c.args.document c.args.path.now (λ w at. no-value c.slot_at.result c.in_default.not-Taken w (c.slot_at.ensures ∙ at)))

pub returns : goal.returns
returns c =
    let names = c.components-components.result.now in
    let path = c.components-components.ensures.components in
    let is = remove-first names c.args.document c.index-components-0.result (positive names (λ none. c.components-components.ensures.some (sym path ∙ none))) c.index-components-0.is in
    rw (← path, ← is, ← c.behind.ensures) c.remove_from_document.ensures
