-- The rows are those of the elements, in rows that differ in nothing else.
use Rattle.std.proofs.Common.{◌∙◌, ap, false, rules, slice_get, slice_index_or, Some, sym}
use Rattle.std.proofs.lemmas.Result.{IfOk-weaker}
use Rattle.dv_row.specs.Inner.Crossings.{set_on_way}
use Rattle.dv_row.specs.Inner.UnwoundRows.{rows_of_origin}
use Rattle.dv_row.proofs.Alike.{common-elements}
use Rattle.dv_row.proofs.unwound_rows.UnwoundRows.common.Goals as goal

pub returns-in-Elements-Elements : goal.returns-in-Elements-Elements
returns-in-Elements-Elements c =
    let both = c.in-Elements-Elements in
    IfOk-weaker c.same_elements.result _ _ (λ common is i marked.
    ap (λ rows. slice_get rows i) (sym c.self.view_is ∙ ap rows_of_origin both.is-0)
    ∙ common-elements (λ v. set_on_way both.way (Some v)) (λ v. set_on_way both.other_way (Some v)) (c.is_like.ensures (search rules)) both.elements.now both.others.now i (ap (λ marks. slice_index_or marks i false) (sym is) ∙ marked)
    ∙ sym (ap (λ rows. slice_get rows i) (sym c.other.view_is ∙ ap rows_of_origin both.is-1))) c.same_elements.ensures
