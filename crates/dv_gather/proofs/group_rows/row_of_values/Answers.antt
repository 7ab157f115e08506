-- The names of the lender are those of the row, and each has a value.
use Rattle.std.proofs.Common.{◌≡◌, ◌∙◌, map, arith}
use Rattle.std.proofs.lemmas.List.{length-map}
use Rattle.dv_value.specs.View.{tree}
use Rattle.dv_gather.specs.Inner.GroupStates.{row_of_values}
use Rattle.dv_gather.specs.Inner.GroupView.{accumulation}
use Rattle.dv_gather.proofs.RowsAlike.{row-like}
use Rattle.dv_gather.proofs.group_rows.row_of_values.Goals as goal
use Rattle.dv_gather.proofs.group_rows.row_of_values.Goals.{in-Some+in_ok-row-in-Some, in_default+in_ok-row-in_default}

pub returns : goal.returns
returns c =
    let fields = map accumulation c.args.fields.now in
    let values = c.args.values.items in
    let named : c.match-lender.row ≡ row_of_values fields (map tree values) =
    elim c.match-lender.branch [
      | in-Some+in_ok-row-in-Some w ↦
          w.row-is ∙ w.in_ok-row-in-Some.ensures
          ∙ row-like fields w.in-Some.lender.now (map tree values) (w.has_row_names.ensures.names w.if-has_row_names.true) w.has_row_names.ensures.named (omega (arith, length-map values tree, w.len.ensures.len, w.if-len.true))
      | in_default+in_ok-row-in_default w ↦ w.row-is ∙ w.in_ok-row-in_default.ensures
    ] in
    c.keep_size.ensures ∙ named
