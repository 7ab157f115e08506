use Rattle.std.proofs.Common.{◌∙◌, sym}
use Rattle.dv_row.proofs.Items.{some-left}
use Rattle.dv_row.proofs.OneByOne.{each-set}
use Rattle.dv_row.proofs.Unwound.{rows-of_some}
use Rattle.dv_row.proofs.unwind.Unwind.each_of_elements.Goals as goal

pub returns : goal.returns
returns c =
    let unwind = c.args.self.now in
    let row = c.args.row.now in
    let es = c.as_slice-elements.result.now in
    c.of-2.ensures ∙ sym (rows-of_some unwind row es c.args.list.now c.as_slice-elements.ensures (some-left es c.if-is_empty.ensures) ∙ each-set unwind.path row c.in_ok-way.way c.in_ok-way.ensures es)
