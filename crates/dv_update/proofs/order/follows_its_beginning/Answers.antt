use Rattle.std.proofs.Common.{◌∙◌, sym}
use Rattle.dv_update.proofs.Items.{last-begins}
use Rattle.dv_update.proofs.order.follows_its_beginning.Goals as goal

pub returns-in-Some : goal.returns-in-Some
returns-in-Some c = c.begins.ensures ∙ sym (last-begins c.args.path.now c.args.edits.now c.in-Some.last.now c.in-Some.ensures.value)
