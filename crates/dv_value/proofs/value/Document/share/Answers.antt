use Rattle.std.proofs.Common.{◌∙◌, ap, sym}
use Rattle.dv_value.specs.Tree.{Field}
use Rattle.dv_value.specs.View.{tree}
use Rattle.dv_value.proofs.Overlaid.{value_at-here}
use Rattle.dv_value.proofs.value.Document.share.Goals as goal

pub returns : goal.returns
returns c =
    let f : Field = (c.field.result.0.now, tree c.field.result.1.now) in
    c.in_ok-of.ensures ∙ ap tree c.in_ok-try_clone.ensures ∙ sym (value_at-here c.args.self.now c.args.place f c.field.ensures)
