use Rattle.std.proofs.Common.{◌∙◌, map}
use Rattle.dv_value.specs.View.{tree}
use Rattle.dv_update.specs.View.{pulled}
use Rattle.dv_update.proofs.Made.{left_end}
use Rattle.dv_update.proofs.form.Pulled.left.Goals as goal

pub returns : goal.returns
returns c =
    c.of.ensures ∙ left_end (pulled c.args.self.now) c.as_slice-element-items.result.now c.args.list.now (map tree c.elements.left.items) c.elements.element-index c.as_slice-element-items.ensures c.elements.invariant c.elements-test.false
