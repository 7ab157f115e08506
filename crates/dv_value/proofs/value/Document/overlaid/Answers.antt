use Rattle.std.proofs.Common.{◌∙◌, arith}
use Rattle.dv_value.proofs.Overlaid.{take_all}
use Rattle.dv_value.proofs.value.Document.overlaid.Goals as goal

pub returns : goal.returns
returns c = c.fields.invariant ∙ take_all c.args.self.now c.fields.place (omega (arith, c.len-place-end.ensures.len))
