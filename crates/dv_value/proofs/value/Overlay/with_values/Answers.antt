use Rattle.std.proofs.Common.{◌≤◌, length, map, arith}
use Rattle.dv_value.specs.Inner.Covers.{covered}
use Rattle.dv_value.specs.View.{tree, covering}
use Rattle.dv_value.proofs.Overlaid.{length-covered, with_values-covered}
use Rattle.dv_value.proofs.value.Overlay.with_values.Goals as goal

pub with_values-requires : goal.with_values-requires
with_values-requires c =
    let fs = c.self.inside.fields in
    let cs = map covering c.self.inside.covers.items in
    let within : length c.args.values.items ≤ length (covered fs cs) = rw c.self.view_is c.requires in
    omega (arith, within, length-covered fs cs)

pub returns : goal.returns
returns c =
    let fs = c.self.inside.fields in
    let cs = map covering c.self.inside.covers.items in
    rw (← c.self.view_is, with_values-covered fs cs (map tree c.args.values.items)) c.with_values.ensures
