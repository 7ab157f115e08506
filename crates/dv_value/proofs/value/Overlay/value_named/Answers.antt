use Rattle.std.proofs.Common.{Some, None, sym}
use Rattle.dv_value.specs.Tree.{Field}
use Rattle.dv_value.specs.View.{tree}
use Rattle.dv_value.proofs.Named.{value_nowhere}
use Rattle.dv_value.proofs.Overlaid.{value_got}
use Rattle.dv_value.proofs.value.Overlay.value_named.Goals as goal

pub returns-in_err-place : goal.returns-in_err-place
returns-in_err-place c = rw c.from_residual.ensures (sym (value_nowhere c.args.name.now c.args.self.now (sym c.in_err-place.ensures)))

pub returns-in_err-_name : goal.returns-in_err-_name
returns-in_err-_name c =
    rw c.from_residual-in_err-_name.ensures (value_got c.args.name.now c.args.self.now c.in_ok-place.place None c.in_ok-place.ensures c.in_err-_name.ensures)

pub returns : goal.returns
returns c =
    let f : Field = (c.in_ok-_name._name.now, tree c.in_ok-_name.value.now) in
    value_got c.args.name.now c.args.self.now c.in_ok-place.place (Some f) c.in_ok-place.ensures c.in_ok-_name.ensures
