use Rattle.std.proofs.Common.{Some, None, map}
use Rattle.dv_value.specs.Tree.{Field}
use Rattle.dv_value.specs.View.{tree, covering}
use Rattle.dv_value.proofs.Overlaid.{none_over, shown_over}
use Rattle.dv_value.proofs.value.Overlay.shown.Goals as goal

pub returns-in_err-name : goal.returns-in_err-name
returns-in_err-name c = rw (c.from_residual.ensures, ← c.self.view_is) (none_over c.self.inside.fields (map covering c.self.inside.covers.items) c.args.place c.in_err-name.ensures)

pub returns-in-Some : goal.returns-in-Some
returns-in-Some c =
    let f : Field = (c.in_ok-name.name.now, tree c.in_ok-name.own.now) in
    rw (← c.self.view_is, c.value.ensures) (shown_over c.self.inside.fields (map covering c.self.inside.covers.items) c.args.place f (Some c.in-Some.text.now) c.in_ok-name.ensures c.in-Some.ensures)

pub returns-in-None : goal.returns-in-None
returns-in-None c =
    let f : Field = (c.in_ok-name.name.now, tree c.in_ok-name.own.now) in
    rw (← c.self.view_is) (shown_over c.self.inside.fields (map covering c.self.inside.covers.items) c.args.place f None c.in_ok-name.ensures c.in-None.ensures)
