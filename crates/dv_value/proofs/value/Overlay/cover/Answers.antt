use Rattle.std.proofs.Common.{◌∙◌, map}
use Rattle.dv_value.specs.View.{covering}
use Rattle.dv_value.proofs.Overlaid.{value_over}
use Rattle.dv_value.proofs.value.Overlay.cover.Goals as goal

pub returns-in_ok-try_clone-in-Some : goal.returns-in_ok-try_clone-in-Some
returns-in_ok-try_clone-in-Some c =
    rw (← c.self.view_is) (c.in_ok-try_clone-in-Some.ensures ∙ value_over c.self.inside.fields (map covering c.self.inside.covers.items) c.args.place c.in-Some.text.now c.self.invariant c.in-Some.ensures)
