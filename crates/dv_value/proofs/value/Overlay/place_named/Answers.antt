use Rattle.std.proofs.Common.{sym, ◌∙◌}
use Rattle.dv_value.proofs.Overlaid.{place_under-covered}
use Rattle.dv_value.proofs.value.Overlay.place_named.Goals as goal

pub returns : goal.returns
returns c = rw (← c.self.view_is) (c.place_of.ensures.place ∙ sym (place_under-covered c.args.name.now c.self.inside.fields _))
