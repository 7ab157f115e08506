use Rattle.std.proofs.Common.{sym, ◌∙◌}
use Rattle.dv_value.proofs.Overlaid.{length-covered, AreNamed-covered}
use Rattle.dv_value.proofs.value.Overlay.count.Goals as goal

pub returns-clause-len : goal.returns-clause-len
returns-clause-len c = rw (← c.self.view_is) (c.len.ensures.len ∙ sym (length-covered c.self.inside.fields _))

pub returns-clause-named : goal.returns-clause-named
returns-clause-named c = rw (← c.self.view_is) (AreNamed-covered c.self.inside.fields _ c.len.ensures.named)
