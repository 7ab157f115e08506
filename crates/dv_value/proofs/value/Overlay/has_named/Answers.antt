use Rattle.std.proofs.Common.{sym, ◌∙◌}
use Rattle.dv_value.proofs.Overlaid.{has_name-covered, AreNamed-covered}
use Rattle.dv_value.proofs.value.Overlay.has_named.Goals as goal

pub returns-clause-has : goal.returns-clause-has
returns-clause-has c = rw (← c.self.view_is) (c.has.ensures.has ∙ sym (has_name-covered c.args.name.now c.self.inside.fields _))

pub returns-clause-named : goal.returns-clause-named
returns-clause-named c = rw (← c.self.view_is) (AreNamed-covered c.self.inside.fields _ c.has.ensures.named)
