use Rattle.std.proofs.Common.{sym, ◌∙◌}
use Rattle.dv_views.proofs.Entries.{there}
use Rattle.dv_views.proofs.told_registry.ToldRegistry.has.Goals as goal

pub returns : goal.returns
returns c = rw (← c.self.view_is) (c.contains_key.ensures ∙ sym (there c.args.name.now c.self.inside.views.entries))
