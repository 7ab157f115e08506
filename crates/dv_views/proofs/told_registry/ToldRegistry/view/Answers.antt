use Rattle.std.proofs.Common.{ap, ◌∙◌}
use Rattle.std.specs.Option.{option_map}
use Rattle.dv_views.specs.Inner.Seen.{view_seen}
use Rattle.dv_views.proofs.Entries.{copied, found_seen}
use Rattle.dv_views.proofs.told_registry.ToldRegistry.view.Goals as goal

pub returns : goal.returns
returns c =
    rw (← c.self.view_is)
    (copied c.args.name.now c.get.result ∙ ap (option_map (view_seen c.args.name.now)) c.get.ensures.value ∙ found_seen c.args.name.now c.self.inside.views.entries)
