use Rattle.std.proofs.Common.{◌∙◌}
use Rattle.dv_views.proofs.Listed.{found_under, none_under}
use Rattle.dv_views.proofs.readers.Readers.under.Goals as goal

pub returns-in-Some : goal.returns-in-Some
returns-in-Some c = c.as_slice.ensures.value ∙ found_under c.args.namespace.now c.args.self.now.lists.entries c.in-Some.places.now c.in-Some.ensures.value

pub returns-in-None : goal.returns-in-None
returns-in-None c = none_under c.args.namespace.now c.args.self.now.lists.entries c.in-None.ensures.value
