use Rattle.std.proofs.Common.{sym, ◌∙◌}
use Rattle.dv_views.proofs.Copied.{copy_there}
use Rattle.dv_views.proofs.copies.Copies.has.Goals as goal

pub returns : goal.returns
returns c = rw (← c.self.view_is) (c.contains_key.ensures ∙ sym (copy_there c.args.namespace.now c.self.inside.lists.entries))
