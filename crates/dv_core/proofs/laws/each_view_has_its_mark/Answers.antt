use Rattle.dv_core.proofs.Marked.{each_after, each_loaded}
use Rattle.dv_core.proofs.laws.each_view_has_its_mark.Goals as goal

pub returns-clause-after : goal.returns-clause-after
returns-clause-after c = each_after

pub returns-clause-loaded : goal.returns-clause-loaded
returns-clause-loaded c = each_loaded
