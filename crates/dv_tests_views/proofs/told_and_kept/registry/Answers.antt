use Rattle.dv_tests_views.proofs.Lists.{unnamed_in_order}
use Rattle.dv_tests_views.proofs.told_and_kept.registry.Goals as goal

pub create-requires : goal.create-requires
create-requires c = unnamed_in_order c.new-2.result c.new-2.ensures _
