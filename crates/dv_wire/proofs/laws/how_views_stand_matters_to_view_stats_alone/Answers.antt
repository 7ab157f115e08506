use Rattle.dv_wire.proofs.Plain.{plays_standing, plays_standing_ordered}
use Rattle.dv_wire.proofs.laws.how_views_stand_matters_to_view_stats_alone.Goals as goal

pub returns-clause-plain : goal.returns-clause-plain
returns-clause-plain c = plays_standing

pub returns-clause-order : goal.returns-clause-order
returns-clause-order c = plays_standing_ordered
