use Rattle.dv_wire.proofs.Plain.{plain_live, plays_ordered, plays_plain}
use Rattle.dv_wire.proofs.laws.a_play_without_want_of_memory_is_the_plain_one.Goals as goal

pub returns-clause-plain : goal.returns-clause-plain
returns-clause-plain c = plays_plain

pub returns-clause-order : goal.returns-clause-order
returns-clause-order c = plays_ordered

pub returns-clause-such : goal.returns-clause-such
returns-clause-such c = plain_live c.the_counted_step_is_allowed.ensures
