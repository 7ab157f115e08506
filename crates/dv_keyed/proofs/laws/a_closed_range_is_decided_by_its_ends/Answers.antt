use Rattle.dv_keyed.proofs.Sound.{closed}
use Rattle.dv_keyed.proofs.laws.a_closed_range_is_decided_by_its_ends.Goals as goal

pub returns : goal.returns
returns c = closed c.keys_stand_as_their_values.ensures c.equal_is_same_but_for_widths.ensures
