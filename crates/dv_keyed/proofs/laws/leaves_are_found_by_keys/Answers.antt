use Rattle.dv_keyed.proofs.Sound.{by_keys}
use Rattle.dv_keyed.proofs.laws.leaves_are_found_by_keys.Goals as goal

pub returns : goal.returns
returns c = by_keys c.keys_stand_as_their_values.ensures c.equal_is_same_but_for_widths.ensures
