use Rattle.dv_keyed.proofs.Sound.{of-a-leaf}
use Rattle.dv_keyed.proofs.laws.a_key_in_the_bounds_is_of_a_leaf_there.Goals as goal

pub returns : goal.returns
returns c = of-a-leaf c.keys_stand_as_their_values.ensures c.equal_is_same_but_for_widths.ensures
