use Rattle.dv_keyed.proofs.Sound.{covers-within}
use Rattle.dv_keyed.proofs.laws.keys_are_in_the_bounds_of_their_values.Goals as goal

pub returns : goal.returns
returns c = covers-within c.keys_stand_as_their_values.ensures
