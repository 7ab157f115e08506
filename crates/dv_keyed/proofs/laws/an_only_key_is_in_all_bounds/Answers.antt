use Rattle.dv_keyed.proofs.Only.{in_all}
use Rattle.dv_keyed.proofs.laws.an_only_key_is_in_all_bounds.Goals as goal

pub returns : goal.returns
returns c = λ filter path d v only e. in_all c.keys_stand_as_their_values.ensures c.equal_is_same_but_for_widths.ensures path d v only filter e
