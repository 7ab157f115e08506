use Rattle.dv_index.proofs.Counted.{at_least}
use Rattle.dv_index.proofs.laws.a_find_covers_what_it_finds.Goals as goal

pub returns-clause-at_least : goal.returns-clause-at_least
returns-clause-at_least c = at_least c.what_matches_is_in_the_bounds.ensures
