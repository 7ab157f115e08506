use Rattle.dv_views.proofs.Turns.{made_parts}
use Rattle.dv_views.proofs.laws.changes_follow_on.Goals as goal

pub returns-clause-made : goal.returns-clause-made
returns-clause-made c = made_parts c.equal_keys_are_one.ensures
