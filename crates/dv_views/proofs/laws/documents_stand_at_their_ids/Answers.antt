use Rattle.dv_views.proofs.Turns.{one-own}
use Rattle.dv_views.proofs.laws.documents_stand_at_their_ids.Goals as goal

pub returns-clause-changed : goal.returns-clause-changed
returns-clause-changed c = λ change ds all made. one-own c.equal_keys_are_one.ensures change ds all made
