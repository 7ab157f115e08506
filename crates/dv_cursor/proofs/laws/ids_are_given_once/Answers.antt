use Rattle.dv_cursor.proofs.Given.{ids_given_once}
use Rattle.dv_cursor.proofs.laws.ids_are_given_once.Goals as goal

pub returns : goal.returns
returns c = ids_given_once
