use Rattle.dv_path.proofs.Placed.{put_first_name, put_behind_first, remove_behind_first}
use Rattle.dv_path.proofs.laws.the_first_field_stays_first.Goals as goal

pub returns-clause-named : goal.returns-clause-named
returns-clause-named c = put_first_name

pub returns-clause-put : goal.returns-clause-put
returns-clause-put c = put_behind_first

pub returns-clause-removed : goal.returns-clause-removed
returns-clause-removed c = remove_behind_first
