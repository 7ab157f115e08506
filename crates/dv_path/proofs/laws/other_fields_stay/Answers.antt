use Rattle.dv_path.proofs.Placed.{put_others, remove_others}
use Rattle.dv_path.proofs.laws.other_fields_stay.Goals as goal

pub returns-clause-put : goal.returns-clause-put
returns-clause-put c = put_others

pub returns-clause-removed : goal.returns-clause-removed
returns-clause-removed c = remove_others
