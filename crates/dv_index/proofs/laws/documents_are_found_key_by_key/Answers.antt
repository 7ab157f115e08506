use Rattle.dv_index.proofs.Picked.{each-all}
use Rattle.dv_index.proofs.laws.documents_are_found_key_by_key.Goals as goal

pub returns : goal.returns
returns c keys ds ascending are = each-all keys ds ascending are
