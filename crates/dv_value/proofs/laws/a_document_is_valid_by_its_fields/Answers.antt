use Rattle.dv_value.proofs.Moved.{each_valid, all_valid}
use Rattle.dv_value.proofs.laws.a_document_is_valid_by_its_fields.Goals as goal

pub returns : goal.returns
returns c = λ fields. (each_valid fields, all_valid fields)
