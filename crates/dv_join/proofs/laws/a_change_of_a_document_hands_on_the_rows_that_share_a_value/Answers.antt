-- Those rows that don't share a value stay as they are.
use Rattle.dv_join.proofs.Bounds.{foreign-bound}
use Rattle.dv_join.proofs.laws.a_change_of_a_document_hands_on_the_rows_that_share_a_value.Goals as goal

pub returns : goal.returns
returns c = λ lookup rows foreign change are foreign-are exact. foreign-bound lookup rows foreign change are foreign-are exact
