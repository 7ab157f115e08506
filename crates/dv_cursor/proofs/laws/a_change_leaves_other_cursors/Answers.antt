use Rattle.dv_cursor.proofs.Places.{get-added, get-advanced, get-closed, get-without_session, next-advanced}
use Rattle.dv_cursor.proofs.laws.a_change_leaves_other_cursors.Goals as goal

pub returns : goal.returns
returns c = record { added = get-added; advanced = get-advanced; closed = get-closed; ended = get-without_session; next = next-advanced }
