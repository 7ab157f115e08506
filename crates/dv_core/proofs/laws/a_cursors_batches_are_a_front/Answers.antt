use Rattle.dv_core.proofs.CursorMoves.{CursorLaws}
use Rattle.dv_core.proofs.Cursored.{find_told, pipeline_told, more_told}
use Rattle.dv_core.proofs.Marked.{step_moves}
use Rattle.dv_core.proofs.laws.a_cursors_batches_are_a_front.Goals as goal

pub returns : goal.returns
returns c =
    let changes = c.a_change_leaves_other_cursors.ensures in
    let laws : CursorLaws = record { added_at = changes.added; advanced_at = changes.advanced; closed_at = changes.closed; ended_at = changes.ended; next_stays = changes.next; front = c.a_batch_is_a_front.ensures } in
    record {
      find = λ before asked session command asks. find_told laws before session command asked asks;
      pipeline = λ before asked session command asks. pipeline_told laws before session command asked asks;
      replies = λ state session id command asked more. more_told laws state session id command asked (more.2).0 more.0 more.1 (more.2).1;
      moves = step_moves;
    }
