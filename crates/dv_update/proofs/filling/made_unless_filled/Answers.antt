use Rattle.std.proofs.Common.{◌∙◌, sym}
use Rattle.dv_update.specs.View.{edit}
use Rattle.dv_update.proofs.Filled.{left-out}
use Rattle.dv_update.proofs.Unfilled.{removal_done, fill_left}
use Rattle.dv_update.proofs.filling.made_unless_filled.Goals.{then-is_removal-via-then-is_removal, then-is_removal-via-else-is_removal+then-is_left_out}
use Rattle.dv_update.proofs.filling.made_unless_filled.Goals as goal

pub returns-then-is_removal : goal.returns-then-is_removal
returns-then-is_removal c = λ further whole steps so-far.
    let d = c.args.document in
    let e = edit c.args.edit.now in
    let b = c.args.with_id in
    elim c.then-is_removal.branch [
      | then-is_removal-via-then-is_removal w ↦ removal_done b d e further whole so-far (sym c.is_removal.ensures ∙ w.if-is_removal.true)
      | then-is_removal-via-else-is_removal+then-is_left_out w ↦
          (let out = left-out b d e (sym w.is_left_out.ensures ∙ w.if-is_left_out.true) in
          fill_left b d e further whole so-far c.paths_that_part_are_independent.ensures.slot steps out.0 out.1 out.2)
    ]
