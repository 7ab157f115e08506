use Rattle.std.proofs.Common.{inr, map}
use Rattle.dv_update.specs.View.{edit}
use Rattle.dv_update.proofs.IdFilled.{id_changes}
use Rattle.dv_update.proofs.Stepwise.{no_conflict}
use Rattle.dv_update.proofs.filling.refuse_filled.Goals as goal

pub returns-then-any_fills_id : goal.returns-then-any_fills_id
returns-then-any_fills_id c =
    let es = map edit c.args.edits.now in
    let found = c.in_ok-made_without_fills.ensures in
    inr (id_changes c.paths_that_part_are_independent.ensures.slot c.what_was_put_is_there.ensures.there c.args.old.now c.args.document found.0 es
    (no_conflict es c.requires) (c.any_fills_id.ensures c.if-any_fills_id.true) found.1)
