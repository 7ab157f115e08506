-- Comparing with the last of the rows is enough.
use Rattle.std.proofs.Common.{rules, ◌≡◌, ◌∙◌, ◌-◌, length, slice_get, Some, is_gt}
use Rattle.dv_change.specs.Positions.{pos_order}
use Rattle.dv_flow.proofs.Fronts.{past-is}
use Rattle.dv_flow.proofs.limit.LimitOperator.is_past.Goals as goal

pub returns-in-Some : goal.returns-in-Some
returns-in-Some c =
    let xs = c.args.self.now.front.entries in
    let there : slice_get xs (length xs - 1) ≡ Some (c.in-Some.last.now, c.in-Some.field-0-1.now) = search rules in
    let test : c.is_gt.result ≡ is_gt (pos_order c.args.pos.now c.in-Some.last.now) = search rules in
    test ∙ past-is c.args.pos.now c.in-Some.last.now c.in-Some.field-0-1.now (length xs - 1) xs there c.in-Some.ensures.all_up_to
