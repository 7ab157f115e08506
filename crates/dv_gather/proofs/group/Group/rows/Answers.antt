use Rattle.std.proofs.Common.{◌∙◌, ap, map}
use Rattle.dv_order.specs.Key.{KeyTree}
use Rattle.dv_gather.specs.View.{referred}
use Rattle.dv_gather.specs.Inner.GroupStates.{GroupState, row_of_state}
use Rattle.dv_gather.proofs.Grouped.{if-ok}
use Rattle.dv_gather.proofs.GroupRows.{rows-are}
use Rattle.dv_gather.proofs.group.Group.rows.Goals as goal

pub returns : goal.returns
returns c =
    let g = c.args.self.now in
    if-ok (λ left h. h ∙ ap (map (λ (e : KeyTree × GroupState). row_of_state g.fields e.1)) c.in_ok-groups.ensures ∙ rows-are g c.keys_stand_as_their_values.ensures (referred c.args.rows.now)) c.rows_of_groups.result c.rows_of_groups.ensures
