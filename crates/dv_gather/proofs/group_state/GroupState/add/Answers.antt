use Rattle.std.proofs.Common.{sym, subst, map}
use Rattle.dv_row.specs.RowValueView.{row_value}
use Rattle.dv_gather.specs.Inner.SumBounds.{AreWithin, most}
use Rattle.dv_gather.specs.Inner.GroupView.{accumulation}
use Rattle.dv_gather.specs.Inner.GroupStates.{GroupState}
use Rattle.dv_gather.specs.Inner.StateView.{group_state_seen}
use Rattle.dv_gather.proofs.Bounded.{started-within}
use Rattle.dv_gather.proofs.AccumulatorStates.{on-ok}
use Rattle.dv_gather.proofs.group_state.GroupState.add.Goals as goal

pub add_values-requires : goal.add_values-requires
add_values-requires c =
    subst (λ (t : GroupState). AreWithin 0 most t.1) (sym c.in_ok-start.ensures) (started-within (map accumulation c.args.fields.now) (row_value c.args.key) (group_state_seen c.args.self.now) most c.requires)

pub returns-clause-within : goal.returns-clause-within
returns-clause-within c =
    on-ok (λ added count h. added count (subst (λ (t : GroupState). AreWithin 0 count t.1) (sym c.in_ok-start.ensures) (started-within (map accumulation c.args.fields.now) (row_value c.args.key) (group_state_seen c.args.self.now) count h)))
    c.add_values.result c.add_values.ensures.within
