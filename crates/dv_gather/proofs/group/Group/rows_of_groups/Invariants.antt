use Rattle.std.proofs.Common.{◌≡◌, ◌++◌, map}
use Rattle.std.specs.BTreeMap.{values}
use Rattle.dv_gather.specs.Inner.GroupStates.{row_of_state}
use Rattle.dv_gather.specs.Inner.StateView.{group_state_seen}
use Rattle.dv_gather.proofs.group.Group.rows_of_groups.Given as goal

abbrev pub invariant-groups : goal.invariant-groups
invariant-groups l = l.left.items ++ map (λ t. row_of_state l.self.fields (group_state_seen t)) l.state-iterator ≡ map (λ t. row_of_state l.self.fields (group_state_seen t)) (values l.fn.groups)
