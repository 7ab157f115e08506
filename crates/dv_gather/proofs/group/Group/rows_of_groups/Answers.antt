use Rattle.std.proofs.Common.{◌≡◌, ◌∙◌, ◌++◌, [], ap, sym, List, map, append-nil, rules}
use Rattle.dv_gather.specs.Inner.GroupStates.{row_of_state}
use Rattle.dv_gather.specs.Inner.StateView.{group_state_seen}
use Rattle.dv_gather.specs.declared.group_state.GroupState.{GroupState}
use Rattle.dv_gather.proofs.AccumulatorStates.{rows-seen}
use Rattle.dv_gather.proofs.group.Group.rows_of_groups.Goals as goal

pub returns : goal.returns
returns c =
    let fields = c.args.self.now.fields in
    let left = c.groups.left.items in
    let done : c.groups.state-iterator ≡ [] = search (rules, c.in-None.ensures.steps) in
    sym (append-nil left) ∙ sym (ap (λ (ts : List GroupState). left ++ map (λ t. row_of_state fields (group_state_seen t)) ts) done) ∙ c.groups.invariant ∙ rows-seen fields c.args.groups.entries
