use Rattle.std.proofs.Common.{◌∙◌, ap, map, rules}
use Rattle.dv_order.specs.Order.{canon}
use Rattle.dv_order.specs.Key.{value}
use Rattle.dv_row.specs.RowValueView.{row_value}
use Rattle.dv_gather.specs.Inner.SumBounds.{most}
use Rattle.dv_gather.specs.Inner.GroupView.{accumulation}
use Rattle.dv_gather.proofs.Bounded.{found-within, put-within}
use Rattle.dv_gather.proofs.AccumulatorStates.{group-with-row, on-ok}
use Rattle.dv_gather.proofs.group.Group.add.Goals as goal

pub add-requires : goal.add-requires
add-requires c =
    found-within most c.args.groups.now.entries c.in_ok-place.place c.new.result c.or_insert-state.result.now _ c.new.ensures c.or_insert-state.ensures.value c.in_ok-groups.ensures.value c.requires

pub returns-clause-groups : goal.returns-clause-groups
returns-clause-groups c =
    let written = c.in_ok-groups.ensures.update.1 c.add.new.self in
    let is = c.in_ok-place.ensures ∙ ap (λ v. value (canon v)) (c.get.ensures ∙ c.in_ok-key.ensures) in
    on-ok (λ added. group-with-row c.args.self.now c.args.row.now c.in_ok-place.place c.args.groups.now.entries _ c.new.result c.or_insert-state.result.now c.add.new.self (map accumulation c.fields.result.now) (row_value c.in_ok-key.key) _ added c.fields.ensures c.in_ok-key.ensures is c.new.ensures
    c.or_insert-state.ensures.value c.in_ok-groups.ensures.value (search (rules, written)))
    c.add.result c.add.ensures.state

pub returns-clause-within : goal.returns-clause-within
returns-clause-within c =
    let written = c.in_ok-groups.ensures.update.1 c.add.new.self in
    on-ok (λ added count h. put-within count c.args.groups.now.entries _ c.in_ok-place.place c.add.new.self (search (rules, written)) h
    (added count (found-within count c.args.groups.now.entries c.in_ok-place.place c.new.result c.or_insert-state.result.now _ c.new.ensures c.or_insert-state.ensures.value c.in_ok-groups.ensures.value h)))
    c.add.result c.add.ensures.within
