-- Each group has its row, and there are no rows under other keys.
use Rattle.std.proofs.Common.{rules, ◌≡◌, ◌∙◌, ◌∷◌, [], ap, subst, sym}
use Rattle.std.specs.Map.{keys_of}
use Rattle.dv_order.specs.Key.{KeyTree}
use Rattle.dv_change.specs.Changes.{Positioned}
use Rattle.dv_change.specs.Inner.Changes.{IsPositioned}
use Rattle.dv_change.specs.Inner.RowLaws.{positioned-none}
use Rattle.dv_group.specs.Inner.Members.{LiveGroups, group_members}
use Rattle.dv_group.proofs.Owed.{all-grouped, none-under, positioned-group, with_each}
use Rattle.dv_group.proofs.group_operator.GroupOperator.all_shown.Goals as goal

pub groups-init : goal.groups-init
groups-init c =
    let g = c.args.self.now.group in
    let es = c.args.self.now.groups.entries in
    let under : KeyTree → Positioned = λ k. group_members k es in
    let none : c.new-rows.result ≡ [] = search rules in
    let all : c.into_iter-key-iterator.result ≡ es = search rules in
    record {
      shown = λ i. with_each g under (keys_of (all i)) (none i);
      positioned = subst (λ (rows : Positioned). IsPositioned rows) (sym none) positioned-none;
    }

pub groups-preserved : goal.groups-preserved
groups-preserved c =
    let g = c.args.self.now.group in
    let under : KeyTree → Positioned = λ k. group_members k c.args.self.now.groups.entries in
    let key = c.in-Some.key.now in
    let step : c.groups.key-iterator ≡ (key, c.in-Some.field-0-1.now) ∷ c.next.new.self = search rules in
    record {
      shown = ap (with_each g under (keys_of c.next.new.self)) c.in_ok-rows.ensures ∙ ap (λ (es : LiveGroups). with_each g under (keys_of es) c.groups.rows) (sym step) ∙ c.groups.invariant.shown;
      positioned = subst (λ (rows : Positioned). IsPositioned rows) (sym c.in_ok-rows.ensures) (positioned-group g under key c.groups.rows c.law_own.ensures c.groups.invariant.positioned);
    }

pub returns-clause-rows : goal.returns-clause-rows
returns-clause-rows c = λ left are members.
    let g = c.args.self.now.group in
    let es = c.args.self.now.groups.entries in
    let under : KeyTree → Positioned = λ k. group_members k es in
    let none : c.groups.key-iterator ≡ [] = search rules in
    let all : c.groups.rows ≡ with_each g under (keys_of es) [] = sym (ap (λ (es : LiveGroups). with_each g under (keys_of es) c.groups.rows) none) ∙ c.groups.invariant.shown in
    all ∙ all-grouped g under left members (keys_of es) (λ k none. none-under k es none) are (subst (λ (rows : Positioned). IsPositioned rows) all c.groups.invariant.positioned)
