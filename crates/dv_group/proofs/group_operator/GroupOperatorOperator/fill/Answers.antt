-- The rows of all groups are what it returns for the rows that it took in.
use Rattle.std.proofs.Common.{◌∙◌, List, [], ap, subst, sym}
use Rattle.dv_change.specs.Changes.{Positioned, with_changes}
use Rattle.dv_change.specs.Inner.DiffLaws.{apply-diff, exact-diff, positioned-changes}
use Rattle.dv_change.specs.Difference.{diff}
use Rattle.dv_change.specs.Inner.RowLaws.{positioned-none}
use Rattle.dv_change.specs.Inner.ToldLaws.{along-diff}
use Rattle.dv_gather.specs.Grouping.{Grouping}
use Rattle.dv_group.specs.Inner.Members.{AreLiveGroups, AreMembers, group_members, moved_all}
use Rattle.dv_group.specs.Placed.{grouped_at}
use Rattle.dv_group.proofs.Owed.{members-along, members-same, ok-any, ok-then}
use Rattle.dv_group.proofs.group_operator.GroupOperatorOperator.fill.Goals as goal

pub returns-clause-sound : goal.returns-clause-sound
returns-clause-sound c =
    let p = c.keep_last.new.self in
    ok-any c.puts_of.result
    (subst (λ (g : Grouping). AreLiveGroups g p.groups.entries) (sym c.keep_last.ensures.group)
    (subst (AreLiveGroups c.args.self.now.group) (sym c.keep_last.ensures.groups) c.in_ok-follow_all.ensures.sound))

pub returns-clause-makes : goal.returns-clause-makes
returns-clause-makes c =
    let makes : Grouping → List Positioned → Positioned → Positioned = λ g others rows. grouped_at g rows in
    ok-any c.puts_of.result (ap makes c.keep_last.ensures.group)

pub returns-clause-filled : goal.returns-clause-filled
returns-clause-filled c =
    let o = c.args.self.now in
    let p = c.keep_last.new.self in
    let g = o.group in
    let fs = c.follow_all.new.groups.entries in
    let rows = c.in_ok-rows.rows in
    let are = c.in_ok-rows.ensures.positioned in
    ok-then c.puts_of.result c.puts_of.ensures (λ puts is others changes held exact along.
    let left = with_changes [] changes in
    let positioned = positioned-changes [] changes positioned-none exact in
    let members : AreMembers g (λ k. group_members k fs) left =
    members-along g changes [] (λ k. group_members k o.groups.entries) (λ k. group_members k fs) positioned-none exact held.members (λ k. c.in_ok-follow_all.ensures.rows k ∙ ap (moved_all g k (group_members k o.groups.entries)) along) in
    record {
      held = record {
        positioned = positioned;
        members = members-same g p.group fs p.groups.entries left c.keep_last.ensures.group c.keep_last.ensures.groups members;
        none = held.none;
      };
      outs = diff [] rows;
      exact = exact-diff [] rows positioned-none are;
      told = is ∙ sym (along-diff [] rows positioned-none are);
      leads = apply-diff [] rows positioned-none are ∙ c.in_ok-rows.ensures.rows left positioned members;
    })
