-- It returns the changes of the rows of the groups of two keys.
use Rattle.std.proofs.Common.{◌≡◌, ◌+◌, ◌++◌, ◌∙◌, ap, length, refl, subst, sym}
use Rattle.dv_change.specs.declared.input.Input.{Input}
use Rattle.dv_change.specs.Inner.Answered.{ok-both}
use Rattle.dv_change.specs.Changes.{with_change}
use Rattle.dv_change.specs.Inner.DiffLaws.{positioned-changed}
use Rattle.dv_change.specs.Difference.{diff}
use Rattle.dv_change.specs.Inputs.{left_after, others_after}
use Rattle.dv_change.specs.Raised.{raised}
use Rattle.dv_change.specs.Inner.Told.{input_rows, told_along, with_old}
use Rattle.dv_change.specs.Inner.ToldLaws.{length-told}
use Rattle.dv_change.specs.Work.{owed_by}
use Rattle.dv_group.specs.Inner.Held.{HoldsGroups}
use Rattle.dv_group.specs.Placed.{grouped_at}
use Rattle.dv_group.proofs.Owed.{are-still, members-same, taken-told}
use Rattle.dv_group.proofs.group_operator.GroupOperatorOperator.take.Goals as goal

pub returns-in-Left-clause-holds : goal.returns-in-Left-clause-holds
returns-in-Left-clause-holds c =
    let o = c.args.self.now in
    let p = c.regroup.new.self in
    ok-both c.regroup.result c.regroup.ensures.group c.regroup.ensures.groups (λ group moved others left change held comes.
    let told : c.args.taken ≡ with_old left change = comes.told ∙ ap (λ i. with_old (input_rows i others left) change) c.in-Left.is in
    let still = are-still o.group left change held.positioned comes.exact o.groups.entries p.groups.entries c.args.taken told held.members moved in
    subst (λ (i : Input). HoldsGroups p (others_after i change others) (left_after i change left)) (sym c.in-Left.is)
    (record {
      positioned = positioned-changed left change held.positioned comes.exact;
      members = members-same o.group p.group p.groups.entries p.groups.entries (with_change left change) group refl still;
      none = held.none;
    }))

pub returns-in-Left-clause-out : goal.returns-in-Left-clause-out
returns-in-Left-clause-out c =
    let o = c.args.self.now in
    let p = c.regroup.new.self in
    ok-both c.regroup.result c.regroup.ensures.out c.regroup.ensures.groups (λ out moved others left change held comes.
    let told : c.args.taken ≡ with_old left change = comes.told ∙ ap (λ i. with_old (input_rows i others left) change) c.in-Left.is in
    out ∙ ap (λ ts. c.args.out.now.items ++ ts) (
    taken-told o.group left change held.positioned comes.exact o.groups.entries p.groups.entries c.args.taken told held.members moved
    ∙ sym (ap (λ i. told_along (grouped_at o.group left) (owed_by i change (λ others' rows. grouped_at o.group rows) others left)) c.in-Left.is)))

pub returns-in-Left-clause-ticks : goal.returns-in-Left-clause-ticks
returns-in-Left-clause-ticks c =
    let o = c.args.self.now in
    let p = c.regroup.new.self in
    ok-both c.regroup.result c.regroup.ensures.ticks c.regroup.ensures.groups (λ ticks moved others left change held comes.
    let told : c.args.taken ≡ with_old left change = comes.told ∙ ap (λ i. with_old (input_rows i others left) change) c.in-Left.is in
    ticks ∙ ap (λ n. raised c.args.ticks.now (1 + n)) (
    ap length (taken-told o.group left change held.positioned comes.exact o.groups.entries p.groups.entries c.args.taken told held.members moved)
    ∙ length-told (grouped_at o.group left) (diff (grouped_at o.group left) (grouped_at o.group (with_change left change)))
    ∙ sym (ap (λ i. length (owed_by i change (λ others' rows. grouped_at o.group rows) others left)) c.in-Left.is)))
