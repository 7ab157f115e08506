-- The groups have their rows after the change, and the changes of their own rows are returned.
use Rattle.std.proofs.Common.{◌+◌, ◌++◌, ◌∙◌, ap, length, sym}
use Rattle.std.proofs.lemmas.Result.{on_ok_weaker}
use Rattle.dv_change.specs.Raised.{raised}
use Rattle.dv_change.specs.Inner.Told.{diff_told}
use Rattle.dv_group.specs.Inner.Members.{LiveGroups, group_members, shown_as}
use Rattle.dv_group.proofs.group_operator.GroupOperator.regroup.Goals as goal

pub returns-clause-groups : goal.returns-clause-groups
returns-clause-groups c = on_ok_weaker c.tell.result (λ out k. ap (group_members k) c.tell.ensures.groups ∙ c.in_ok-transitions.ensures.rows k) c.tell.ensures.out

pub returns-clause-out : goal.returns-clause-out
returns-clause-out c =
    let g = c.args.self.now.group in
    let was = shown_as g c.args.self.now.groups.entries c.args.taken in
    let shown = c.in_ok-transitions.ensures.shown in
    on_ok_weaker c.tell.result (λ out.
    out ∙ (λ i. c.args.out.now.items ++ diff_told (shown.0 i) (shown.1 i))
    ∙ ap (λ (es : LiveGroups). c.args.out.now.items ++ diff_told was (shown_as g es c.args.taken)) (sym c.tell.ensures.groups)) c.tell.ensures.out

pub returns-clause-ticks : goal.returns-clause-ticks
returns-clause-ticks c =
    let g = c.args.self.now.group in
    let was = shown_as g c.args.self.now.groups.entries c.args.taken in
    let shown = c.in_ok-transitions.ensures.shown in
    on_ok_weaker c.tell.result (λ ticks.
    ticks ∙ (λ i. raised c.args.ticks.now (1 + length (diff_told (shown.0 i) (shown.1 i))))
    ∙ ap (λ (es : LiveGroups). raised c.args.ticks.now (1 + length (diff_told was (shown_as g es c.args.taken)))) (sym c.tell.ensures.groups)) c.tell.ensures.ticks
