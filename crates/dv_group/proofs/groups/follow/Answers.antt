-- The keys are those of the row that was there and of the one that is there now.
use Rattle.std.proofs.Common.{◌∙◌, Option, subst}
use Rattle.std.proofs.lemmas.Result.{on_ok_weaker}
use Rattle.dv_order.specs.Key.{KeyTree}
use Rattle.dv_change.specs.Changes.{Positioned}
use Rattle.dv_group.specs.Inner.Members.{AreTransitions, group_members, moved, own_key}
use Rattle.dv_group.proofs.Owed.{ok-then}
use Rattle.dv_group.proofs.groups.follow.Goals as goal

pub returns-clause-rows : goal.returns-clause-rows
returns-clause-rows c =
    on_ok_weaker c.move_row.result (λ rows k. rows k ∙ (λ i. moved c.args.taken.pos (c.in_ok-key.ensures i) (c.in_ok-other.ensures i) c.args.taken.new k (group_members k c.args.groups.now.entries))) c.move_row.ensures.rows

pub returns-clause-shown : goal.returns-clause-shown
returns-clause-shown c =
    let was : KeyTree → Positioned = λ k. group_members k c.args.groups.now.entries in
    let now : KeyTree → Positioned = λ k. group_members k c.move_row.new.groups.entries in
    ok-then c.move_row.result c.move_row.ensures.shown (λ transitions shown.
    subst (λ (key : Option KeyTree). AreTransitions c.args.wish c.args.group.now was now key (own_key c.args.group.now c.args.taken.new) transitions) c.in_ok-key.ensures
    (subst (λ (other : Option KeyTree). AreTransitions c.args.wish c.args.group.now was now c.in_ok-key.key other transitions) c.in_ok-other.ensures shown))
