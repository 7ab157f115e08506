-- If the keys are equal, one group changes; otherwise one group after the other.
use Rattle.std.proofs.Common.{rules, ◌≡◌, ◌∙◌, ap, cond, false, true}
use Rattle.dv_change.specs.Inner.Ordered.{gone}
use Rattle.dv_change.specs.Positions.{PosTree}
use Rattle.dv_group.specs.Inner.Members.{are_one, group_members, is_key}
use Rattle.dv_group.proofs.Transitions.{one-shown, two-shown}
use Rattle.dv_group.proofs.Under.{stays-one}
use Rattle.dv_group.proofs.groups.move_row.Goals as goal

pub returns-then-are_one-clause-rows : goal.returns-then-are_one-clause-rows
returns-then-are_one-clause-rows c =
    let one : are_one c.args.key.now c.args.other.now ≡ true = search rules in
    λ k. c.in_ok-transition.ensures.rows k ∙ stays-one c.args.group.now c.args.pos c.args.key.now c.args.other.now c.args.new one c.args.groups.now.entries c.law_exact.ensures c.requires k

pub returns-then-are_one-clause-shown : goal.returns-then-are_one-clause-shown
returns-then-are_one-clause-shown c =
    let one : are_one c.args.key.now c.args.other.now ≡ true = search rules in
    one-shown c.args.group.now c.args.wish c.args.groups.now.entries c.set_in.new.groups.entries c.args.key.now c.args.other.now c.in_ok-transition.transition c.in_ok-one.one one c.in_ok-transition.ensures.shown c.in_ok-one.ensures.before c.in_ok-one.ensures.after

pub returns-clause-shown : goal.returns-clause-shown
returns-clause-shown c =
    let apart : are_one c.args.key.now c.args.other.now ≡ false = search rules in
    let es = c.args.groups.now.entries in
    two-shown c.args.group.now es c.set_in-2.new.groups.entries c.set_in-3.new.groups.entries c.args.pos c.args.key.now c.args.other.now c.args.new apart
    (λ k. c.in_ok-left.ensures.rows k ∙ ap (λ (pos : PosTree). cond (is_key k c.args.key.now) (gone pos (group_members k es)) (group_members k es)) c.in_ok-place.ensures)
    c.in_ok-come.ensures.rows c.args.wish c.in_ok-left.left c.in_ok-come.come c.in_ok-both.both c.in_ok-left.ensures.shown c.in_ok-come.ensures.shown c.in_ok-both.ensures.before c.in_ok-both.ensures.after
