-- The row that was at the position is removed from the states, and then the new row is added.
use Rattle.std.proofs.Common.{◌≡◌, ◌≤◌, ◌∙◌, None, arith, length, refl, sym}
use Rattle.dv_change.specs.Changes.{at}
use Rattle.dv_change.specs.Inner.Answered.{ok-both}
use Rattle.dv_change.specs.Inner.Ordered.{gone}
use Rattle.dv_group.specs.declared.group_state.GroupState.{GroupState}
use Rattle.dv_group.specs.Inner.Members.{set_at}
use Rattle.dv_group.specs.Inner.SumBounds.{most_rows}
use Rattle.dv_group.proofs.AccumulatorStates.{fewer}
use Rattle.dv_group.proofs.GroupStates.{none-left, room-for-some, room-without, set-over, sound-with, sound-without}
use Rattle.dv_group.proofs.group_state.GroupState.set.Goals as goal

pub apply_some-requires : goal.apply_some-requires
apply_some-requires c = room-without c.args.group.now.fields c.args.pos c.law_exact.ensures c.args.self.now c.requires c.in_ok-old.old c.law_few.ensures c.in_ok-old.ensures.stood

pub apply_some-requires-2 : goal.apply_some-requires-2
apply_some-requires-2 c =
    let fields = c.args.group.now.fields in
    let p = c.args.pos in
    let before = c.args.self.now in
    let left : GroupState = record { members = gone p before.members; states = c.apply_some.new.states } in
    let sound = sound-without fields p c.law_exact.ensures before c.requires left c.in_ok-old.old c.in_ok-old.ensures.stood refl c.in_ok-apply_some.ensures.states in
    let fewer_left = fewer p before.members in
    let few : length left.members ≤ most_rows = omega (arith, c.law_few.ensures, fewer_left) in
    room-for-some fields p c.law_exact.ensures left sound c.args.row few

pub returns-clause-sound : goal.returns-clause-sound
returns-clause-sound c =
    let fields = c.args.group.now.fields in
    let p = c.args.pos in
    let row = c.args.row in
    let before = c.args.self.now in
    let left : GroupState = record { members = gone p before.members; states = c.apply_some.new.states } in
    let sound = sound-without fields p c.law_exact.ensures before c.requires left c.in_ok-old.old c.in_ok-old.ensures.stood refl c.in_ok-apply_some.ensures.states in
    let after : GroupState = record { members = c.exchange.new.rows; states = c.apply_some-2.new.states } in
    let none : at p left.members ≡ None = none-left p before.members c.requires.positioned in
    let come : after.members ≡ set_at p row left.members = c.in_ok-old.ensures.rows ∙ sym (set-over p row before.members c.requires.positioned c.law_exact.ensures) in
    ok-both c.apply_some-2.result c.apply_some-2.ensures.states c.apply_some-2.ensures.summable (λ changed summable. sound-with fields p c.law_exact.ensures left sound after row none come changed summable)
