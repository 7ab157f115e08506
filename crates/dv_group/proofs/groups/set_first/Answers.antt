-- The row is the first one of the new group.
use Rattle.std.proofs.Common.{◌∙◌, ap, sym, Some}
use Rattle.std.specs.BTreeMap.{is_at}
use Rattle.std.specs.Map.{lookup}
use Rattle.dv_order.specs.Key.{KeyTree, key_order}
use Rattle.dv_group.specs.declared.group_state.GroupState.{GroupState}
use Rattle.dv_group.specs.Inner.Members.{group_members, rows_in, set_at}
use Rattle.dv_group.proofs.Under.{groups-put, changed-under, live-of, shown-alike, written-under}
use Rattle.dv_group.proofs.groups.set_first.Goals as goal

pub set-requires : goal.set-requires
set-requires c = live-of c.args.group.now c.in_ok-state.state c.of-live.result c.of-live.ensures.state c.of-live.ensures.row c.in_ok-state.ensures.sound

pub returns-clause-rows : goal.returns-clause-rows
returns-clause-rows c =
    let es = c.args.groups.now.entries in
    let fs = c.insert.new.self.entries in
    let key = c.args.key.now in
    let w = c.set.new.self in
    let none = ap (λ (b : GroupState). b.members) c.of-live.ensures.state ∙ c.in_ok-state.ensures.rows ∙ sym c.requires.none in
    changed-under es fs key (set_at c.args.pos c.args.row) (Some w) (c.in_ok-transition.ensures.rows ∙ ap (set_at c.args.pos c.args.row) none)
    (written-under es fs key c.in_ok-try_clone.field-0 (Some w) c.in_ok-try_clone.ensures c.in_ok-insert.ensures.updates.0)

pub returns-clause-sound : goal.returns-clause-sound
returns-clause-sound c =
    groups-put c.args.group.now c.in_ok-try_clone.field-0 c.set.new.self c.args.groups.now.entries c.insert.new.self.entries c.in_ok-insert.ensures.entries c.in_ok-transition.ensures.sound c.requires.sound

pub returns-clause-shown : goal.returns-clause-shown
returns-clause-shown c =
    let es = c.args.groups.now.entries in
    let fs = c.insert.new.self.entries in
    let key = c.args.key.now in
    let w = c.set.new.self in
    let none = ap (λ (b : GroupState). b.members) c.of-live.ensures.state ∙ c.in_ok-state.ensures.rows ∙ sym c.requires.none in
    shown-alike c.args.group.now c.args.wish c.of-live.result.state.members w.state.members (group_members key es) (group_members key fs) c.in_ok-transition.transition
    none (ap rows_in (sym c.in_ok-insert.ensures.updates.1) ∙ ap (λ (l : KeyTree). rows_in (lookup (is_at (key_order l)) fs)) c.in_ok-try_clone.ensures) c.in_ok-transition.ensures.shown
