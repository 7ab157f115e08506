-- The changed group is in the slot of the old one, or is removed if it has no rows left.
use Rattle.std.proofs.Common.{◌∙◌, ap, sym, None, Some}
use Rattle.dv_group.specs.Inner.Members.{group_members, rows_in, set_at}
use Rattle.dv_group.proofs.Under.{group-there, groups-left, groups-written, changed-under, found-there, shown-alike, written-over, written-there}
use Rattle.dv_group.proofs.groups.set_under.Goals as goal

pub set-requires : goal.set-requires
set-requires c = group-there c.args.group.now c.args.key.now c.in-Some.live.now c.args.groups.now.entries (sym c.in-Some.ensures.value) c.requires

pub set_first-requires-clause-sound : goal.set_first-requires-clause-sound
set_first-requires-clause-sound c = rw c.get_mut.follows.holds-at-none c.requires

pub set_first-requires-clause-none : goal.set_first-requires-clause-none
set_first-requires-clause-none c = rw c.get_mut.follows.holds-at-none (ap rows_in (sym c.in_default.ensures.value))

pub returns-then-is_empty-clause-rows : goal.returns-then-is_empty-clause-rows
returns-then-is_empty-clause-rows c =
    let m = c.args.groups.now in
    let key = c.args.key.now in
    let w = c.set.new.self in
    let n = c.get_mut.follows.lender w in
    let fs = c.remove.new.self.entries in
    let written = written-there m n key c.in-Some.live.now w c.in-Some.ensures.value (c.get_mut.follows.holds w) in
    changed-under m.entries fs key (set_at c.args.pos c.args.row) None
    (sym (c.is_empty.ensures.0 c.if-is_empty.true) ∙ c.in_ok-transition.ensures.rows ∙ ap (set_at c.args.pos c.args.row) (ap rows_in c.in-Some.ensures.value))
    (written-over m.entries n.entries fs key (Some w) None written c.remove.ensures.updates.0)

pub returns-then-is_empty-clause-sound : goal.returns-then-is_empty-clause-sound
returns-then-is_empty-clause-sound c =
    let g = c.args.group.now in
    let key = c.args.key.now in
    let w = c.set.new.self in
    let ms = (c.get_mut.follows.lender w).entries in
    groups-left g key ms c.remove.new.self.entries c.remove.ensures.entries
    (groups-written g key w c.args.groups.now.entries ms (c.get_mut.follows.holds w).0 c.in_ok-transition.ensures.sound c.requires)

pub returns-then-is_empty-clause-shown : goal.returns-then-is_empty-clause-shown
returns-then-is_empty-clause-shown c =
    let es = c.args.groups.now.entries in
    let fs = c.remove.new.self.entries in
    let w = c.set.new.self in
    let key = c.args.key.now in
    shown-alike c.args.group.now c.args.wish c.in-Some.live.now.state.members w.state.members (group_members key es) (group_members key fs) c.in_ok-transition.transition
    (ap rows_in c.in-Some.ensures.value) (c.is_empty.ensures.0 c.if-is_empty.true ∙ ap rows_in (sym c.remove.ensures.updates.1)) c.in_ok-transition.ensures.shown

pub returns-clause-rows : goal.returns-clause-rows
returns-clause-rows c =
    let m = c.args.groups.now in
    let key = c.args.key.now in
    let w = c.set.new.self in
    let n = c.get_mut.follows.lender w in
    changed-under m.entries n.entries key (set_at c.args.pos c.args.row) (Some w) (c.in_ok-transition.ensures.rows ∙ ap (set_at c.args.pos c.args.row) (ap rows_in c.in-Some.ensures.value))
    (written-there m n key c.in-Some.live.now w c.in-Some.ensures.value (c.get_mut.follows.holds w))

pub returns-clause-sound : goal.returns-clause-sound
returns-clause-sound c =
    let w = c.set.new.self in
    groups-written c.args.group.now c.args.key.now w c.args.groups.now.entries (c.get_mut.follows.lender w).entries (c.get_mut.follows.holds w).0 c.in_ok-transition.ensures.sound c.requires

pub returns-clause-shown : goal.returns-clause-shown
returns-clause-shown c =
    let m = c.args.groups.now in
    let key = c.args.key.now in
    let w = c.set.new.self in
    let n = c.get_mut.follows.lender w in
    shown-alike c.args.group.now c.args.wish c.in-Some.live.now.state.members w.state.members (group_members key m.entries) (group_members key n.entries) c.in_ok-transition.transition
    (ap rows_in c.in-Some.ensures.value) (ap rows_in (found-there m n key c.in-Some.live.now w c.in-Some.ensures.value (c.get_mut.follows.holds w))) c.in_ok-transition.ensures.shown
