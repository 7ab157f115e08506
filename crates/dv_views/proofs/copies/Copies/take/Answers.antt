use Rattle.std.proofs.Common.{◌≡◌, None, Option, Some, ap, refl, subst, sym, ◌∙◌}
use Rattle.std.specs.Option.{option_map}
use Rattle.dv_change.specs.declared.taking.Taken as taking
use Rattle.dv_views.specs.Inner.Copies.{HaveCopy, HaveTold, copies_seen, copy_under}
use Rattle.dv_views.proofs.Copied.{copy_changed, copy_found, copy_over, none_positioned, positioned_with, rows_of, some_positioned, still_none}
use Rattle.dv_views.proofs.copies.Copies.take.Goals as goal

pub invariant_of-self : goal.invariant_of-self
invariant_of-self c = rw c.get_mut.follows.holds-at-none c.self.invariant

pub returns-in_err-rows : goal.returns-in_err-rows
returns-in_err-rows c =
    let name = c.args.namespace.now in
    let before = c.self.inside.lists.entries in
    let none : copy_under name (copies_seen before) ≡ None = copy_found name before ∙ ap (option_map rows_of) (sym c.in_err-rows.ensures.value) in
    let kept : HaveCopy name None c.args.self.now (copies_seen c.get_mut.follows.lender-at-none.entries) = rw c.get_mut.follows.holds-at-none (rw (← c.self.view_is) (still_none name (copies_seen before) none)) in
    subst (λ (told : Option taking.Taken). HaveTold name c.args.change.now c.args.self.now (copies_seen c.get_mut.follows.lender-at-none.entries) told) (sym c.from_residual.ensures) kept

pub taken_in-requires : goal.taken_in-requires
taken_in-requires c =
    let name = c.args.namespace.now in
    let before = c.self.inside.lists.entries in
    c.self.invariant name c.in_ok-rows.rows.now.entries (copy_found name before ∙ ap (option_map rows_of) (sym c.in_ok-rows.ensures.value))

pub invariant_of-self-in-Ok : goal.invariant_of-self-in-Ok
invariant_of-self-in-Ok c =
    let name = c.args.namespace.now in
    let before = c.self.inside.lists in
    let written = c.taken_in.new.rows in
    let after = c.get_mut.follows.lender written in
    positioned_with name (Some written.entries) (copies_seen before.entries) (copies_seen after.entries) (copy_changed name before after (Some written) ((c.get_mut.follows.holds written).3 (rw (← c.in_ok-rows.ensures.value) refl)))
    (some_positioned written.entries c.in-Ok.ensures.positioned) c.self.invariant

pub invariant_of-self-in-Err : goal.invariant_of-self-in-Err
invariant_of-self-in-Err c =
    let name = c.args.namespace.now in
    let before = c.self.inside.lists in
    let written = c.taken_in.new.rows in
    let now = c.get_mut.follows.lender written in
    let after = c.swap_remove.new.self in
    positioned_with name None (copies_seen before.entries) (copies_seen after.entries)
    (copy_over name (Some written.entries) None (copies_seen before.entries) (copies_seen now.entries) (copies_seen after.entries)
    (copy_changed name before now (Some written) ((c.get_mut.follows.holds written).3 (rw (← c.in_ok-rows.ensures.value) refl))) (copy_changed name now after None c.swap_remove.ensures.updates))
    none_positioned c.self.invariant

pub returns-in-Ok : goal.returns-in-Ok
returns-in-Ok c =
    let name = c.args.namespace.now in
    let before = c.self.inside.lists in
    let written = c.taken_in.new.rows in
    let after = c.get_mut.follows.lender written in
    rw (← c.self.view_is) (record {
      rows = c.in_ok-rows.rows.now.entries;
      there = copy_found name before.entries ∙ ap (option_map rows_of) (sym c.in_ok-rows.ensures.value);
      told = c.in-Ok.ensures.told;
      copies = rw (← c.in-Ok.ensures.rows) (copy_changed name before after (Some written) ((c.get_mut.follows.holds written).3 (rw (← c.in_ok-rows.ensures.value) refl)));
    })

pub returns-in-Err : goal.returns-in-Err
returns-in-Err c =
    let name = c.args.namespace.now in
    let before = c.self.inside.lists in
    let written = c.taken_in.new.rows in
    let now = c.get_mut.follows.lender written in
    let after = c.swap_remove.new.self in
    rw (← c.self.view_is)
    (copy_over name (Some written.entries) None (copies_seen before.entries) (copies_seen now.entries) (copies_seen after.entries)
    (copy_changed name before now (Some written) ((c.get_mut.follows.holds written).3 (rw (← c.in_ok-rows.ensures.value) refl))) (copy_changed name now after None c.swap_remove.ensures.updates))
