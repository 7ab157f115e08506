-- If the front is full, the place of its last row.
use Rattle.std.proofs.Common.{rules, ◌≡◌, ◌∙◌, ◌<◌, ◌≤◌, ◌-◌, ap, arith, length, slice_get, sym, Some}
use Rattle.dv_flow.proofs.Fronts.{last-empty, last-is, last-none, no-length}
use Rattle.dv_flow.proofs.limit.LimitOperator.last_place.Goals as goal

pub returns-then-len-self : goal.returns-then-len-self
returns-then-len-self c =
    let few : length c.args.self.now.front.entries < c.args.self.now.count = omega arith in
    sym (last-none c.args.self.now.count c.args.self.now.front.entries c.args.self.now.rest.entries c.requires.front few)

pub returns-in_ok-try_clone-in-Some : goal.returns-in_ok-try_clone-in-Some
returns-in_ok-try_clone-in-Some c =
    let xs = c.args.self.now.front.entries in
    let full : c.args.self.now.count ≤ length xs = omega arith in
    let there : slice_get xs (length xs - 1) ≡ Some (c.in-Some.pos.now, c.in-Some.field-0-1.now) = search rules in
    ap Some c.in_ok-try_clone-in-Some.ensures ∙ sym (last-is c.args.self.now.count c.in-Some.pos.now c.in-Some.field-0-1.now xs c.args.self.now.rest.entries c.requires.front full there)

pub returns-in-None : goal.returns-in-None
returns-in-None c =
    let xs = c.args.self.now.front.entries in
    let full : c.args.self.now.count ≤ length xs = omega arith in
    sym (last-empty c.args.self.now.count xs c.args.self.now.rest.entries full (no-length xs c.in-None.ensures.variant))
