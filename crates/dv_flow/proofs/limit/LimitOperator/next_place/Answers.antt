-- The place of the first of the others.
use Rattle.std.proofs.Common.{rules, ◌≡◌, ◌∙◌, ap, slice_get, sym, Some}
use Rattle.dv_flow.proofs.Fronts.{next-empty, next-first, next-is, no-length}
use Rattle.dv_flow.proofs.limit.LimitOperator.next_place.Goals as goal

pub returns-in_ok-try_clone-in-Some : goal.returns-in_ok-try_clone-in-Some
returns-in_ok-try_clone-in-Some c =
    let ys = c.args.self.now.rest.entries in
    let there : slice_get ys 0 ≡ Some (c.in-Some.pos.now, c.in-Some.field-0-1.now) = search rules in
    ap Some c.in_ok-try_clone-in-Some.ensures ∙ sym (next-is c.args.self.now.count c.args.self.now.front.entries ys c.requires.front ∙ next-first ys c.in-Some.pos.now c.in-Some.field-0-1.now there)

pub returns-in-None : goal.returns-in-None
returns-in-None c =
    let ys = c.args.self.now.rest.entries in
    sym (next-is c.args.self.now.count c.args.self.now.front.entries ys c.requires.front ∙ next-empty ys (no-length ys c.in-None.ensures.variant))
