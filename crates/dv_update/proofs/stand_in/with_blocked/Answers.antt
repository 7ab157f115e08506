use Rattle.std.proofs.Common.{◌≡◌, ◌∙◌, sym, true, false, inr, is_some}
use Rattle.dv_update.specs.Inner.StandIn.{new_value}
use Rattle.dv_update.specs.View.{operation}
use Rattle.dv_update.proofs.StandingIn.{blocked_refused, blocked_stays}
use Rattle.dv_update.proofs.stand_in.with_blocked.Goals as goal

pub returns-then-is_new : goal.returns-then-is_new
returns-then-is_new c = λ made stands.
    let o = operation c.args.edit.now.operation in
    let new : is_some (new_value o) ≡ true = sym c.is_new.ensures ∙ c.if-is_new.true in
    inr (blocked_refused c.args.beginning.now c.args.edit.now.path o c.requires.beginning made c.args.document stands.alike c.slots_tell_what_is_put.ensures.blocked c.requires.blocked new)

pub returns : goal.returns
returns c = λ made stands.
    let o = operation c.args.edit.now.operation in
    let none : is_some (new_value o) ≡ false = sym c.is_new.ensures ∙ c.if-is_new.false in
    (made, blocked_stays c.args.beginning.now c.args.edit.now.path o c.requires.beginning made c.args.document stands.alike c.requires.blocked c.requires.other none, stands)
