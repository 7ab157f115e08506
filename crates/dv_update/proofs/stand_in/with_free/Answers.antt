use Rattle.std.proofs.Common.{◌≡◌, None, rules}
use Rattle.dv_update.specs.Inner.StandIn.{new_value}
use Rattle.dv_update.specs.View.{operation}
use Rattle.dv_update.proofs.StandingIn.{free_stays}
use Rattle.dv_update.proofs.stand_in.with_free.Goals as goal

pub returns : goal.returns
returns c = λ made stands.
    let o = operation c.args.edit.now.operation in
    let none : new_value o ≡ None = search (rules, c.in_ok-value.ensures) in
    (made, free_stays c.args.beginning c.args.edit.now.path o c.requires.beginning made c.args.document stands.alike c.requires.free c.requires.other none, stands)
