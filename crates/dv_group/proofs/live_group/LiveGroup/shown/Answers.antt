use Rattle.std.proofs.Common.{◌∙◌, Some, ap, subst}
use Rattle.dv_group.specs.Inner.Members.{IsRowIfMade}
use Rattle.dv_group.proofs.live_group.LiveGroup.shown.Goals as goal

pub returns-in_ok-try_clone-in-Some : goal.returns-in_ok-try_clone-in-Some
returns-in_ok-try_clone-in-Some c = ap Some c.in_ok-try_clone-in-Some.ensures ∙ subst (IsRowIfMade c.args.group.now c.args.self.now.state.members) c.in-Some.is c.requires.row
