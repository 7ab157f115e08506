use Rattle.std.proofs.Common.{subst, sym}
use Rattle.dv_group.specs.Inner.Members.{IsShownIfWanted}
use Rattle.dv_group.proofs.Under.{live-shown}
use Rattle.dv_group.proofs.live_group.LiveGroup.settle.Goals as goal

pub returns-clause-sound : goal.returns-clause-sound
returns-clause-sound c =
    live-shown c.args.group.now c.args.wish c.args.self.now c.in_ok-copy.copy
    (subst (IsShownIfWanted c.args.wish c.args.group.now c.args.self.now.state.members) (sym c.in_ok-copy.ensures) c.in_ok-row.ensures) c.requires
