use Rattle.dv_wire.proofs.Cuts.{feeds_joined, feeds_all}
use Rattle.dv_wire.proofs.laws.cuts_do_not_matter.Goals as goal

pub returns : goal.returns
returns c = λ old new session piece pieces bytes answer.
    (feeds_all c.splitting_goes_on.ensures old new session piece pieces bytes answer, feeds_joined c.splitting_goes_on.ensures old new session piece pieces bytes answer)
