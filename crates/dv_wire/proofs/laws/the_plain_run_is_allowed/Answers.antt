use Rattle.dv_wire.proofs.Cuts.{plain_feeds}
use Rattle.dv_wire.proofs.laws.the_plain_run_is_allowed.Goals as goal

pub returns : goal.returns
returns c = plain_feeds c.splitting_goes_on.ensures c.the_counted_step_is_allowed.ensures
