use Rattle.dv_message.proofs.Growth.{split_continues}
use Rattle.dv_message.proofs.laws.splitting_goes_on.Goals as goal

pub returns : goal.returns
returns c = split_continues
