use Rattle.dv_core.proofs.Stored.{within_limits_fits}
use Rattle.dv_core.proofs.laws.limits_are_those_of_reading.Goals as goal

pub returns : goal.returns
returns c = within_limits_fits
