use Rattle.dv_match.proofs.Interval.{straight-interval}
use Rattle.dv_match.proofs.laws.bounds_without_arrays.Goals as goal

pub returns : goal.returns
returns c = straight-interval
