use Rattle.dv_candidates.proofs.Bits.{joined}
use Rattle.dv_candidates.proofs.places.Places.with.Goals as goal

pub returns : goal.returns
returns c = joined c.args.self.mask c.args.others.mask
