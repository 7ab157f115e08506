use Rattle.std.proofs.Common.{◌==◌, ap}
use Rattle.std.proofs.lemmas.Nat.Bits.{shr_and_one}
use Rattle.dv_match.specs.Inner.Blocks.{has}
use Rattle.dv_match.proofs.marks.Marks.has.Goals as goal

pub returns : goal.returns
unfolding has
returns c = ap (λ b. b == 1) (shr_and_one c.args.self.bits c.args.place)
