use Rattle.std.proofs.Common.{◌∙◌, ◌||◌, ap}
use Rattle.dv_candidates.specs.Inner.Places.{has}
use Rattle.dv_candidates.proofs.Bits.{joined, moved}
use Rattle.dv_candidates.proofs.places.Places.with_behind.Goals as goal

pub returns : goal.returns
returns c place = joined c.args.self.mask _ place ∙ ap (λ b. has c.args.self place || b) (moved c.args.others.mask place c.if-others-ne0.false)
