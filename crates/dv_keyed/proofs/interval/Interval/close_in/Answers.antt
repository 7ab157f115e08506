use Rattle.dv_keyed.proofs.Between.{narrowed}
use Rattle.dv_keyed.proofs.interval.Interval.close_in.Goals as goal

pub returns : goal.returns
returns c = λ k was inside.
    narrowed c.args.self.now.low c.args.self.now.high c.raise.new.low c.lower.new.high c.args.low c.args.high k (c.raise.ensures k) (c.lower.ensures k) was inside
