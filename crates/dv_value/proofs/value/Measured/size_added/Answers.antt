use Rattle.std.proofs.Common.{arith, rules}
use Rattle.dv_value.specs.Measure.{IsMeasure}
use Rattle.dv_value.specs.Tree.{Field}
use Rattle.dv_value.specs.View.{tree}
use Rattle.dv_value.proofs.Resized.{measured-more}
use Rattle.dv_value.proofs.value.Measured.size_added.Goals as goal

pub returns : goal.returns
returns c =
    let f : Field = (c.args.name.now, tree c.args.value.now) in
    let measure : IsMeasure c.in_ok-total.total c.args.self.now = search rules in
    measured-more c.args.self.now f c.in_ok-total.total c.in_ok-size.size measure (search rules) c.requires.whole c.requires.fresh c.in_ok-size.ensures.valid c.in_ok-size.ensures.depth (omega (arith, c.in_ok-size.ensures.size)) (omega (arith, c.in_ok-size.ensures.within))
