use Rattle.std.proofs.Common.{◌≡◌, Some, sym, arith, rules}
use Rattle.std.specs.List.{slice_get}
use Rattle.dv_value.specs.Measure.{IsMeasure}
use Rattle.dv_value.specs.Tree.{Field}
use Rattle.dv_value.specs.View.{tree}
use Rattle.dv_value.proofs.Resized.{payload-within, measured-with}
use Rattle.dv_value.proofs.value.Measured.size_with.Goals as goal

pub with_other-requires : goal.with_other-requires
with_other-requires c =
    let f : Field = (c.in_ok-_name._name.now, tree c.in_ok-_name.before.now) in
    let measure : IsMeasure c.in_ok-total.total c.args.self.now = search rules in
    let here : slice_get c.args.self.now c.args.place ≡ Some f = rw (← c.self.view_is) (sym c.in_ok-_name.ensures) in
    omega (arith, measure.whole, payload-within c.args.place c.args.self.now f here)

pub returns : goal.returns
returns c =
    let f : Field = (c.in_ok-_name._name.now, tree c.in_ok-_name.before.now) in
    let measure : IsMeasure c.in_ok-total.total c.args.self.now = search rules in
    let here : slice_get c.args.self.now c.args.place ≡ Some f = rw (← c.self.view_is) (sym c.in_ok-_name.ensures) in
    measured-with (tree c.args.value.now) c.args.place c.args.self.now f c.in_ok-total.total c.with_other.result here measure c.with_other.ensures.valid c.with_other.ensures.depth c.with_other.ensures.size c.with_other.ensures.within
