use Rattle.std.proofs.Common.{◌≡◌, length, decimal, Some, ap, sym, arith, rules}
use Rattle.std.specs.List.{slice_get}
use Rattle.std.proofs.lemmas.List.{length-map}
use Rattle.dv_value.specs.Measure.{IsMeasure}
use Rattle.dv_value.specs.Names.{place_under}
use Rattle.dv_value.specs.Tree.{Field, array, elements_of}
use Rattle.dv_value.specs.View.{tree}
use Rattle.dv_value.proofs.Resized.{measured-pushed}
use Rattle.dv_value.proofs.value.Measured.size_pushed.Goals as goal

pub returns : goal.returns
returns c =
    let f : Field = (c.in_ok-_name._name.now, tree c.in_ok-_name.found.now) in
    let vs = c.in-Array.list in
    let measure : IsMeasure c.in_ok-total.total c.args.self.now = search rules in
    let found : Some c.in_ok-place.place ≡ place_under c.args.name.now c.args.self.now = rw (← c.self.view_is) c.in_ok-place.ensures.place in
    let here : slice_get c.args.self.now c.in_ok-place.place ≡ Some f = rw (← c.self.view_is) (sym c.in_ok-_name.ensures) in
    let is : tree c.in_ok-_name.found.now ≡ array (elements_of vs) = ap tree c.in-Array.is in
    let count : c.digits-count.result ≡ length (decimal (length vs)) = rw (← c.as_slice.ensures, length-map) c.digits-count.ensures in
    measured-pushed c.args.name.now (tree c.args.value.now) c.in_ok-place.place c.args.self.now f vs found here is c.in_ok-total.total c.in_ok-size.size measure c.in_ok-size.ensures.valid c.in_ok-size.ensures.depth (omega (arith, count, c.in_ok-size.ensures.size)) (omega (arith, c.in_ok-size.ensures.within))
