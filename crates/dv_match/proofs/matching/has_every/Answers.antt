use Rattle.std.proofs.Common.{◌∙◌, ◌<◌, ap, arith, length}
use Rattle.dv_match.specs.Inner.Asked.{parts}
use Rattle.dv_match.proofs.Items.{length-seen}
use Rattle.dv_match.proofs.Marked.{every-chosen}
use Rattle.dv_match.proofs.matching.has_every.Goals as goal

pub returns-then-as_slice-gt-FEW : goal.returns-then-as_slice-gt-FEW
returns-then-as_slice-gt-FEW c =
    let values = c.as_slice.result.now in
    let some : 0 < length c.args.choices.now = omega (arith, length-seen values, ap length c.as_slice.ensures, ap length c.values-values.ensures, c.if-as_slice-gt-FEW.true) in
    c.have_equals.ensures ∙ every-chosen c.args.choices.now c.ascending.result.now (parts c.args.place) c.ascending.ensures some
