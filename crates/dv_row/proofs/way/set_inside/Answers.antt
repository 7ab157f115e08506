use Rattle.std.proofs.Common.{◌≡◌, ◌∙◌, ◌+◌, ◌-◌, ap, sym, take, Some, arith}
use Rattle.std.specs.Option.{option_map}
use Rattle.dv_value.specs.Tree.{document, fields_of}
use Rattle.dv_value.specs.View.{tree}
use Rattle.dv_value.specs.Inner.ListLaws.{take-read}
use Rattle.dv_row.specs.Inner.Crossings.{set_inward}
use Rattle.dv_row.proofs.OnWay.{set-innermost}
use Rattle.dv_row.proofs.way.set_inside.Goals as goal

pub outward-preserved : goal.outward-preserved
outward-preserved c =
    let inner = c.args.inner.now in
    let place = c.outward.place - 1 in
    let last = c.index-inner-place.result in
    let v = option_map tree c.outward.value in
    let back : place + 1 ≡ c.outward.place = omega arith in
    c.outward.invariant ∙ ap (λ n. set_inward (take n inner) v) (sym back)
    ∙ ap (λ cs. set_inward cs v) (take-read inner place last (omega arith) c.index-inner-place.is)
    ∙ set-innermost (take place inner) last v
    ∙ ap (λ fs. set_inward (take place inner) (Some (document (fields_of fs)))) (sym c.in_ok-with.ensures)
