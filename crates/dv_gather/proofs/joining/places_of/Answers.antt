use Rattle.std.proofs.Common.{◌∙◌, ◌||◌, ◌&&◌, ◌==◌, ap, sym}
use Rattle.dv_gather.specs.Inner.Places.{is_found}
use Rattle.dv_gather.proofs.Placed.{passes-referred}
use Rattle.dv_gather.proofs.joining.places_of.Goals as goal

pub documents-preserved : goal.documents-preserved
documents-preserved c = λ k i.
    let d = c.index-documents-place.result in
    let p = is_found c.args.lookup.now.foreign k in
    let here = c.documents.place == i in
    c.in_ok-add_place.ensures k i
    ∙ ap (λ b. b || (here && p d.now)) (c.documents.invariant k i)
    ∙ sym (passes-referred p c.args.documents.now c.documents.place d c.documents-test.true c.index-documents-place.is i)
