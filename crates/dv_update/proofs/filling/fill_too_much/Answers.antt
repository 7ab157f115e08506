use Rattle.std.proofs.Common.{◌≡◌, ◌∙◌, ap, map}
use Rattle.dv_update.specs.Inner.Filling.{fills, least_size}
use Rattle.dv_update.specs.Inner.FillView.{fill}
use Rattle.dv_update.specs.View.{edit}
use Rattle.dv_update.proofs.Counted.{least_made, more-made}
use Rattle.dv_update.proofs.filling.fill_too_much.Goals as goal

pub returns : goal.returns
returns c = λ much after made.
    let es = map edit c.args.edits.now in
    let d = c.args.document.now in
    let are : map fill c.deref.result.now ≡ fills d es = ap (map fill) c.deref.ensures.value ∙ c.in_ok-fills.ensures in
    more-made c.least_size.result (least_size (map fill c.deref.result.now)) _ after much c.least_size.ensures (ap least_size are)
    (least_made c.paths_that_part_are_independent.ensures.slot c.what_was_put_is_there.ensures.there d c.slots_tell_what_is_put.ensures.taken es c.requires after made)
