-- What is found by the keys of the row is what it is joined with.
use Rattle.std.proofs.Common.{◌∙◌, ap}
use Rattle.std.proofs.lemmas.Result.{IfOk-weaker}
use Rattle.dv_value.specs.Tree.{array, elements_of}
use Rattle.dv_gather.specs.Lookups.{set_field}
use Rattle.dv_join.specs.Inner.Turning.{has_foreign}
use Rattle.dv_join.proofs.Sharing.{found-joined}
use Rattle.dv_join.proofs.joining.joined_row.Goals as goal

pub returns : goal.returns
returns c =
    let l = c.args.lookup.now in
    IfOk-weaker c.row_with.result _ _ (λ joined h documents row are is own.
    h ∙ ap (λ vs. set_field l.target (array (elements_of vs)) c.args.copied.now) (c.in_ok-matches.ensures (has_foreign l) documents are is ∙ found-joined l row documents c.args.keys.now.keys own)) c.row_with.ensures
