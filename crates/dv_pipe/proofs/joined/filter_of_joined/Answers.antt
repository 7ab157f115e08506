use Rattle.std.proofs.Common.{◌∙◌, ap, filter, map}
use Rattle.std.proofs.lemmas.Result.{IfOk-weaker}
use Rattle.std.specs.List.{list_any}
use Rattle.dv_value.specs.View.{tree}
use Rattle.dv_value.specs.Inner.ListLaws.{take-past}
use Rattle.dv_match.specs.Match.{matches}
use Rattle.dv_gather.specs.Joining.{joined_by}
use Rattle.dv_gather.specs.Lookups.{looked_up}
use Rattle.dv_pipe.specs.Inner.Joined.{having_one_of}
use Rattle.dv_pipe.specs.Sources.{rows_referred}
use Rattle.dv_pipe.proofs.RowsJoined.{rows-same}
use Rattle.dv_pipe.proofs.joined.filter_of_joined.Goals as goal

pub returns : goal.returns
returns c =
    let lookup = c.args.lookup.now in
    let values = map tree c.rows.values.items in
    let rows = rows_referred c.args.rows.now in
    let all = take-past c.args.rows.now c.rows.row-index c.rows-test.false in
    IfOk-weaker c.has_one_of.result _ _
    (λ form is others.
    ap (λ f. looked_up lookup rows (filter (matches f) others)) (is ∙ ap (having_one_of lookup.foreign) c.of.ensures)
    ∙ rows-same lookup values rows (λ test e. c.rows.invariant test ∙ ap (λ rs. list_any (λ d. list_any test (joined_by lookup.local d)) (rows_referred rs)) all ∙ e) others)
    c.has_one_of.ensures
