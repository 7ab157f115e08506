use Rattle.std.proofs.Common.{ap, map, take_all, ◌∙◌}
use Rattle.dv_gather.specs.Lookups.{joined_row, looked_up}
use Rattle.dv_pipe.specs.Sources.{rows_referred}
use Rattle.dv_catalog.specs.Inner.SearchedView.{searched}
use Rattle.dv_catalog.proofs.behind.joined.Goals as goal

pub returns : goal.returns
unfolding looked_up
returns c =
    let lookup = c.args.lookup.now in
    let rows = rows_referred c.args.rows.now in
    let join = c.join-2.inside in
    c.rows.invariant
    ∙ ap (λ rs. map (joined_row join.lookup.now (rows_referred join.documents.now)) (rows_referred rs)) (take_all c.rows.row-index c.args.rows.now c.rows-test.false)
    ∙ ap (λ j. map (joined_row j.0 j.1) rows) (c.join-2.view_is ∙ c.in_ok-join.ensures)
    ∙ ap (λ os. map (joined_row lookup (rows_referred os)) rows) c.deref.ensures.value
    ∙ ap (looked_up lookup rows) c.in_ok-others.ensures
    ∙ c.in_ok-filter.ensures (searched c.args.within)
