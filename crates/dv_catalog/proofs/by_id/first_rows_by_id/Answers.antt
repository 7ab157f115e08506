use Rattle.std.proofs.Common.{Bor, ◌∙◌, List, ap}
use Rattle.dv_value.specs.Tree.{Field}
use Rattle.dv_coll.specs.Collection.{HasId}
use Rattle.dv_match.specs.Match.{matches}
use Rattle.std.proofs.Common.{filter}
use Rattle.dv_pipe.specs.Sources.{rows_referred}
use Rattle.dv_catalog.specs.Inner.ScanLaws.{all_unsorted}
use Rattle.dv_catalog.proofs.ById.{in-order}
use Rattle.dv_catalog.proofs.by_id.first_rows_by_id.Goals as goal

pub returns : goal.returns
returns c =
    let form = c.args.filter.now in
    let test = matches form in
    let ds = c.args.rows.now in
    let law = c.documents_stand_where_they_are_found.ensures in
    c.in_ok-copies.ensures
    ∙ ap (λ (rows : List (Bor (List Field))). rows_referred rows) c.deref.ensures.value
    ∙ c.in_ok-found.ensures
    ∙ in-order c.args.sort.now c.in-Some.direction c.in-Some.ensures (filter test ds) (all_unsorted HasId form 0 0 ds (c.in_ok-has_array_id.ensures c.if-branch.false)) (law.passing test ds ds (law.all ds c.law_ascending.ensures)).1 c.args.most
