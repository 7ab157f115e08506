use Rattle.std.proofs.Common.{Bor, ◌∙◌, ℕ, List, ap, filter, take}
use Rattle.std.specs.Option.{unwrap_or}
use Rattle.dv_value.specs.Tree.{Field}
use Rattle.dv_coll.specs.Collection.{HasId}
use Rattle.dv_index.specs.Inner.InDirection.{in_direction}
use Rattle.dv_match.specs.Match.{matches}
use Rattle.dv_pipe.specs.Sources.{rows_referred}
use Rattle.dv_catalog.specs.Inner.ScanLaws.{all_unsorted}
use Rattle.dv_catalog.proofs.ById.{first-by-id}
use Rattle.dv_catalog.proofs.by_id.first_by_id.Goals as goal

pub returns : goal.returns
returns c =
    let filter-form = c.args.filter.now in
    let test = matches filter-form in
    let ds = c.args.collection.now.documents in
    let law = c.documents_stand_where_they_are_found.ensures in
    let found = in_direction c.in-Some.direction (filter test ds) in
    c.in_ok-copies.ensures
    ∙ ap (λ (rows : List (Bor (List Field))). rows_referred rows) c.deref.ensures.value
    ∙ c.in_ok-found.ensures
    ∙ ap (λ (n : ℕ). take n found) c.unwrap_or.ensures
    ∙ ap (λ (n : ℕ). take (unwrap_or c.args.most n) found) c.len-all.ensures.count
    ∙ first-by-id c.args.sort.now c.in-Some.direction c.in-Some.ensures test ds (all_unsorted HasId filter-form 0 0 ds c.len-all.ensures.identified) (law.passing test ds ds (law.all ds c.len-all.ensures.ascending)).1 c.args.most
