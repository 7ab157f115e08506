use Rattle.std.proofs.Common.{◌∙◌, ap, filter, length, take}
use Rattle.std.proofs.lemmas.List.{take_all}
use Rattle.std.proofs.lemmas.Result.{IfOk-weaker}
use Rattle.dv_match.specs.Match.{matches}
use Rattle.dv_index.proofs.search.run.Goals as goal
use Rattle.dv_value.specs.Inner.ListLaws.{filter-length}

pub returns : goal.returns
returns c =
    let test = matches c.args.filter.now in
    let ds = c.args.collection.now in
    IfOk-weaker c.run_first.result _ _ (λ found is. is ∙ ap (λ n. take n (filter test ds)) c.len.ensures.count ∙ take_all (length ds) (filter test ds) (filter-length test ds)) c.run_first.ensures
