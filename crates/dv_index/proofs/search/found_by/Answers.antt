use Rattle.std.proofs.Common.{Bor, ◌≡◌, ◌∙◌, List, ap, filter, sym, map, take}
use Rattle.std.proofs.lemmas.List.{take-map}
use Rattle.std.proofs.lemmas.Result.{IfOk-weaker}
use Rattle.dv_value.specs.Tree.{Field}
use Rattle.dv_value.specs.Inner.ListLaws.{some-is}
use Rattle.dv_match.specs.Match.{matches}
use Rattle.dv_index.proofs.search.found_by.Goals as goal
use Rattle.dv_keyed.specs.Inner.ListLaws.{map-kept}

pub returns-in-Some : goal.returns-in-Some
returns-in-Some c =
    let now = λ (x : Bor (List Field)). x.now in
    let all = some-is c.in-Some.all (λ documents. map now documents.items ≡ filter (matches c.args.filter.now) c.args.collection.now) _ c.in-Some.is c.in_ok-all.ensures in
    ap (map now) c.first.ensures ∙ sym (take-map now c.args.most _) ∙ ap (take c.args.most) all

pub returns : goal.returns
returns c =
    let now = λ (x : Bor (List Field)). x.now in
    let test = matches c.args.filter.now in
    IfOk-weaker c.matching.result _ _ (λ found is.
    ap (map now) is
    ∙ sym (take-map now c.args.most _)
    ∙ ap (take c.args.most) (map-kept test c.in_ok-found.found.items ∙ c.in_ok-found.ensures)) c.matching.ensures
