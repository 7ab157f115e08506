use Rattle.std.proofs.Common.{Bor, ◌∙◌, List, map, take, filter, ap}
use Rattle.std.proofs.lemmas.Result.{IfOk-weaker}
use Rattle.dv_value.specs.Tree.{Field}
use Rattle.dv_keyed.specs.Inner.Interval.{is_between, is_in_all}
use Rattle.dv_match.specs.Match.{matches}
use Rattle.dv_index.proofs.Walks.{no-walk, walk-matches}
use Rattle.dv_index.proofs.walk.walked.Goals as goal

pub returns-then-not-is_forward : goal.returns-then-not-is_forward
returns-then-not-is_forward c =
    ap (λ (ds : List (Bor (List Field))). map (λ (d : Bor (List Field)). d.now) ds) c.new.ensures.items
    ∙ no-walk c.an_only_key_is_in_all_bounds.ensures c.args.filter.now (is_between c.in_ok-ends.ends) (λ k all. c.in_ok-ends.ensures k (ap (λ path. is_in_all k path c.args.filter.now) c.id_path.ensures ∙ all)) c.args.direction c.args.collection.now c.law_ascending.ensures.identified (c.is_forward.ensures.empty c.if-not-is_forward.true) c.args.most

pub returns : goal.returns
returns c =
    IfOk-weaker c.scan.result _ _ (λ found is.
    is
    ∙ ap (take c.args.most) (ap (filter (matches c.args.filter.now)) c.walk_between.ensures
    ∙ walk-matches c.an_only_key_is_in_all_bounds.ensures c.args.filter.now (is_between c.in_ok-ends.ends) (λ k all. c.in_ok-ends.ensures k (ap (λ path. is_in_all k path c.args.filter.now) c.id_path.ensures ∙ all)) c.args.direction c.args.collection.now c.law_ascending.ensures.identified)) c.scan.ensures
