use Rattle.std.proofs.Common.{◌∙◌, ap, sym, map}
use Rattle.std.proofs.lemmas.Result.{IfOk-weaker}
use Rattle.std.specs.Option.{option_map}
use Rattle.dv_keyed.specs.Inner.Index.{IndexTree}
use Rattle.dv_index.specs.Search.{covered, covered_at}
use Rattle.dv_keyed.specs.Inner.View.{bounds_seen, plan_seen}
use Rattle.dv_index.proofs.Places.{index-at, path-at}
use Rattle.dv_index.proofs.coverage.covered.Goals as goal

pub returns-in-Scan : goal.returns-in-Scan
unfolding covered
returns-in-Scan c = c.len.ensures.count ∙ sym (ap (λ p. covered (plan_seen p) (map (λ (i : IndexTree). i.path) c.args.indexes.now) c.args.collection.now) c.in-Scan.is)

pub covered_by-requires : goal.covered_by-requires
covered_by-requires c = index-at c.args.indexes.now c.in-Index.place c.in-Some.index.now c.args.collection.now c.requires c.get.ensures.id_first (sym c.in-Some.ensures.index)

pub returns-in-Some : goal.returns-in-Some
unfolding covered
returns-in-Some c =
    let there = path-at c.args.indexes.now c.in-Index.place ∙ ap (option_map (λ (i : IndexTree). i.path)) (sym c.in-Some.ensures.index) in
    IfOk-weaker c.covered_by.result _ _ (λ count is. is ∙ sym (ap (λ p. covered (plan_seen p) (map (λ (i : IndexTree). i.path) c.args.indexes.now) c.args.collection.now) c.in-Index.is ∙ ap (λ o. covered_at o (bounds_seen c.in-Index.bounds) c.args.collection.now) there)) c.covered_by.ensures

pub returns-in-None : goal.returns-in-None
unfolding covered
returns-in-None c =
    let there = path-at c.args.indexes.now c.in-Index.place ∙ ap (option_map (λ (i : IndexTree). i.path)) (sym c.in-None.ensures.index) in
    sym (ap (λ p. covered (plan_seen p) (map (λ (i : IndexTree). i.path) c.args.indexes.now) c.args.collection.now) c.in-Index.is ∙ ap (λ o. covered_at o (bounds_seen c.in-Index.bounds) c.args.collection.now) there)
