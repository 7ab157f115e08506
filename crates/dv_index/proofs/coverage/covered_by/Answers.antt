use Rattle.std.proofs.Common.{Bor, ◌∙◌, List, ap, sym, filter, length, map}
use Rattle.std.proofs.lemmas.List.Sums.{length-filter}
use Rattle.dv_value.specs.Tree.{Field}
use Rattle.dv_keyed.specs.Within.{has_within}
use Rattle.dv_keyed.specs.Inner.View.{bounds_seen}
use Rattle.dv_keyed.specs.Inner.ListLaws.{map-kept, length-lent}
use Rattle.dv_index.proofs.coverage.covered_by.Goals as goal

pub returns : goal.returns
returns c =
    let test = has_within (bounds_seen c.args.bounds) c.args.index.now.path in
    let lent = λ (x : Bor (List Field)). has_within (bounds_seen c.args.bounds) c.path.result.now x.now in
    let now = λ (x : Bor (List Field)). x.now in
    c.count_within.ensures
    ∙ sym (length-filter lent c.deref.result.now)
    ∙ sym (length-lent (filter lent c.deref.result.now))
    ∙ ap length (map-kept (has_within (bounds_seen c.args.bounds) c.path.result.now) c.deref.result.now)
    ∙ ap (λ p. length (filter (has_within (bounds_seen c.args.bounds) p) (map now c.deref.result.now))) c.path.ensures
    ∙ ap (λ xs. length (filter test (map now xs))) c.deref.ensures.value
    ∙ ap length (c.in_ok-found.ensures.all test (λ d h. h))
    ∙ length-filter test c.args.collection.now
