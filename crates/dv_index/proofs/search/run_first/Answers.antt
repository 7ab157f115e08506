use Rattle.std.proofs.Common.{◌≡◌, ◌∙◌, ap, sym, Some, slice_get}
use Rattle.dv_keyed.specs.Inner.View.{bounds_seen, plan_seen}
use Rattle.dv_index.proofs.Places.{index-at}
use Rattle.dv_index.proofs.Gathered.{chosen-within, decided-within}
use Rattle.dv_index.proofs.search.run_first.Goals as goal

pub found_by-requires-clause-indexed : goal.found_by-requires-clause-indexed
found_by-requires-clause-indexed c = index-at c.args.indexes.now c.in-Index.place c.in-Some.index.now c.args.collection.now c.requires.indexed c.get.ensures.id_first (sym c.in-Some.ensures.index)

pub found_by-requires-clause-within : goal.found_by-requires-clause-within
found_by-requires-clause-within c = λ d h.
    let there : slice_get c.args.indexes.now c.in-Index.place ≡ Some c.in-Some.index.now = sym c.in-Some.ensures.index in
    chosen-within c.what_matches_is_in_the_bounds.ensures c.args.filter.now c.args.indexes.now c.in-Index.place (bounds_seen c.in-Index.bounds) c.in-Some.index.now d (sym c.requires.planned ∙ ap plan_seen c.in-Index.is) there h

pub found_by-requires-clause-decided : goal.found_by-requires-clause-decided
found_by-requires-clause-decided c = λ one d.
    let there : slice_get c.args.indexes.now c.in-Index.place ≡ Some c.in-Some.index.now = sym c.in-Some.ensures.index in
    decided-within c.one_condition_is_decided_by_its_bounds.ensures c.args.filter.now c.args.indexes.now c.in-Index.place (bounds_seen c.in-Index.bounds) c.in-Some.index.now d one (sym c.requires.planned ∙ ap plan_seen c.in-Index.is) there
