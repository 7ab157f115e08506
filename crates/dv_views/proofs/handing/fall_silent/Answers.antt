use Rattle.std.proofs.Common.{◌<◌, ◌∙◌, ℕ, List, ap, get_or, length, refl, subst, sym, arith}
use Rattle.std.proofs.lemmas.List.{drop_all}
use Rattle.dv_views.specs.Inner.Body.{Body}
use Rattle.dv_views.specs.Inner.Handing.{AreSilentBut}
use Rattle.dv_views.proofs.Marked.{length_written}
use Rattle.dv_views.proofs.Walked.{all_at, all_silent, silenced_written, silent_next, there_place}
use Rattle.dv_views.proofs.handing.fall_silent.Goals as goal

pub index_mut-requires : goal.index_mut-requires
index_mut-requires c =
    let place = get_or c.args.places.now c.views.place-index 0 in
    let there = there_place place 0 c.args.places.now c.views.place-index c.views-test.true refl in
    let less : place < length c.args.views.now.entries = all_at (λ p. p < length c.args.views.now.entries) c.views.place-index place c.args.places.now c.requires.places there in
    let many = c.views.invariant.count in
    omega (arith, less, many)

pub views-preserved : goal.views-preserved
views-preserved c =
    let place = get_or c.args.places.now c.views.place-index 0 in
    let es = c.views.views.entries in
    let there = there_place place 0 c.args.places.now c.views.place-index c.views-test.true refl in
    record {
      others = silent_next c.args.places.now c.views.place-index place es c.leave.new.self there (ap (λ (b : Body). b.told) c.leave.ensures) c.views.invariant.others;
      same = silenced_written place es c.index_mut.result.now c.leave.new.self c.index_mut.ensures.value c.leave.ensures ∙ c.views.invariant.same;
      count = length_written place es c.leave.new.self ∙ c.views.invariant.count;
    }

pub returns : goal.returns
returns c =
    let es = c.views.views.entries in
    let none = subst (λ (ps : List ℕ). AreSilentBut ps 0 es) (drop_all c.views.place-index c.args.places.now c.views-test.false) c.views.invariant.others in
    sym (all_silent 0 es none) ∙ c.views.invariant.same
