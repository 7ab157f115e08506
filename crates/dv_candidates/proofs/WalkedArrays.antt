-- What a walk reaches through an array, element by element.
use Rattle.std.proofs.Common.{◌≡◌, ℕ, zero, suc, ◌+◌, ◌<◌, ◌≤◌, ◌||◌, ◌⊎◌, inl, inr, Bool, true, List, length, drop, Some, slice_get, refl, ap, sym, ◌∙◌, arith}
use Rattle.std.proofs.lemmas.Bool.{or_cases, or_left, or_right}
use Rattle.std.proofs.lemmas.Option.{slice_get_within}
use Rattle.dv_value.specs.Tree.{Tree, array, elements_of}
use Rattle.dv_value.specs.Inner.TreeLaws.{elements_again}
use Rattle.dv_candidates.specs.declared.places.Places.{Places}
use Rattle.dv_candidates.specs.Path.{index_of}
use Rattle.dv_candidates.specs.Candidates.{Candidate}
use Rattle.dv_candidates.specs.Inner.Places.{has, picks, follows, IsWithin, IsBefore, IsDocument, Reaches, ReachesElement}
use Rattle.dv_candidates.proofs.Bits.{none}
use Rattle.dv_candidates.proofs.Reach.{name_at, hits, hits-array-to, hits-array-from}
use Rattle.dv_candidates.proofs.Walks.{IsPart, drop_behind, one_more, part-before, part-has, part-in, part-test, picks-from, picks-to}

-- ---- arrays
module _ (names : List (List ℕ)) (s : Places) (vs : List Tree) where
  -- what the elements before a place reach
  pub record ReachesBelow (end : ℕ) (p : Candidate → Bool) : Type 0 where
    pub index : ℕ
    pub below : index < end
    pub value : Tree
    pub there : slice_get vs index ≡ Some value
    pub reaches : ReachesElement names s index value p

module _ {names : List (List ℕ)} {s : Places} (vs : List Tree) (before : IsBefore names s) where
  pub element-whole : (index : ℕ) (v : Tree) → slice_get vs index ≡ Some v → (p : Candidate → Bool) → ReachesElement names s index v p → Reaches names s (Some (array (elements_of vs))) p
  element-whole index v there p r = record {
    place = r.place;
    inside = r.inside;
    passes = hits-array-from p names r.place (elements_of vs) index v (before.before r.place r.inside) (ap (λ ws. slice_get ws index) (elements_again vs) ∙ there) r.way;
  }

  pub below-whole : {end : ℕ} (p : Candidate → Bool) → ReachesBelow names s vs end p → Reaches names s (Some (array (elements_of vs))) p
  below-whole p r = element-whole r.index r.value r.there p r.reaches

  pub whole-below : {end : ℕ} → length vs ≤ end → (p : Candidate → Bool) → Reaches names s (Some (array (elements_of vs))) p → ReachesBelow names s vs end p
  whole-below over p r =
      let it = hits-array-to p names r.place (elements_of vs) (before.before r.place r.inside) r.passes in
      let there : slice_get vs it.0 ≡ Some it.1 = ap (λ ws. slice_get ws it.0) (sym (elements_again vs)) ∙ it.2 in
      record {
        index = it.0;
        below = let bound = slice_get_within vs it.0 it.1 there in omega arith;
        value = it.1;
        there = there;
        reaches = record { place = r.place; inside = r.inside; way = it.3 };
      }

module _ {names : List (List ℕ)} {s : Places} (vs : List Tree) where
  pub below-none : (p : Candidate → Bool) → ReachesBelow names s vs 0 p → ⊥
  below-none p r = let below = r.below in omega arith

  pub below-more : (index : ℕ) (v : Tree) → slice_get vs index ≡ Some v → (p : Candidate → Bool) → ReachesBelow names s vs (index + 1) p → ReachesBelow names s vs index p ⊎ ReachesElement names s index v p
  below-more index v there p r = elim (one_more r.index index r.below) [
    | inl less ↦ inl (record { index = r.index; below = less; value = r.value; there = r.there; reaches = r.reaches })
    | inr same ↦
        let is : slice_get vs index ≡ Some r.value = rw (← same) r.there in
        let value : r.value ≡ v = cc in
        inr (rw (← same, ← value) r.reaches)
  ]

-- ---- elements
follows-to : (inside : ℕ → Bool) (place : ℕ) → follows inside place ≡ true → (earlier : ℕ) × (place ≡ suc earlier) × (inside earlier ≡ true)
follows-to inside zero h = absurd cc
follows-to inside (suc place) h = (place, refl, h)

module _ {names : List (List ℕ)} {s picking : Places} {test : List ℕ → Bool} (part : IsPart names s picking test) (before : IsBefore names s) (both : Places) (joined : (place : ℕ) → has both place ≡ (has s place || follows (has picking) place)) where
  pub both-within : IsWithin names both
  both-within = record {
    within = λ place h. elim (or_cases (has s place) (follows (has picking) place) (sym (joined place) ∙ h)) [
      | inl entering ↦ let bound = before.before place entering in omega arith
      | inr behind ↦
          let it = follows-to (has picking) place behind in
          let bound = (part-before part).before it.0 it.2 in
          let same = it.1 in
          omega arith
    ];
  }

module _ {names : List (List ℕ)} {s picking : Places} (index : ℕ) (v : Tree) (part : IsPart names s picking (λ name. picks index (index_of name))) where
  pub picked-element : (p : Candidate → Bool) → Reaches (drop 1 names) picking (Some v) p → ReachesElement names s index v p
  picked-element p r = record {
    place = r.place;
    inside = part-in part r.place r.inside;
    way = inl (picks-to index (index_of (name_at names r.place)) (part-test part r.place r.inside), ap (λ ns. hits p ns (Some v)) (sym (drop_behind names r.place)) ∙ r.passes);
  }

  element-picked : IsBefore names s → (p : Candidate → Bool) (place : ℕ) → has s place ≡ true → index_of (name_at names place) ≡ Some index → hits p (drop (suc place) names) (Some v) ≡ true → Reaches (drop 1 names) picking (Some v) p
  element-picked before p place inside here passes = record {
    place = place;
    inside = part-has part place inside (before.before place inside) (picks-from index (index_of (name_at names place)) here);
    passes = ap (λ ns. hits p ns (Some v)) (drop_behind names place) ∙ passes;
  }

  -- an element that is no document is only picked
  pub element-only-picked : IsBefore names s → (IsDocument v → ⊥) → (p : Candidate → Bool) → ReachesElement names s index v p → Reaches (drop 1 names) picking (Some v) p
  element-only-picked before none p r = elim r.way [
    | inl w ↦ element-picked before p r.place r.inside w.0 w.1
    | inr w ↦ absurd (none w.0)
  ]

  -- a document is picked or entered
  pub entered-element : IsDocument v → (p : Candidate → Bool) → Reaches names s (Some v) p → ReachesElement names s index v p
  entered-element d p r = record { place = r.place; inside = r.inside; way = inr (d, r.passes) }

  pub element-either : IsBefore names s → (p : Candidate → Bool) → ReachesElement names s index v p → Reaches names s (Some v) p ⊎ Reaches (drop 1 names) picking (Some v) p
  element-either before p r = elim r.way [
    | inl w ↦ inr (element-picked before p r.place r.inside w.0 w.1)
    | inr w ↦ inl (record { place = r.place; inside = r.inside; passes = w.1 })
  ]

  -- or both at once
  module _ (before : IsBefore names s) (both : Places) (joined : (place : ℕ) → has both place ≡ (has s place || follows (has picking) place)) where
    pub both-element : IsDocument v → (p : Candidate → Bool) → Reaches names both (Some v) p → ReachesElement names s index v p
    both-element d p r = elim (or_cases (has s r.place) (follows (has picking) r.place) (sym (joined r.place) ∙ r.inside)) [
      | inl entering ↦ record { place = r.place; inside = entering; way = inr (d, r.passes) }
      | inr behind ↦
          let it = follows-to (has picking) r.place behind in
          picked-element p (record {
            place = it.0;
            inside = it.2;
            passes = ap (λ ns. hits p ns (Some v)) (drop_behind names it.0) ∙ ap (λ place. hits p (drop place names) (Some v)) (sym it.1) ∙ r.passes;
          })
    ]

    pub element-both : (p : Candidate → Bool) → ReachesElement names s index v p → Reaches names both (Some v) p
    element-both p r = elim (element-either before p r) [
      | inl e ↦ record { place = e.place; inside = joined e.place ∙ or_left (has s e.place) _ e.inside; passes = e.passes }
      | inr e ↦ record {
        place = suc e.place;
        inside = joined (suc e.place) ∙ or_right (has s (suc e.place)) _ e.inside;
        passes = ap (λ ns. hits p ns (Some v)) (sym (drop_behind names e.place)) ∙ e.passes;
      }
    ]
