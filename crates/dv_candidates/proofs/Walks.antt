-- What a walk reaches, step by step.
use Rattle.std.proofs.Common.{◌≡◌, ℕ, zero, suc, ◌+◌, ◌<◌, ◌≤◌, ◌==◌, ◌&&◌, ◌||◌, nat_lt, ◌⊎◌, inl, inr, Bool, true, false, List, [], ◌∷◌, length, drop, Option, Some, None, refl, ap, sym, ◌∙◌, arith, tests, rules}
use Rattle.std.specs.Int.{bit_at}
use Rattle.std.specs.Str.{bytes_eq}
use Rattle.std.specs.List.{list_any}
use Rattle.std.proofs.Math.Seq.{drop-length}
use Rattle.std.proofs.lemmas.Nat.Bits.{bit_at-suc, bit_at-zero}
use Rattle.std.proofs.lemmas.Bool.{or_cases, or_left, and_parts}
use Rattle.std.proofs.lemmas.Slice.Eq.{bytes_eq-Decides}
use Rattle.dv_value.specs.declared.value.Value.{Value}
use Rattle.dv_value.specs.Tree.{Tree, document, Field, fields_of}
use Rattle.dv_value.specs.Names.{value_under}
use Rattle.dv_value.specs.View.{tree}
use Rattle.dv_value.specs.Inner.TreeLaws.{fields_again}
use Rattle.dv_candidates.specs.declared.places.Places.{Places}
use Rattle.dv_candidates.specs.Candidates.{Candidate, step_from, whole}
use Rattle.dv_candidates.specs.Inner.Fold.{PassesOne}
use Rattle.dv_candidates.specs.Inner.Places.{has, passes_at, picks, IsWithin, IsBefore, Reaches}
use Rattle.dv_candidates.proofs.Bits.{none}
use Rattle.dv_candidates.proofs.Reach.{name_at, passes_at-within, passes_at-before, hits, missing-hits, hits-document, hits-plain}

pub picks-to : (k : ℕ) (o : Option ℕ) → picks k o ≡ true → o ≡ Some k
picks-to k None h = absurd cc
picks-to k (Some j) h = let same : j ≡ k = grind (arith, tests) in ap Some same

pub picks-from : (k : ℕ) (o : Option ℕ) → o ≡ Some k → picks k o ≡ true
picks-from k o e = rw e (let same : (k == k) ≡ true = grind (arith, tests) in same)

-- places one component further are not beyond the end
pub one_less : (names : List (List ℕ)) (place : ℕ) → place < length names → place ≤ length (drop 1 names)
one_less [] place h = absurd (omega arith)
one_less (name ∷ names) place h = omega arith

-- some of a set of places, those whose components pass a test
pub record IsPart (names : List (List ℕ)) (s part : Places) (test : List ℕ → Bool) : Type 0 where
  pub is : (place : ℕ) → has part place ≡ (has s place && passes_at test names place)

module _ {names : List (List ℕ)} {s part : Places} {test : List ℕ → Bool} (is : IsPart names s part test) where
  pub part-in : (place : ℕ) → has part place ≡ true → has s place ≡ true
  part-in place h = (and_parts (has s place) (passes_at test names place) (sym (is.is place) ∙ h)).0

  part-passes : (place : ℕ) → has part place ≡ true → passes_at test names place ≡ true
  part-passes place h = (and_parts (has s place) (passes_at test names place) (sym (is.is place) ∙ h)).1

  pub part-before : IsBefore names part
  part-before = record { before = λ place h. passes_at-before test names place (part-passes place h) }

  pub part-test : (place : ℕ) → has part place ≡ true → test (name_at names place) ≡ true
  part-test place h = let passed = part-passes place h in sym (passes_at-within test names place (passes_at-before test names place passed)) ∙ passed

  pub part-has : (place : ℕ) → has s place ≡ true → place < length names → test (name_at names place) ≡ true → has part place ≡ true
  part-has place h before passed = is.is place ∙ (rw (h, passes_at-within test names place before, passed) refl)

  -- from the places before the end
  pub part-reaches : (c : Candidate) (p : Candidate → Bool) → Reaches names part c p → Reaches names s c p
  part-reaches c p r = record { place = r.place; inside = part-in r.place r.inside; passes = r.passes }

  pub behind-within : IsWithin (drop 1 names) part
  behind-within = record { within = λ place h. one_less names place (part-before.before place h) }

-- the end itself
module _ {names : List (List ℕ)} {s part : Places} (is : IsPart names s part (λ _. true)) (within : IsWithin names s) where
  apart_from_end : (place : ℕ) → has s place ≡ true → (place ≡ length names) ⊎ (has part place ≡ true)
  apart_from_end place h =
      let bound = within.within place h in
      elim (le_cases place (length names) bound) [
        | inl same ↦ inl same
        | inr less ↦ inr (part-has is place h less refl)
      ]
    where
      le_cases : (m n : ℕ) → m ≤ n → (m ≡ n) ⊎ (m < n)
      le_cases zero zero h = inl refl
      le_cases zero (suc n) h = inr (omega arith)
      le_cases (suc m) zero h = absurd (omega arith)
      le_cases (suc m) (suc n) h = elim (le_cases m n (omega arith)) [ inl same ↦ inl (ap suc same) | inr less ↦ inr (omega arith) ]

  at_end : (c : Candidate) (p : Candidate → Bool) (place : ℕ) → place ≡ length names → hits p (drop place names) c ≡ true → p c ≡ true
  at_end c p place same h =
      let none : drop place names ≡ [] = rw same (drop-length names) in
      let one : list_any p (c ∷ []) ≡ true = ap (λ ns. hits p ns c) (sym none) ∙ h in
      elim (or_cases (p c) false one) [ inl here ↦ here | inr never ↦ absurd cc ]

  pub reaches-end : (c : Candidate) (p : Candidate → Bool) → Reaches names s c p → (p c ≡ true) ⊎ Reaches names part c p
  reaches-end c p r = elim (apart_from_end r.place r.inside) [
    | inl same ↦ inl (at_end c p r.place same r.passes)
    | inr inside ↦ inr (record { place = r.place; inside = inside; passes = r.passes })
  ]

  pub reaches-before : has s (length names) ≡ false → (c : Candidate) (p : Candidate → Bool) → Reaches names s c p → Reaches names part c p
  reaches-before none c p r = elim (apart_from_end r.place r.inside) [
    | inl same ↦ absurd (let here : has s (length names) ≡ true = rw (← same) r.inside in cc)
    | inr inside ↦ record { place = r.place; inside = inside; passes = r.passes }
  ]

  pub end-reaches : has s (length names) ≡ true → (c : Candidate) (p : Candidate → Bool) → p c ≡ true → Reaches names s c p
  end-reaches h c p passed = record { place = length names; inside = h; passes = ap (λ ns. hits p ns c) (drop-length names) ∙ or_left (p c) false passed }

-- a value that is neither a document nor an array
pub plain-step : (v : Value) (name : List ℕ) → ((d : _) → v ≡ Value.Doc d → ⊥) → ((l : _) → v ≡ Value.Array l → ⊥) → step_from name (Some (tree v)) ≡ None ∷ []
plain-step (Value.Doc d) name a b = absurd (a d refl)
plain-step (Value.Array l) name a b = absurd (b l refl)
plain-step v name a b = refl

module _ (names : List (List ℕ)) (s : Places) (before : IsBefore names s) where
  pub missing-reaches : (v : Tree) (p : Candidate → Bool) (place : ℕ) → has s place ≡ true → ((name : List ℕ) → step_from name (Some v) ≡ None ∷ []) → p None ≡ true → Reaches names s (Some v) p
  missing-reaches v p place h plain passed = record { place = place; inside = h; passes = hits-plain p names place v (before.before place h) (name_at names place) (plain (name_at names place)) ∙ passed }

  pub reaches-missing : (v : Tree) (p : Candidate → Bool) → ((name : List ℕ) → step_from name (Some v) ≡ None ∷ []) → Reaches names s (Some v) p → p None ≡ true
  reaches-missing v p plain r = sym (hits-plain p names r.place v (before.before r.place r.inside) (name_at names r.place) (plain (name_at names r.place))) ∙ r.passes

pub drop_behind : (names : List (List ℕ)) (place : ℕ) → drop place (drop 1 names) ≡ drop (suc place) names
drop_behind [] zero = refl
drop_behind [] (suc place) = refl
drop_behind (name ∷ names) place = refl

pub one_more : (m n : ℕ) → m < n + 1 → (m < n) ⊎ (m ≡ n)
one_more m zero h = inr (omega arith)
one_more zero (suc n) h = inl (omega arith)
one_more (suc m) (suc n) h = elim (one_more m n (omega arith)) [ inl less ↦ inl (omega arith) | inr same ↦ inr (ap suc same) ]

bytes_eq_same : (xs ys : List ℕ) → bytes_eq xs ys ≡ true → xs ≡ ys
bytes_eq_same xs ys h = search (rules, bytes_eq-Decides xs ys, h)

bytes_eq_refl : (xs : List ℕ) → bytes_eq xs xs ≡ true
bytes_eq_refl xs = search (rules, bytes_eq-Decides xs xs)

-- ---- the whole path
first-place : (place : ℕ) → has (record { mask = 1 }) place ≡ true → place ≡ 0
unfolding has
first-place zero h = refl
first-place (suc place) h = absurd (let none = bit_at-suc 1 place ∙ bit_at-zero place in let wrong = (and_parts (nat_lt (suc place) 64) (bit_at 1 (suc place) == 1) h).1 in let same : bit_at 1 (suc place) ≡ 1 = grind (arith, tests) in omega arith)

pub first-inside : has (record { mask = 1 }) 0 ≡ true
unfolding has
first-inside = refl

pub first-before : (names : List (List ℕ)) → (names ≡ [] → ⊥) → IsBefore names (record { mask = 1 })
first-before [] some = absurd (some refl)
first-before (name ∷ names) some = record { before = λ place h. let same = first-place place h in omega arith }

pub reaches-whole : (names : List (List ℕ)) (fs : List Field) (p : Candidate → Bool) → Reaches names (record { mask = 1 }) (Some (document (fields_of fs))) p → PassesOne (whole fs names) p
unfolding whole
reaches-whole names fs p r = record { passes = ap (λ place. hits p (drop place names) (Some (document (fields_of fs)))) (sym (first-place r.place r.inside)) ∙ r.passes }

pub whole-reaches : (names : List (List ℕ)) (fs : List Field) (p : Candidate → Bool) → PassesOne (whole fs names) p → Reaches names (record { mask = 1 }) (Some (document (fields_of fs))) p
unfolding whole
whole-reaches names fs p h = record { place = 0; inside = first-inside; passes = h.passes }

-- ---- documents
module _ (names : List (List ℕ)) (s : Places) (fs : List Field) where
  abbrev pub value_at : ℕ → Option Tree
  value_at place = value_under (name_at names place) fs

  abbrev pub Whole : (Candidate → Bool) → Type 0
  Whole = Reaches names s (Some (document (fields_of fs)))

  -- what the places reach that are passed or done and lead to something
  pub record ReachesThere (passed : ℕ) (done : Places) (p : Candidate → Bool) : Type 0 where
    pub place : ℕ
    pub inside : has s place ≡ true
    pub seen : (place < passed) ⊎ (has done place ≡ true)
    pub value : Tree
    pub there : value_at place ≡ Some value
    pub passes : hits p (drop (suc place) names) (Some value) ≡ true

  -- where the walk is among the components: whether a passed place leads to nothing, and that those that are done lead to something
  pub record IsSorted (passed : ℕ) (done : Places) (missing : Bool) : Type 0 where
    pub lacks : missing ≡ true → (place : ℕ) × (has s place ≡ true) × (value_at place ≡ None)
    pub lacks_none : missing ≡ false → (place : ℕ) → has s place ≡ true → place < passed → value_at place ≡ None → ⊥
    pub done_there : (place : ℕ) → has done place ≡ true → value_at place ≡ None → ⊥

module _ {names : List (List ℕ)} {s : Places} (fs : List Field) (before : IsBefore names s) where
  entered : (p : Candidate → Bool) (place : ℕ) → has s place ≡ true → hits p (drop place names) (Some (document (fields_of fs))) ≡ hits p (drop (suc place) names) (value_at names s fs place)
  entered p place h = hits-document p names place (fields_of fs) (before.before place h) ∙ ap (λ gs. hits p (drop (suc place) names) (value_under (name_at names place) gs)) (fields_again fs)

  pub there-whole : {passed : ℕ} {done : Places} (p : Candidate → Bool) → ReachesThere names s fs passed done p → Whole names s fs p
  there-whole p r = record {
    place = r.place;
    inside = r.inside;
    passes = entered p r.place r.inside ∙ ap (hits p (drop (suc r.place) names)) r.there ∙ r.passes;
  }

  whole-at : (p : Candidate → Bool) (r : Whole names s fs p) (o : Option Tree) → value_at names s fs r.place ≡ o → hits p (drop (suc r.place) names) o ≡ true
  whole-at p r o e = ap (hits p (drop (suc r.place) names)) (sym e) ∙ sym (entered p r.place r.inside) ∙ r.passes

  whole-there : {passed : ℕ} {done : Places} (p : Candidate → Bool) (r : Whole names s fs p) → length names ≤ passed → (o : Option Tree) → value_at names s fs r.place ≡ o → ReachesThere names s fs passed done p ⊎ ((value_at names s fs r.place ≡ None) × (p None ≡ true))
  whole-there p r over None e = inr (e, sym (missing-hits p (drop (suc r.place) names)) ∙ whole-at p r None e)
  whole-there {passed} p r over (Some v) e = inl (record {
    place = r.place;
    inside = r.inside;
    seen = inl (let bound = before.before r.place r.inside in omega arith);
    value = v;
    there = e;
    passes = whole-at p r (Some v) e;
  })

  pub missing-whole : (p : Candidate → Bool) → ((place : ℕ) × (has s place ≡ true) × (value_at names s fs place ≡ None)) → p None ≡ true → Whole names s fs p
  missing-whole p l passed = record {
    place = l.0;
    inside = l.1;
    passes = entered p l.0 l.1 ∙ ap (hits p (drop (suc l.0) names)) l.2 ∙ missing-hits p (drop (suc l.0) names) ∙ passed;
  }

  pub whole-or-missing : {passed : ℕ} {done : Places} (p : Candidate → Bool) → length names ≤ passed → Whole names s fs p → ReachesThere names s fs passed done p ⊎ (p None ≡ true)
  whole-or-missing p over r = elim (whole-there p r over (value_at names s fs r.place) refl) [ inl there ↦ inl there | inr lost ↦ inr lost.1 ]

  pub whole-all-there : {passed : ℕ} {done : Places} → IsSorted names s fs passed done false → length names ≤ passed → (p : Candidate → Bool) → Whole names s fs p → ReachesThere names s fs passed done p
  whole-all-there sorted over p r = elim (whole-there p r over (value_at names s fs r.place) refl) [
    | inl there ↦ there
    | inr lost ↦ absurd (let bound = before.before r.place r.inside in sorted.lacks_none refl r.place r.inside (omega arith) lost.0)
  ]

module _ {names : List (List ℕ)} {s : Places} (fs : List Field) where
  -- nothing is passed yet
  pub IsSorted-none : (done : Places) → ((place : ℕ) → has done place ≡ false) → IsSorted names s fs 0 done false
  IsSorted-none done none = record {
    lacks = λ h. absurd cc;
    lacks_none = λ h place inside below. absurd (omega arith);
    done_there = λ place h. absurd (let no_place = none place in cc);
  }

  pub there-none : (done : Places) → ((place : ℕ) → has done place ≡ false) → (p : Candidate → Bool) → ReachesThere names s fs 0 done p → ⊥
  there-none done none p r = elim r.seen [ inl below ↦ omega arith | inr h ↦ (let no_place = none r.place in cc) ]

  module _ (passed : ℕ) (done : Places) (missing : Bool) where
    -- a place that isn't in the set, or is done
    pub IsSorted-skipped : (has s passed ≡ false) ⊎ (has done passed ≡ true) → IsSorted names s fs passed done missing → IsSorted names s fs (passed + 1) done missing
    IsSorted-skipped skipped sorted = record {
      lacks = sorted.lacks;
      lacks_none = λ h place inside below. elim (one_more place passed below) [
        | inl less ↦ sorted.lacks_none h place inside less
        | inr same ↦ elim skipped [
          | inl absent ↦ absurd (let here : has s passed ≡ true = rw (← same) inside in cc)
          | inr is_done ↦ sorted.done_there place (rw same is_done)
        ]
      ];
      done_there = sorted.done_there;
    }

    pub there-skipped : (has s passed ≡ false) ⊎ (has done passed ≡ true) → (p : Candidate → Bool) → ReachesThere names s fs (passed + 1) done p → ReachesThere names s fs passed done p
    there-skipped skipped p r = record {
      place = r.place;
      inside = r.inside;
      seen = elim r.seen [
        | inl below ↦ elim (one_more r.place passed below) [
          | inl less ↦ inl less
          | inr same ↦ elim skipped [
            | inl absent ↦ absurd (let here : has s passed ≡ true = rw (← same) r.inside in cc)
            | inr is_done ↦ inr (rw same is_done)
          ]
        ]
        | inr h ↦ inr h
      ];
      value = r.value;
      there = r.there;
      passes = r.passes;
    }

    -- a place that leads to nothing
    pub IsSorted-missing : has s passed ≡ true → value_at names s fs passed ≡ None → IsSorted names s fs passed done missing → IsSorted names s fs (passed + 1) done true
    IsSorted-missing inside none sorted = record {
      lacks = λ h. (passed, inside, none);
      lacks_none = λ h. absurd cc;
      done_there = sorted.done_there;
    }

    pub there-missing : value_at names s fs passed ≡ None → (p : Candidate → Bool) → ReachesThere names s fs (passed + 1) done p → ReachesThere names s fs passed done p
    there-missing none p r = record {
      place = r.place;
      inside = r.inside;
      seen = elim r.seen [
        | inl below ↦ elim (one_more r.place passed below) [
          | inl less ↦ inl less
          | inr same ↦ absurd (let lost : value_at names s fs r.place ≡ None = rw same none in let here = r.there in cc)
        ]
        | inr h ↦ inr h
      ];
      value = r.value;
      there = r.there;
      passes = r.passes;
    }

    -- a place that leads to a value: all places of that name are walked together
    module _ (same done' : Places) (name : List ℕ) (v : Tree) (is_name : name ≡ name_at names passed) (part : IsPart names s same (bytes_eq name)) (joined : (place : ℕ) → has done' place ≡ (has done place || has same place)) (value : value_at names s fs passed ≡ Some v) where
      value-same : (place : ℕ) → has same place ≡ true → value_at names s fs place ≡ Some v
      value-same place h = ap (λ n. value_under n fs) (sym (bytes_eq_same name (name_at names place) (part-test part place h)) ∙ is_name) ∙ value

      pub IsSorted-found : IsSorted names s fs passed done missing → IsSorted names s fs (passed + 1) done' missing
      IsSorted-found sorted = record {
        lacks = sorted.lacks;
        lacks_none = λ h place inside below lost. elim (one_more place passed below) [
          | inl less ↦ sorted.lacks_none h place inside less lost
          | inr here ↦ absurd (let there : value_at names s fs place ≡ Some v = rw here value in cc)
        ];
        done_there = λ place h lost. elim (or_cases (has done place) (has same place) (sym (joined place) ∙ h)) [
          | inl earlier ↦ sorted.done_there place earlier lost
          | inr now ↦ absurd (let there = value-same place now in cc)
        ];
      }

      pub behind-whole : IsBefore names s → (p : Candidate → Bool) → Reaches (drop 1 names) same (Some v) p → Whole names s fs p
      behind-whole before p r = record {
        place = r.place;
        inside = part-in part r.place r.inside;
        passes = entered fs before p r.place (part-in part r.place r.inside) ∙ ap (hits p (drop (suc r.place) names)) (value-same r.place r.inside) ∙ ap (λ ns. hits p ns (Some v)) (sym (drop_behind names r.place)) ∙ r.passes;
      }

      there-behind : (p : Candidate → Bool) (r : ReachesThere names s fs (passed + 1) done' p) → has same r.place ≡ true → Reaches (drop 1 names) same (Some v) p
      there-behind p r h = record {
        place = r.place;
        inside = h;
        passes = ap (λ ns. hits p ns (Some v)) (drop_behind names r.place) ∙ ap (hits p (drop (suc r.place) names)) (sym (value-same r.place h) ∙ r.there) ∙ r.passes;
      }

      pub there-found : IsBefore names s → (p : Candidate → Bool) → ReachesThere names s fs (passed + 1) done' p → ReachesThere names s fs passed done p ⊎ Reaches (drop 1 names) same (Some v) p
      there-found before p r = elim r.seen [
        | inl below ↦ elim (one_more r.place passed below) [
          | inl less ↦ inl (record { place = r.place; inside = r.inside; seen = inl less; value = r.value; there = r.there; passes = r.passes })
          | inr here ↦ inr (there-behind p r (part-has part r.place r.inside (before.before r.place r.inside) (rw (here, ← is_name) (bytes_eq_refl name))))
        ]
        | inr h ↦ elim (or_cases (has done r.place) (has same r.place) (sym (joined r.place) ∙ h)) [
          | inl earlier ↦ inl (record { place = r.place; inside = r.inside; seen = inr earlier; value = r.value; there = r.there; passes = r.passes })
          | inr now ↦ inr (there-behind p r now)
        ]
      ]
