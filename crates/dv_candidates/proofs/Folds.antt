-- Folds, one after another.
use Rattle.std.proofs.Common.{◌≡◌, Bool, true, false, List, [], ◌∷◌, ◌++◌, ◌⊎◌, inl, inr, Result, Ok, Err, refl, sym, ◌∙◌, append_assoc, subst}
use Rattle.std.specs.List.{list_any, FoldsTo}
use Rattle.std.proofs.lemmas.Bool.{or_cases, or_left, or_right}
use Rattle.std.proofs.lemmas.List.Folds.{list_any-append}
use Rattle.dv_candidates.specs.Candidates.{Candidate}
use Rattle.dv_candidates.specs.Inner.Fold.{FoldsOver, StopsAmong, Folded}

-- what holds of tests
abbrev pub Tests : Type 1
Tests = (Candidate → Bool) → Type 0

pub FoldsTo-append : {P A : Type 0} (R : P → A → P → Type 0) (p q r : P) (xs ys : List A) → FoldsTo R p xs q → FoldsTo R q ys r → FoldsTo R p (xs ++ ys) r
FoldsTo-append R p q r [] ys h k = subst (λ s. FoldsTo R s ys r) (sym h) k
FoldsTo-append R p q r (x ∷ xs) ys h k = (h.0, h.1, FoldsTo-append R h.0 q r xs ys h.2 k)

pub any-cases : (p : Candidate → Bool) (xs ys : List Candidate) → list_any p (xs ++ ys) ≡ true → (list_any p xs ≡ true) ⊎ (list_any p ys ≡ true)
any-cases p xs ys h = or_cases (list_any p xs) (list_any p ys) (sym (list_any-append p xs ys) ∙ h)

pub any-left : (p : Candidate → Bool) (xs ys : List Candidate) → list_any p xs ≡ true → list_any p (xs ++ ys) ≡ true
any-left p xs ys h = list_any-append p xs ys ∙ or_left (list_any p xs) (list_any p ys) h

pub any-right : (p : Candidate → Bool) (xs ys : List Candidate) → list_any p ys ≡ true → list_any p (xs ++ ys) ≡ true
any-right p xs ys h = list_any-append p xs ys ∙ or_right (list_any p xs) (list_any p ys) h

pub any-one : (p : Candidate → Bool) (c : Candidate) → list_any p (c ∷ []) ≡ true → p c ≡ true
any-one p c h = elim (or_cases (p c) false h) [ inl here ↦ here | inr never ↦ absurd cc ]

pub either : {A B C : Type 0} → (A → C) → (B → C) → A ⊎ B → C
either f g (inl a) = f a
either f g (inr b) = g b

module _ {T X E : Type 0} {seen : X → Candidate} {call : T → X → Result T E → Type 0} where
  -- nothing to take
  pub FoldsOver-none : {May Must : Tests} {t : T} → ((p : Candidate → Bool) → Must p → ⊥) → FoldsOver seen call May Must t t
  FoldsOver-none none = record {
    taken = [];
    calls = refl;
    only = λ p h. absurd cc;
    every = λ p h. absurd (none p h);
  }

  -- one call
  pub FoldsOver-call : {May Must : Tests} {t u : T} (x : X) → call t x (Ok u) → ((p : Candidate → Bool) → p (seen x) ≡ true → May p) → ((p : Candidate → Bool) → Must p → p (seen x) ≡ true) → FoldsOver seen call May Must t u
  FoldsOver-call x h may must = record {
    taken = seen x ∷ [];
    calls = (_, record { at = x; is = refl; gives = h }, refl);
    only = λ p a. may p (any-one p (seen x) a);
    every = λ p a. or_left (p (seen x)) false (must p a);
  }

  -- one fold, and then another
  pub FoldsOver-more : {May₁ May₂ May Must₁ Must₂ Must : Tests} {t u v : T} → FoldsOver seen call May₁ Must₁ t u → FoldsOver seen call May₂ Must₂ u v → ((p : Candidate → Bool) → May₁ p → May p) → ((p : Candidate → Bool) → May₂ p → May p) → ((p : Candidate → Bool) → Must p → Must₁ p ⊎ Must₂ p) → FoldsOver seen call May Must t v
  FoldsOver-more a b may₁ may₂ must = record {
    taken = a.taken ++ b.taken;
    calls = FoldsTo-append _ _ _ _ a.taken b.taken a.calls b.calls;
    only = λ p h. either (λ k. may₁ p (a.only p k)) (λ k. may₂ p (b.only p k)) (any-cases p a.taken b.taken h);
    every = λ p h. either (λ k. any-left p a.taken b.taken (a.every p k)) (λ k. any-right p a.taken b.taken (b.every p k)) (must p h);
  }

  pub FoldsOver-same : {May₁ May Must₁ Must : Tests} {t u : T} → FoldsOver seen call May₁ Must₁ t u → ((p : Candidate → Bool) → May₁ p → May p) → ((p : Candidate → Bool) → Must p → Must₁ p) → FoldsOver seen call May Must t u
  FoldsOver-same a may must = record {
    taken = a.taken;
    calls = a.calls;
    only = λ p h. may p (a.only p h);
    every = λ p h. a.every p (must p h);
  }

  -- one call that stops
  pub StopsAmong-call : {May : Tests} {t : T} {e : E} (x : X) → call t x (Err e) → ((p : Candidate → Bool) → p (seen x) ≡ true → May p) → StopsAmong seen call May t e
  StopsAmong-call x h may = record {
    taken = [];
    reached = _;
    last = seen x;
    calls = refl;
    stops = record { at = x; is = refl; gives = h };
    only = λ p a. may p (any-one p (seen x) a);
  }

  -- a fold, and then one that stops
  pub StopsAmong-more : {May₁ May₂ May Must : Tests} {t u : T} {e : E} → FoldsOver seen call May₁ Must t u → StopsAmong seen call May₂ u e → ((p : Candidate → Bool) → May₁ p → May p) → ((p : Candidate → Bool) → May₂ p → May p) → StopsAmong seen call May t e
  StopsAmong-more a b may₁ may₂ = record {
    taken = a.taken ++ b.taken;
    reached = b.reached;
    last = b.last;
    calls = FoldsTo-append _ _ _ _ a.taken b.taken a.calls b.calls;
    stops = b.stops;
    only = λ p h. either (λ k. may₁ p (a.only p k)) (λ k. may₂ p (b.only p k)) (any-cases p a.taken (b.taken ++ b.last ∷ []) (rw append_assoc at h));
  }

  pub StopsAmong-same : {May₁ May : Tests} {t : T} {e : E} → StopsAmong seen call May₁ t e → ((p : Candidate → Bool) → May₁ p → May p) → StopsAmong seen call May t e
  StopsAmong-same b may = record {
    taken = b.taken;
    reached = b.reached;
    last = b.last;
    calls = b.calls;
    stops = b.stops;
    only = λ p h. may p (b.only p h);
  }

  -- a fold over what is wanted, in other words
  pub Folded-same : {W V : Tests} {t : T} (r : Result T E) → Folded seen call W t r → ((p : Candidate → Bool) → W p → V p) → ((p : Candidate → Bool) → V p → W p) → Folded seen call V t r
  Folded-same (Ok u) h to from = record { outcome = FoldsOver-same h.outcome to from }
  Folded-same (Err e) h to from = record { outcome = StopsAmong-same h.outcome to }

  -- a fold, and then one that is the last
  pub Folded-more : {May Must W V : Tests} {t u : T} (r : Result T E) → FoldsOver seen call May Must t u → Folded seen call W u r → ((p : Candidate → Bool) → May p → V p) → ((p : Candidate → Bool) → W p → V p) → ((p : Candidate → Bool) → V p → Must p ⊎ W p) → Folded seen call V t r
  Folded-more (Ok v) a h may to from = record { outcome = FoldsOver-more a h.outcome may to from }
  Folded-more (Err e) a h may to from = record { outcome = StopsAmong-more a h.outcome may to }

  -- one call
  pub Folded-call : {W : Tests} {t : T} (r : Result T E) (x : X) → call t x r → ((p : Candidate → Bool) → p (seen x) ≡ true → W p) → ((p : Candidate → Bool) → W p → p (seen x) ≡ true) → Folded seen call W t r
  Folded-call (Ok u) x h to from = record { outcome = FoldsOver-call x h to from }
  Folded-call (Err e) x h to from = record { outcome = StopsAmong-call x h to }
