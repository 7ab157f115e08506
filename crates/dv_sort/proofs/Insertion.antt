-- Lists put in order one element after the other.
use Rattle.std.proofs.Common.{◌≡◌, ◌∙◌, ◌+◌, ◌<◌, ◌≤◌, ap, sym, refl, subst, cond, Bool, true, false, not, ◌&&◌, ℕ, zero, suc, List, [], ◌∷◌, ◌++◌, length, map, fold, take, get_or, arith, append_assoc, append-nil, Option, Some, None}
use Rattle.std.specs.Cmp.{IsStrictWeakOrder}
use Rattle.std.specs.List.{AllByRecursion, filter}
use Rattle.std.specs.List.Sorted.{IsPermutation, IsSortedBy, IsStableBy, ties}
use Rattle.std.proofs.lemmas.List.{take-take}
use Rattle.std.proofs.lemmas.List.Sums.{fold_push}
use Rattle.std.proofs.lemmas.List.Sorted.{sorted_far, IsPermutation-refl, IsPermutation-cons, IsPermutation-swap, IsPermutation-trans, IsPermutation-push_more}
use Rattle.dv_sort.specs.Sorting.{placed, ordered, front}

abbrev pub inserts : {X : Type 0} → (X → X → Bool) → List X → X → List X
inserts lt ys x = placed lt x ys

-- ---- a row after the prefix never returns to it
module _ {X : Type 0} (lt : X → X → Bool) where
  take-cons : (k : ℕ) (y : X) (ys : List X) → take k (y ∷ take k ys) ≡ take k (y ∷ ys)
  take-cons zero y ys = refl
  take-cons (suc k) y ys = ap (λ l. y ∷ l) (take-take k (suc k) ys (omega arith))

  take-placed : (k : ℕ) (x : X) (ys : List X) → take k (placed lt x (take k ys)) ≡ take k (placed lt x ys)
  take-placed zero x ys = refl
  take-placed (suc k) x [] = refl
  take-placed (suc k) x (y ∷ ys) = chosen (lt x y) (take-placed k x ys)
    where
      chosen : (b : Bool) → take k (placed lt x (take k ys)) ≡ take k (placed lt x ys) → take (suc k) (cond b (x ∷ y ∷ take k ys) (y ∷ placed lt x (take k ys))) ≡ take (suc k) (cond b (x ∷ y ∷ ys) (y ∷ placed lt x ys))
      chosen true e = ap (λ l. x ∷ l) (take-cons k y ys)
      chosen false e = ap (λ l. y ∷ l) e

  pub front-placed : (most : Option ℕ) (x : X) (ys : List X) → front most (placed lt x (front most ys)) ≡ front most (placed lt x ys)
  front-placed None x ys = refl
  front-placed (Some k) x ys = take-placed k x ys

  pub ordered-push : (xs : List X) (x : X) → ordered lt (xs ++ x ∷ []) ≡ placed lt x (ordered lt xs)
  ordered-push xs x = fold_push (inserts lt) [] xs x

  -- ---- each element as often as before
  placed-permutes : (x : X) (ys : List X) → IsPermutation (x ∷ ys) (placed lt x ys)
  placed-permutes x [] = IsPermutation-refl (x ∷ [])
  placed-permutes x (y ∷ ys) = chosen (lt x y) (placed-permutes x ys)
    where
      chosen : (b : Bool) → IsPermutation (x ∷ ys) (placed lt x ys) → IsPermutation (x ∷ y ∷ ys) (cond b (x ∷ y ∷ ys) (y ∷ placed lt x ys))
      chosen true p = IsPermutation-refl (x ∷ y ∷ ys)
      chosen false p = IsPermutation-trans (x ∷ y ∷ ys) (y ∷ x ∷ ys) (y ∷ placed lt x ys) (IsPermutation-swap (x ∷ y ∷ ys) (y ∷ x ∷ ys) 0 1 (omega arith) (omega arith) refl) (IsPermutation-cons y (x ∷ ys) (placed lt x ys) p)

  folded-permutes : (before acc xs : List X) → IsPermutation before acc → IsPermutation (before ++ xs) (fold (inserts lt) acc xs)
  folded-permutes before acc [] p = subst (λ l. IsPermutation l acc) (sym (append-nil before)) p
  folded-permutes before acc (x ∷ xs) p = subst (λ l. IsPermutation l (fold (inserts lt) (placed lt x acc) xs)) (append_assoc before (x ∷ []) xs) (folded-permutes (before ++ x ∷ []) (placed lt x acc) xs (IsPermutation-push_more before acc (placed lt x acc) x p (placed-permutes x acc)))

  pub ordered-permutes : (xs : List X) → IsPermutation xs (ordered lt xs)
  ordered-permutes xs = folded-permutes [] [] xs (IsPermutation-refl [])

-- ---- in order, and stable
module _ {X : Type 0} (lt : X → X → Bool) (o : IsStrictWeakOrder lt) where
  -- no element of a list comes before x
  abbrev pub Above : X → List X → Type 0
  Above x ys = AllByRecursion (λ y. lt y x ≡ false) ys

  abbrev pub Up : List X → Type 0
  Up [] = Unit {0}
  Up (x ∷ xs) = Above x xs × Up xs

  not-itself : (x : X) → lt x x ≡ false
  not-itself x = either (lt x x) refl
    where
      either : (b : Bool) → lt x x ≡ b → lt x x ≡ false
      either true e = o.one_way x x e
      either false e = e

  above-chain : (x y : X) (zs : List X) → lt y x ≡ false → Above y zs → Above x zs
  above-chain x y [] h a = tt
  above-chain x y (z ∷ zs) h a = (o.chain z y x a.0 h, above-chain x y zs h a.1)

  above-placed : (x d : X) (ys : List X) → lt d x ≡ false → Above x ys → Above x (placed lt d ys)
  above-placed x d [] h a = (h, tt)
  above-placed x d (y ∷ ys) h a = chosen (lt d y) (above-placed x d ys h a.1)
    where
      chosen : (b : Bool) → Above x (placed lt d ys) → Above x (cond b (d ∷ y ∷ ys) (y ∷ placed lt d ys))
      chosen true r = (h, a)
      chosen false r = (a.0, r)

  up-placed : (d : X) (ys : List X) → Up ys → Up (placed lt d ys)
  up-placed d [] u = (tt, tt)
  up-placed d (y ∷ ys) u = chosen (lt d y) refl (up-placed d ys u.1)
    where
      chosen : (b : Bool) → lt d y ≡ b → Up (placed lt d ys) → Up (cond b (d ∷ y ∷ ys) (y ∷ placed lt d ys))
      chosen true e r = let h = o.one_way d y e in ((h, above-chain d y ys h u.0), u)
      chosen false e r = (above-placed y d ys e u.0, r)

  up-folded : (acc xs : List X) → Up acc → Up (fold (inserts lt) acc xs)
  up-folded acc [] u = u
  up-folded acc (x ∷ xs) u = up-folded (placed lt x acc) xs (up-placed x acc u)

  pub up-ordered : (xs : List X) → Up (ordered lt xs)
  up-ordered xs = up-folded [] xs tt

  tied : (x y : X) → lt x y ≡ false → lt y x ≡ false → ties lt x y ≡ true
  tied x y p q = ap (λ b. not b && not (lt y x)) p ∙ ap not q

  -- what ties with an element that comes before y ties with nothing from y on
  apart : (x d y z : X) → lt d y ≡ true → lt z y ≡ false → ties lt x d ≡ true → ties lt x z ≡ false
  apart x d y z before from tie = either (lt x d) (lt d x) (lt x z) (lt z x) refl refl refl refl tie
    where
      either : (a b p q : Bool) → lt x d ≡ a → lt d x ≡ b → lt x z ≡ p → lt z x ≡ q → not a && not b ≡ true → not p && not q ≡ false
      either true b p q ea eb ep eq h = absurd cc
      either false true p q ea eb ep eq h = absurd cc
      either false false true q ea eb ep eq h = refl
      either false false false true ea eb ep eq h = refl
      either false false false false ea eb ep eq h = absurd (let no' = o.chain d z y (o.chain d x z eb ep) from in cc)

  none-tied : (x d y : X) (zs : List X) → lt d y ≡ true → Above y zs → ties lt x d ≡ true → filter (ties lt x) zs ≡ []
  none-tied x d y [] before a tie = refl
  none-tied x d y (z ∷ zs) before a tie = ap (λ b. cond b (z ∷ filter (ties lt x) zs) (filter (ties lt x) zs)) (apart x d y z before a.0 tie) ∙ none-tied x d y zs before a.1 tie

  ties-placed : (x d : X) (ys : List X) → Up ys → filter (ties lt x) (placed lt d ys) ≡ filter (ties lt x) ys ++ filter (ties lt x) (d ∷ [])
  ties-placed x d [] u = refl
  ties-placed x d (y ∷ ys) u = chosen (lt d y) refl (ties-placed x d ys u.1)
    where
      t : X → Bool
      t = ties lt x

      front-tie : (b : Bool) → t d ≡ b → lt d y ≡ true → cond b (d ∷ filter t (y ∷ ys)) (filter t (y ∷ ys)) ≡ filter t (y ∷ ys) ++ cond b (d ∷ []) []
      front-tie true e before = let none = none-tied x d y (y ∷ ys) before (not-itself y, u.0) e in ap (λ l. d ∷ l) none ∙ ap (λ l. l ++ d ∷ []) (sym none)
      front-tie false e before = sym (append-nil (filter t (y ∷ ys)))

      rest-tie : (b : Bool) → filter t (placed lt d ys) ≡ filter t ys ++ filter t (d ∷ []) → cond b (y ∷ filter t (placed lt d ys)) (filter t (placed lt d ys)) ≡ cond b (y ∷ filter t ys) (filter t ys) ++ filter t (d ∷ [])
      rest-tie true r = ap (λ l. y ∷ l) r
      rest-tie false r = r

      chosen : (b : Bool) → lt d y ≡ b → filter t (placed lt d ys) ≡ filter t ys ++ filter t (d ∷ []) → filter t (cond b (d ∷ y ∷ ys) (y ∷ placed lt d ys)) ≡ filter t (y ∷ ys) ++ filter t (d ∷ [])
      chosen true e r = front-tie (t d) refl e
      chosen false e r = rest-tie (t y) r

  filter-cons : (t : X → Bool) (x : X) (xs : List X) → filter t (x ∷ []) ++ filter t xs ≡ filter t (x ∷ xs)
  filter-cons t x xs = either (t x)
    where
      either : (b : Bool) → cond b (x ∷ []) [] ++ filter t xs ≡ cond b (x ∷ filter t xs) (filter t xs)
      either true = refl
      either false = refl

  ties-folded : (x : X) (acc xs : List X) → Up acc → filter (ties lt x) (fold (inserts lt) acc xs) ≡ filter (ties lt x) acc ++ filter (ties lt x) xs
  ties-folded x acc [] u = sym (append-nil (filter (ties lt x) acc))
  ties-folded x acc (d ∷ ds) u =
      let t = ties lt x in
      ties-folded x (placed lt d acc) ds (up-placed d acc u) ∙ ap (λ l. l ++ filter t ds) (ties-placed x d acc u) ∙ append_assoc (filter t acc) (filter t (d ∷ [])) (filter t ds) ∙ ap (λ l. filter t acc ++ l) (filter-cons t d ds)

  pub ordered-stable : (xs : List X) → IsStableBy lt xs (ordered lt xs)
  ordered-stable xs x = ties-folded x [] xs tt

  -- ---- there is only one such list
  all-kept : (P : X → Type 0) (t : X → Bool) (xs : List X) → AllByRecursion P xs → AllByRecursion P (filter t xs)
  all-kept P t [] a = tt
  all-kept P t (x ∷ xs) a = either (t x) (all-kept P t xs a.1)
    where
      either : (b : Bool) → AllByRecursion P (filter t xs) → AllByRecursion P (cond b (x ∷ filter t xs) (filter t xs))
      either true r = (a.0, r)
      either false r = r

  head-kept : (t : X → Bool) (x : X) (xs : List X) → t x ≡ true → filter t (x ∷ xs) ≡ x ∷ filter t xs
  head-kept t x xs e = ap (λ b. cond b (x ∷ filter t xs) (filter t xs)) e

  tail-same : (b : Bool) (x : X) (xs ys : List X) → cond b (x ∷ xs) xs ≡ cond b (x ∷ ys) ys → xs ≡ ys
  tail-same true x xs ys e = cc
  tail-same false x xs ys e = e

  tied-itself : (x : X) → ties lt x x ≡ true
  tied-itself x = tied x x (not-itself x) (not-itself x)

  -- the first element of a list doesn't come before the first one of a list in order that has the same ties of that element
  not-behind : (y z : X) (ys zs : List X) → Up (z ∷ zs) → filter (ties lt y) (y ∷ ys) ≡ filter (ties lt y) (z ∷ zs) → lt y z ≡ false
  not-behind y z ys zs u e =
      let kept : AllByRecursion (λ w. lt w z ≡ false) (filter (ties lt y) (z ∷ zs)) = all-kept (λ w. lt w z ≡ false) (ties lt y) (z ∷ zs) (not-itself z, u.0) in
      (subst (λ l. AllByRecursion (λ w. lt w z ≡ false) l) (sym e ∙ head-kept (ties lt y) y ys (tied-itself y)) kept).0

  pub one-order : (ys zs : List X) → Up ys → Up zs → ((x : X) → filter (ties lt x) ys ≡ filter (ties lt x) zs) → ys ≡ zs
  one-order [] [] u v same = refl
  one-order [] (z ∷ zs) u v same = absurd (let e = same z ∙ head-kept (ties lt z) z zs (tied-itself z) in cc)
  one-order (y ∷ ys) [] u v same = absurd (let e = sym (same y) ∙ head-kept (ties lt y) y ys (tied-itself y) in cc)
  one-order (y ∷ ys) (z ∷ zs) u v same =
      let tie = tied y z (not-behind y z ys zs v (same y)) (not-behind z y zs ys u (sym (same z))) in
      let heads : y ∷ filter (ties lt y) ys ≡ z ∷ filter (ties lt y) zs = sym (head-kept (ties lt y) y ys (tied-itself y)) ∙ same y ∙ head-kept (ties lt y) z zs tie in
      let one : y ≡ z = cc in
      let rest = λ (x : X). tail-same (ties lt x y) y (filter (ties lt x) ys) (filter (ties lt x) zs) (same x ∙ ap (λ w. filter (ties lt x) (w ∷ zs)) (sym one)) in
      ap (λ w. w ∷ ys) one ∙ ap (λ l. z ∷ l) (one-order ys zs u.1 v.1 rest)

  -- ---- by neighbours
  above-far : (x : X) (xs : List X) → ((k : ℕ) → k < length xs → lt (get_or xs k x) x ≡ false) → Above x xs
  above-far x [] h = tt
  above-far x (y ∷ ys) h = (h 0 (omega arith), above-far x ys (λ k p. h (suc k) (omega arith)))

  up-far : (xs : List X) → ((i j : ℕ) (d : X) → i ≤ j → j < length xs → lt (get_or xs j d) (get_or xs i d) ≡ false) → Up xs
  up-far [] h = tt
  up-far (x ∷ xs) h = (above-far x xs (λ k p. h 0 (suc k) x (omega arith) (omega arith)), up-far xs (λ i j d p q. h (suc i) (suc j) d (omega arith) (omega arith)))

  pub up-sorted : (xs : List X) → IsSortedBy lt xs → Up xs
  up-sorted xs s = up-far xs (sorted_far lt o xs s)

  neighbours : (xs : List X) (k : ℕ) (d : X) → Up xs → suc k < length xs → lt (get_or xs (suc k) d) (get_or xs k d) ≡ false
  neighbours [] k d u h = absurd (omega arith)
  neighbours (x ∷ []) k d u h = absurd (omega arith)
  neighbours (x ∷ y ∷ ys) zero d u h = u.0.0
  neighbours (x ∷ y ∷ ys) (suc k) d u h = neighbours (y ∷ ys) k d u.1 (omega arith)

  pub sorted-up : (xs : List X) → Up xs → IsSortedBy lt xs
  sorted-up xs u k d low h = let next : k + 1 ≡ suc k = omega arith in ap (λ n. lt (get_or xs n d) (get_or xs k d)) next ∙ neighbours xs k d u (omega arith)

  pub only-order : (xs ys : List X) → IsSortedBy lt ys → IsStableBy lt xs ys → ys ≡ ordered lt xs
  only-order xs ys s t = one-order ys (ordered lt xs) (up-sorted ys s) (up-ordered xs) (λ x. t x ∙ sym (ordered-stable xs x))

  -- a list in order stays as it is
  pub ordered-up : (xs : List X) → Up xs → ordered lt xs ≡ xs
  ordered-up xs u = one-order (ordered lt xs) xs (up-ordered xs) u (λ x. ordered-stable xs x)

  above-take : (x : X) (k : ℕ) (ys : List X) → Above x ys → Above x (take k ys)
  above-take x zero ys a = tt
  above-take x (suc k) [] a = tt
  above-take x (suc k) (y ∷ ys) a = (a.0, above-take x k ys a.1)

  pub up-take : (k : ℕ) (ys : List X) → Up ys → Up (take k ys)
  up-take zero ys u = tt
  up-take (suc k) [] u = tt
  up-take (suc k) (y ∷ ys) u = (above-take y k ys u.0, up-take k ys u.1)

-- ---- the same order of the views of elements
module _ {X Y : Type 0} (lt : X → X → Bool) (lt' : Y → Y → Bool) (view : X → Y) (P : X → Type 0) (agree : (x y : X) → P x → P y → lt x y ≡ lt' (view x) (view y)) where
  map-placed : (d : X) (xs : List X) → P d → AllByRecursion P xs → map view (placed lt d xs) ≡ placed lt' (view d) (map view xs)
  map-placed d [] p a = refl
  map-placed d (x ∷ xs) p a = either (lt d x) (map-placed d xs p a.1) ∙ ap (λ b. cond b (view d ∷ view x ∷ map view xs) (view x ∷ placed lt' (view d) (map view xs))) (agree d x p a.0)
    where
      either : (b : Bool) → map view (placed lt d xs) ≡ placed lt' (view d) (map view xs) → map view (cond b (d ∷ x ∷ xs) (x ∷ placed lt d xs)) ≡ cond b (view d ∷ view x ∷ map view xs) (view x ∷ placed lt' (view d) (map view xs))
      either true r = refl
      either false r = ap (λ l. view x ∷ l) r

  all-placed : (d : X) (xs : List X) → P d → AllByRecursion P xs → AllByRecursion P (placed lt d xs)
  all-placed d [] p a = (p, tt)
  all-placed d (x ∷ xs) p a = either (lt d x) (all-placed d xs p a.1)
    where
      either : (b : Bool) → AllByRecursion P (placed lt d xs) → AllByRecursion P (cond b (d ∷ x ∷ xs) (x ∷ placed lt d xs))
      either true r = (p, a)
      either false r = (a.0, r)

  map-folded : (acc xs : List X) → AllByRecursion P acc → AllByRecursion P xs → map view (fold (inserts lt) acc xs) ≡ fold (inserts lt') (map view acc) (map view xs)
  map-folded acc [] a b = refl
  map-folded acc (x ∷ xs) a b = map-folded (placed lt x acc) xs (all-placed x acc b.0 a) b.1 ∙ ap (λ l. fold (inserts lt') l (map view xs)) (map-placed x acc b.0 a)

  pub map-ordered : (xs : List X) → AllByRecursion P xs → map view (ordered lt xs) ≡ ordered lt' (map view xs)
  map-ordered xs a = map-folded [] xs tt a
