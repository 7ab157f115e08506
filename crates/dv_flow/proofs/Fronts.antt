-- The first rows and the rest, updated by changes: where rows are inserted and removed.
use Rattle.std.specs.Prelude.{◌≡◌, ◌+◌, ◌-◌, ◌<◌, ◌≤◌, ℕ, suc, Bool, true, false, cond, ◌&&◌, ◌↔◌, List, [], ◌∷◌, ◌++◌, length, None, Some, is_some, IsSome, slice_get, ⊤, zero, refl}
use Rattle.std.proofs.Common.{ap, append-nil, append_assoc, arith, inr, sym, subst, take_at, ◌∙◌}
use Rattle.std.proofs.lemmas.List.Elements.{recursion_from_All}
use Rattle.std.proofs.lemmas.List.{length_push}
use Rattle.std.proofs.lemmas.Map.Keys.{sorted_head}
use Rattle.std.specs.declared.cmp.Ordering.{Ordering}
use Rattle.std.specs.declared.cmp.Ordering.TheVariants.{Less, Equal, Greater}
use Rattle.std.specs.Cmp.{alike_right}
use Rattle.std.specs.List.{All, AllByRecursion}
use Rattle.std.specs.Map.{keys_of}
use Rattle.std.specs.Option.{option_map}
use Rattle.std.specs.Ordering.{is_eq, is_gt, is_lt, match_ordering, ordering_reverse}
use Rattle.dv_value.specs.Tree.{Field}
use Rattle.dv_change.specs.declared.change.Change.{Change}
use Rattle.dv_change.specs.declared.change.Change.TheVariants.{Gone, Put}
use Rattle.dv_change.specs.Changes.{Positioned, at, with_change}
use Rattle.dv_change.specs.Inner.Changes.{IsPositioned, position_changed}
use Rattle.dv_change.specs.Inner.DiffLaws.{diff-parts}
use Rattle.dv_change.specs.Difference.{diff}
use Rattle.dv_change.specs.Inner.Ordered.{gone, put}
use Rattle.dv_change.specs.Inner.PositionLaws.{pos_order_total}
use Rattle.dv_change.specs.Positions.{PosTree, pos_order}
use Rattle.dv_change.specs.Inner.RowLaws.{positioned-none, positioned-tail, put-front}
use Rattle.dv_flow.specs.Inner.Limiting.{is_past, last_place, limit_ordered, next_place}
use Rattle.dv_flow.specs.Placed.{front_at}

-- ---- two lists, the first of which is the front of both together

-- the first has at most n rows, and exactly n if there are others
pub cut-length : (n : ℕ) (xs ys : Positioned) → xs ≡ front_at n (xs ++ ys) → (length xs ≤ n) × (0 < length ys → length xs ≡ n)
cut-length zero [] ys e = (omega arith, λ h. refl)
cut-length zero (x ∷ xs) ys e = cc
cut-length (suc n) [] [] e = (omega arith, λ h. absurd (omega arith))
cut-length (suc n) [] (y ∷ ys) e = cc
cut-length (suc n) (x ∷ xs) ys e =
    let tail : xs ≡ front_at n (xs ++ ys) = cc in
    let rest = cut-length n xs ys tail in
    (omega (arith, rest.0), λ h. ap suc (rest.1 h))

-- a first list of n rows is the front of both
pub cut-full : (n : ℕ) (xs ys : Positioned) → length xs ≡ n → xs ≡ front_at n (xs ++ ys)
cut-full n xs ys e = sym (take_at xs ys n e)

cut-all : (n : ℕ) (xs : Positioned) → length xs ≤ n → xs ≡ front_at n (xs ++ [])
cut-all zero [] h = refl
cut-all zero (x ∷ xs) h = absurd (omega arith)
cut-all (suc n) [] h = refl
cut-all (suc n) (x ∷ xs) h = ap (λ es. x ∷ es) (cut-all n xs (omega arith))

-- it stays the front with other rows after it, of which there are none if there were none
pub cut-others : (n : ℕ) (xs ys zs : Positioned) → xs ≡ front_at n (xs ++ ys) → (0 < length zs → 0 < length ys) → xs ≡ front_at n (xs ++ zs)
cut-others n xs ys [] e some = cut-all n xs (cut-length n xs ys e).0
cut-others n xs ys (z ∷ zs) e some = cut-full n xs (z ∷ zs) ((cut-length n xs ys e).1 (some (omega arith)))

-- the first row after the front
pub next-is : (n : ℕ) (xs ys : Positioned) → xs ≡ front_at n (xs ++ ys) → next_place n (xs ++ ys) ≡ next_place 0 ys
next-is zero [] ys e = refl
next-is (suc n) [] [] e = refl
next-is (suc n) [] (y ∷ ys) e = cc
next-is zero (x ∷ xs) ys e = cc
next-is (suc n) (x ∷ xs) ys e = let tail : xs ≡ front_at n (xs ++ ys) = cc in next-is n xs ys tail

pub next-first : (ys : Positioned) (k : PosTree) (v : List Field) → slice_get ys 0 ≡ Some (k, v) → next_place 0 ys ≡ Some k
next-first [] k v e = cc
next-first (y ∷ ys) k v e = ap (option_map (λ e. e.0)) e

-- if the front isn't full, no row is pushed out
pub last-none : (n : ℕ) (xs ys : Positioned) → xs ≡ front_at n (xs ++ ys) → length xs < n → last_place n (xs ++ ys) ≡ None
last-none zero xs ys e h = absurd (omega arith)
last-none (suc n) [] [] e h = refl
last-none (suc n) [] (y ∷ ys) e h = cc
last-none (suc zero) (x ∷ xs) ys e h = absurd (omega arith)
last-none (suc (suc n)) (x ∷ xs) ys e h = let tail : xs ≡ front_at (suc n) (xs ++ ys) = cc in last-none (suc n) xs ys tail (omega arith)

at-place : (i : ℕ) (k : PosTree) (v : List Field) (xs ys : Positioned) → slice_get xs i ≡ Some (k, v) → next_place i (xs ++ ys) ≡ Some k
at-place i k v [] ys e = cc
at-place zero k v (x ∷ xs) ys e = ap (option_map (λ e. e.0)) e
at-place (suc i) k v (x ∷ xs) ys e = at-place i k v xs ys e

-- if it is full, its last row is
pub last-is : (n : ℕ) (k : PosTree) (v : List Field) (xs ys : Positioned) → xs ≡ front_at n (xs ++ ys) → n ≤ length xs → slice_get xs (length xs - 1) ≡ Some (k, v) → last_place n (xs ++ ys) ≡ Some k
last-is zero k v [] ys e h there = cc
last-is zero k v (x ∷ xs) ys e h there = cc
last-is (suc n) k v xs ys e h there =
    let most = (cut-length (suc n) xs ys e).0 in
    let place : length xs - 1 ≡ n = omega (arith, most) in
    at-place n k v xs ys (ap (slice_get xs) (sym place) ∙ there)

-- a list without a first or a last row has none
pub no-length : (xs : Positioned) → IsSome {T = ⊤} None ↔ (0 < length xs) → length xs ≡ 0
no-length [] some = refl
no-length (x ∷ xs) some = let e = some.1 (omega arith) in cc

pub last-empty : (n : ℕ) (xs ys : Positioned) → n ≤ length xs → length xs ≡ 0 → last_place n (xs ++ ys) ≡ None
last-empty zero xs ys h e = refl
last-empty (suc n) xs ys h e = absurd (omega arith)

pub next-empty : (ys : Positioned) → length ys ≡ 0 → next_place 0 ys ≡ None
next-empty [] e = refl
next-empty (y ∷ ys) e = absurd (omega arith)

-- ---- whether a position is after all

all-but : (p k q : PosTree) → pos_order p k ≡ Greater → is_lt (pos_order k q) ≡ false → is_gt (pos_order p q) ≡ true
all-but p k q above e = by (pos_order k q) refl e
  where
    by : (o : Ordering) → pos_order k q ≡ o → is_lt o ≡ false → is_gt (pos_order p q) ≡ true
    by Less o e = cc
    by Equal o e = ap is_gt (sym (alike_right pos_order_total k q p o) ∙ above)
    by Greater o e =
        let first : pos_order q k ≡ Less = pos_order_total.antisymm q k ∙ ap ordering_reverse o in
        let second : pos_order k p ≡ Less = pos_order_total.antisymm k p ∙ ap ordering_reverse above in
        ap is_gt (pos_order_total.antisymm p q ∙ ap ordering_reverse (pos_order_total.trans q k p first second))

-- a position after the last one is after all
past-last : (p k : PosTree) (xs : Positioned) → pos_order p k ≡ Greater → AllByRecursion (λ q. is_lt (pos_order k q) ≡ false) (keys_of xs) → is_past p xs ≡ true
past-last p k [] above all = refl
past-last p k (x ∷ xs) above all = ap (λ b. b && is_past p xs) (all-but p k x.0 above all.0) ∙ past-last p k xs above all.1

never : (b : Bool) → (b && false) ≡ false
never true = refl
never false = refl

past-not : (p k : PosTree) (v : List Field) (i : ℕ) (xs : Positioned) → is_gt (pos_order p k) ≡ false → slice_get xs i ≡ Some (k, v) → is_past p xs ≡ false
past-not p k v i [] below e = cc
past-not p k v zero (x ∷ xs) below e =
    let same : x ≡ (k, v) = cc in
    ap (λ b. b && is_past p xs) (ap (λ e. is_gt (pos_order p e.0)) same ∙ below)
past-not p k v (suc i) (x ∷ xs) below e = ap (λ b. is_gt (pos_order p x.0) && b) (past-not p k v i xs below e) ∙ never (is_gt (pos_order p x.0))

-- so comparing with the last one is enough
pub past-is : (p k : PosTree) (v : List Field) (i : ℕ) (xs : Positioned) → slice_get xs i ≡ Some (k, v) → All (λ q. is_lt (pos_order k q) ≡ false) (keys_of xs) → is_gt (pos_order p k) ≡ is_past p xs
past-is p k v i xs there all = by (pos_order p k) refl
  where
    by : (o : Ordering) → pos_order p k ≡ o → is_gt o ≡ is_past p xs
    by Less o = sym (past-not p k v i xs (ap is_gt o) there)
    by Equal o = sym (past-not p k v i xs (ap is_gt o) there)
    by Greater o = sym (past-last p k xs o (recursion_from_All (λ q. is_lt (pos_order k q) ≡ false) (keys_of xs) all))

-- no row is at such a position
past-apart : (p : PosTree) (xs : Positioned) → is_past p xs ≡ true → is_some (at p xs) ≡ false
past-apart p [] past = refl
past-apart p (x ∷ xs) past = by (pos_order p x.0) past (past-apart p xs)
  where
    by : (o : Ordering) → (is_gt o && is_past p xs) ≡ true → (is_past p xs ≡ true → is_some (at p xs) ≡ false) → is_some (cond (is_eq o) (Some x.1) (at p xs)) ≡ false
    by Less past rest = cc
    by Equal past rest = cc
    by Greater past rest = rest past

-- ---- rows that are inserted

-- a row after all of the front is inserted among the others
pub put-past : (p : PosTree) (r : List Field) (xs ys : Positioned) → is_past p xs ≡ true → put p r (xs ++ ys) ≡ xs ++ put p r ys
put-past p r [] ys past = refl
put-past p r (x ∷ xs) ys past = by (pos_order p x.0) past (put-past p r xs ys)
  where
    by : (o : Ordering) → (is_gt o && is_past p xs) ≡ true → (is_past p xs ≡ true → put p r (xs ++ ys) ≡ xs ++ put p r ys)
        → match_ordering o ((p, r) ∷ x ∷ xs ++ ys) ((x.0, r) ∷ xs ++ ys) (x ∷ put p r (xs ++ ys)) ≡ x ∷ xs ++ put p r ys
    by Less past rest = cc
    by Equal past rest = cc
    by Greater past rest = ap (λ es. x ∷ es) (rest past)

-- otherwise in the front, if that isn't full or the row isn't after all of it
pub put-within : (n : ℕ) (p : PosTree) (r : List Field) (xs ys : Positioned) → xs ≡ front_at n (xs ++ ys) → (n ≤ length xs → is_past p xs ≡ false) → put p r xs ++ ys ≡ put p r (xs ++ ys)
put-within zero p r [] ys e within = let h = within (omega arith) in cc
put-within zero p r (x ∷ xs) ys e within = cc
put-within (suc n) p r [] [] e within = refl
put-within (suc n) p r [] (y ∷ ys) e within = cc
put-within (suc n) p r (x ∷ xs) ys e within =
    let tail : xs ≡ front_at n (xs ++ ys) = cc in
    by (pos_order p x.0) within (put-within n p r xs ys tail)
  where
    by : (o : Ordering) → (suc n ≤ suc (length xs) → (is_gt o && is_past p xs) ≡ false) → ((n ≤ length xs → is_past p xs ≡ false) → put p r xs ++ ys ≡ put p r (xs ++ ys))
        → match_ordering o ((p, r) ∷ x ∷ xs) ((x.0, r) ∷ xs) (x ∷ put p r xs) ++ ys ≡ match_ordering o ((p, r) ∷ x ∷ xs ++ ys) ((x.0, r) ∷ xs ++ ys) (x ∷ put p r (xs ++ ys))
    by Less within rest = refl
    by Equal within rest = refl
    by Greater within rest = ap (λ es. x ∷ es) (rest (λ h. within (omega arith)))

-- ---- rows that are removed

pub gone-front : (p : PosTree) (xs ys : Positioned) → is_some (at p xs) ≡ true → gone p xs ++ ys ≡ gone p (xs ++ ys)
gone-front p [] ys found = cc
gone-front p (x ∷ xs) ys found = by (is_eq (pos_order p x.0)) found (gone-front p xs ys)
  where
    by : (b : Bool) → is_some (cond b (Some x.1) (at p xs)) ≡ true → (is_some (at p xs) ≡ true → gone p xs ++ ys ≡ gone p (xs ++ ys)) → cond b xs (x ∷ gone p xs) ++ ys ≡ cond b (xs ++ ys) (x ∷ gone p (xs ++ ys))
    by true found rest = refl
    by false found rest = ap (λ es. x ∷ es) (rest found)

pub gone-behind : (p : PosTree) (xs ys : Positioned) → is_some (at p xs) ≡ false → xs ++ gone p ys ≡ gone p (xs ++ ys)
gone-behind p [] ys found = refl
gone-behind p (x ∷ xs) ys found = by (is_eq (pos_order p x.0)) found (gone-behind p xs ys)
  where
    by : (b : Bool) → is_some (cond b (Some x.1) (at p xs)) ≡ false → (is_some (at p xs) ≡ false → xs ++ gone p ys ≡ gone p (xs ++ ys)) → x ∷ xs ++ gone p ys ≡ cond b (xs ++ ys) (x ∷ gone p (xs ++ ys))
    by true found rest = cc
    by false found rest = ap (λ es. x ∷ es) (rest found)

pub gone-none : (p : PosTree) (xs : Positioned) → is_some (at p xs) ≡ false → gone p xs ≡ xs
gone-none p xs found = sym (ap (gone p) (append-nil xs)) ∙ sym (gone-behind p xs [] found) ∙ append-nil xs

-- ---- a change after all of the front leaves the front unchanged

pub changed-past : (change : Change) (xs ys : Positioned) → is_past (position_changed change) xs ≡ true → with_change (xs ++ ys) change ≡ xs ++ with_change ys change
changed-past (Put p r) xs ys past = put-past p r xs ys past
changed-past (Gone p) xs ys past = sym (gone-behind p xs ys (past-apart p xs past))

pub nothing-owed : (n : ℕ) (change : Change) (xs ys : Positioned) → IsPositioned (xs ++ ys) → length xs ≡ n → is_past (position_changed change) xs ≡ true → diff (front_at n (xs ++ ys)) (front_at n (with_change (xs ++ ys) change)) ≡ []
nothing-owed n change xs ys are long past =
    let front = limit_ordered n (xs ++ ys) are in
    let same : front_at n (with_change (xs ++ ys) change) ≡ front_at n (xs ++ ys) = ap (front_at n) (changed-past change xs ys past) ∙ sym (cut-full n xs (with_change ys change) long) ∙ cut-full n xs ys long in
    ap (diff (front_at n (xs ++ ys))) same ∙ diff-parts (front_at n (xs ++ ys)) (front_at n (xs ++ ys)) [] [] front front positioned-none positioned-none (λ q x. inr (refl, refl, refl))

-- ---- a row that moves from the one list to the other

pub positioned-rest : (xs ys : Positioned) → IsPositioned (xs ++ ys) → IsPositioned ys
positioned-rest [] ys are = are
positioned-rest (x ∷ xs) ys are = positioned-rest xs ys (positioned-tail x (xs ++ ys) are)

one-of : (P : PosTree → Type 0) (xs ys : Positioned) (e : PosTree × List Field) → AllByRecursion P (keys_of (xs ++ e ∷ ys)) → P e.0
one-of P [] ys e all = all.0
one-of P (x ∷ xs) ys e all = one-of P xs ys e all.1

put-last : (p : PosTree) (r : List Field) (xs ys : Positioned) → IsPositioned (xs ++ (p, r) ∷ ys) → put p r xs ≡ xs ++ (p, r) ∷ []
put-last p r [] ys are = refl
put-last p r (x ∷ xs) ys are =
    let below : pos_order x.0 p ≡ Less = one-of (λ q. pos_order x.0 q ≡ Less) xs ys (p, r) (sorted_head pos_order x.0 (keys_of (xs ++ (p, r) ∷ ys)) are.ascending) in
    let above : pos_order p x.0 ≡ Greater = pos_order_total.antisymm p x.0 ∙ ap ordering_reverse below in
    ap (λ o. match_ordering o ((p, r) ∷ x ∷ xs) ((x.0, r) ∷ xs) (x ∷ put p r xs)) above ∙ ap (λ es. x ∷ es) (put-last p r xs ys (positioned-tail x (xs ++ (p, r) ∷ ys) are))

module _ (p : PosTree) (r : List Field) where
  -- the last row of the front, moved to the others
  pub spilled : (xs ys front rest : Positioned) → IsPositioned (xs ++ ys) → xs ≡ front ++ (p, r) ∷ [] → rest ≡ put p r ys → front ++ rest ≡ xs ++ ys
  spilled xs ys front rest are x y =
      let whole : xs ++ ys ≡ front ++ (p, r) ∷ ys = ap (λ es. es ++ ys) x ∙ append_assoc front ((p, r) ∷ []) ys in
      let behind = positioned-rest front ((p, r) ∷ ys) (subst (λ (es : Positioned). IsPositioned es) whole are) in
      ap (λ es. front ++ es) (y ∙ put-front p r ys (sorted_head pos_order p (keys_of ys) behind.ascending)) ∙ sym whole

  -- the first of the others, moved to the front
  pub pulled : (xs ys front rest : Positioned) → IsPositioned (xs ++ ys) → ys ≡ (p, r) ∷ rest → front ≡ put p r xs → front ++ rest ≡ xs ++ ys
  pulled xs ys front rest are y x =
      let last = put-last p r xs rest (subst (λ (es : Positioned). IsPositioned (xs ++ es)) y are) in
      ap (λ es. es ++ rest) (x ∙ last) ∙ append_assoc xs ((p, r) ∷ []) rest ∙ ap (λ es. xs ++ es) (sym y)

  pub pulled-length : (xs ys front rest : Positioned) → IsPositioned (xs ++ ys) → ys ≡ (p, r) ∷ rest → front ≡ put p r xs → length front ≡ length xs + 1
  pulled-length xs ys front rest are y x =
      let last = put-last p r xs rest (subst (λ (es : Positioned). IsPositioned (xs ++ es)) y are) in
      ap length (x ∙ last) ∙ length_push xs (p, r)

-- inserting a row adds one at most
pub at-most-one : (b : Bool) → cond b 0 1 ≤ 1
at-most-one true = omega arith
at-most-one false = omega arith
