-- A document that matches a filter has a leaf in the bounds of the plan that is chosen for it.
use Rattle.std.proofs.Common.{◌≡◌, ◌∙◌, ◌↔◌, ◌⊎◌, inl, inr, ℕ, suc, ◌+◌, arith, List, [], ◌∷◌, map, refl, ap, sym, Bool, true, false, cond, ◌&&◌, ◌||◌, ◌==◌, Option, Some, None, slice_get}
use Rattle.std.specs.List.{list_any}
use Rattle.std.specs.Option.{option_map, option_or}
use Rattle.std.specs.Ordering.{is_eq, is_ne}
use Rattle.std.specs.declared.cmp.Ordering.TheVariants.{Equal}
use Rattle.std.proofs.Math.Bool.{and-true}
use Rattle.std.proofs.lemmas.Bool.{or_left, or_right, and_parts}
use Rattle.std.proofs.lemmas.Cmp.{tied_itself}
use Rattle.dv_value.specs.Tree.{Tree, Field}
use Rattle.dv_order.specs.Order.{canon, class, order}
use Rattle.dv_order.specs.Key.{KeyTree, no_element, value, key_class, key_order}
use Rattle.dv_order.specs.Inner.KeyLaws.{key_order_total, no_class, no_class_back, equal-from}
use Rattle.dv_candidates.specs.Candidates.{Candidate, leaves, or_null, whole}
use Rattle.dv_path.specs.LeafKeys.{is_key_of, is_leaf_key, is_some_key, leaf_values}
use Rattle.dv_match.specs.declared.range.Range.{Range}
use Rattle.dv_match.specs.declared.range.Range.TheVariants.{Above, AtLeast, Below, AtMost}
use Rattle.dv_match.specs.Filter.{Member, all_of, any_of, none_of, at_path, Members, no_members, more_members, Filters, no_filters, more_filters, Condition, equal, among, in_range, Conditions, no_conditions, more_conditions}
use Rattle.dv_match.specs.Match.{stands, matches, matches_member, matches_all, meets_all, meets}
use Rattle.dv_keyed.specs.Choice.{is_point, is_bound, same_path, first_of, first_in, first_in_member, first_in_all, first_place, chosen}
use Rattle.dv_keyed.proofs.Ends.{class-canon}
use Rattle.dv_keyed.specs.Inner.Decided.{HasOneKey, IsClosed, IsClosedUnder, is_one_condition, is_one_under}
use Rattle.dv_keyed.specs.Inner.Interval.{is_between}
use Rattle.dv_keyed.specs.declared.interval.Interval.{Interval}
use Rattle.dv_keyed.specs.Within.{is_within, has_within}
use Rattle.dv_keyed.specs.Inner.Within.{stands_so, covers}
use Rattle.dv_keyed.specs.Inner.ListLaws.{one-path, some-same}

either-or : {X : Type 0} (o p : Option X) (x : X) → option_or o p ≡ Some x → (o ≡ Some x) ⊎ (p ≡ Some x)
either-or None p x e = inr e
either-or (Some y) p x e = inl e

-- a condition that passes a test and is met
abbrev Found : (Condition → Bool) → List (List ℕ) → Condition → List Field → Type 0
Found test path c d = (test c ≡ true) × (meets c (whole d path) (leaves d path) ≡ true)

chosen-condition : (test : Condition → Bool) (cs : Conditions) (c : Condition) (ws ls : List Candidate) → first_of test cs ≡ Some c → meets_all cs ws ls ≡ true → (test c ≡ true) × (meets c ws ls ≡ true)
unfolding meets_all
chosen-condition test no_conditions c ws ls e h = absurd cc
chosen-condition test (more_conditions x cs) c ws ls e h = at (test x) refl e (chosen-condition test cs c ws ls)
  where
    parts : (meets x ws ls ≡ true) × (meets_all cs ws ls ≡ true)
    parts = and_parts (meets x ws ls) (meets_all cs ws ls) h

    at : (b : Bool) → test x ≡ b → cond b (Some x) (first_of test cs) ≡ Some c → (first_of test cs ≡ Some c → meets_all cs ws ls ≡ true → (test c ≡ true) × (meets c ws ls ≡ true)) → (test c ≡ true) × (meets c ws ls ≡ true)
    at true f g rest = let same : x ≡ c = cc in (ap test (sym same) ∙ f, ap (λ y. meets y ws ls) (sym same) ∙ parts.0)
    at false f g rest = rest g parts.1

under-path : (test : Condition → Bool) (path p : List (List ℕ)) (cs : Conditions) (c : Condition) (d : List Field) (b : Bool) → same_path p path ≡ b → cond b (first_of test cs) None ≡ Some c → meets_all cs (whole d p) (leaves d p) ≡ true → Found test path c d
under-path test path p cs c d true same e h =
    let is = one-path p path same in
    chosen-condition test cs c (whole d path) (leaves d path) e (ap (λ q. meets_all cs (whole d q) (leaves d q)) (sym is) ∙ h)
under-path test path p cs c d false same e h = absurd cc

mutual
  unfolding first_in first_in_member first_in_all matches matches_member matches_all

  pub found-in : (test : Condition → Bool) (path : List (List ℕ)) (c : Condition) (d : List Field) (ms : Members) → first_in test path ms ≡ Some c → matches ms d ≡ true → Found test path c d
  found-in test path c d no_members e h = absurd cc
  found-in test path c d (more_members m ms) e h =
      let parts = and_parts (matches_member m d) (matches ms d) h in
      elim (either-or (first_in_member test path m) (first_in test path ms) c e) [ inl here ↦ found-in-member test path c d m here parts.0 | inr later ↦ found-in test path c d ms later parts.1 ]

  found-in-member : (test : Condition → Bool) (path : List (List ℕ)) (c : Condition) (d : List Field) (m : Member) → first_in_member test path m ≡ Some c → matches_member m d ≡ true → Found test path c d
  found-in-member test path c d (all_of fs) e h = found-in-all test path c d fs e h
  found-in-member test path c d (any_of fs) e h = absurd cc
  found-in-member test path c d (none_of fs) e h = absurd cc
  found-in-member test path c d (at_path p cs) e h = under-path test path p cs c d (same_path p path) refl e h

  found-in-all : (test : Condition → Bool) (path : List (List ℕ)) (c : Condition) (d : List Field) (fs : Filters) → first_in_all test path fs ≡ Some c → matches_all fs d ≡ true → Found test path c d
  found-in-all test path c d no_filters e h = absurd cc
  found-in-all test path c d (more_filters f fs) e h =
      let parts = and_parts (matches f d) (matches_all fs d) h in
      elim (either-or (first_in test path f) (first_in_all test path fs) c e) [ inl here ↦ found-in test path c d f here parts.0 | inr later ↦ found-in-all test path c d fs later parts.1 ]

-- ---- the index at the chosen place
abbrev SamePlan : ℕ → Condition → ℕ → Condition → Type 0
SamePlan n x m c = let p : ℕ × Condition = (n, x) in let q : ℕ × Condition = (m, c) in p ≡ q

-- a place, counted from n, is that of a path that has the condition
abbrev Placed : (Condition → Bool) → Members → ℕ → List (List (List ℕ)) → ℕ → Condition → Type 0
Placed test ms n ps m c = (j : ℕ) × (m ≡ n + j) × (path : List (List ℕ)) × (slice_get ps j ≡ Some path) × (first_in test path ms ≡ Some c)

first-or-later : (test : Condition → Bool) (ms : Members) (n : ℕ) (p : List (List ℕ)) (ps : List (List (List ℕ))) (m : ℕ) (c : Condition) (o : Option Condition) → first_in test p ms ≡ o → option_or (option_map (λ x. (n, x)) o) (first_place test ms (suc n) ps) ≡ Some (m, c) → ((n ≡ m) × (first_in test p ms ≡ Some c)) ⊎ (first_place test ms (suc n) ps ≡ Some (m, c))
first-or-later test ms n p ps m c None is e = inr e
first-or-later test ms n p ps m c (Some x) is e = let pair : SamePlan n x m c = some-same (n, x) (m, c) e in inl (ap (λ (q : ℕ × Condition). q.0) pair, is ∙ ap (λ (q : ℕ × Condition). Some q.1) pair)

placed : (test : Condition → Bool) (ms : Members) (n : ℕ) (ps : List (List (List ℕ))) (m : ℕ) (c : Condition) → first_place test ms n ps ≡ Some (m, c) → Placed test ms n ps m c
placed test ms n [] m c e = absurd cc
placed test ms n (p ∷ ps) m c e =
    elim (first-or-later test ms n p ps m c (first_in test p ms) refl e) [ inl here ↦ (0, (let same = here.0 in omega arith), p, refl, here.1) | inr later ↦ behind (placed test ms (suc n) ps m c later) ]
  where
    behind : Placed test ms (suc n) ps m c → Placed test ms n (p ∷ ps) m c
    behind h = (suc h.0, (let is = h.1 in omega arith), h.2, h.3, h.4)

-- a condition that passes the test is met exactly if a leaf is in its bounds
abbrev Bounds : (Condition → Bool) → Type 0
Bounds test = (c : Condition) (path : List (List ℕ)) (d : List Field) → test c ≡ true → meets c (whole d path) (leaves d path) ≡ has_within c path d

met-point : Bounds is_point
unfolding meets has_within
met-point (equal v) path d e = refl
met-point (among vs) path d e = refl
met-point c path d e = absurd cc

pub met-bound : Bounds is_bound
unfolding meets has_within
met-bound (in_range r v) path d e = refl
met-bound c path d e = absurd cc

-- there is a path at the place, and what matches the filter has a leaf of it in the bounds
abbrev pub Plans : Members → List (List (List ℕ)) → ℕ → Condition → Type 0
Plans ms paths place c = (path : List (List ℕ)) × (slice_get paths place ≡ Some path) × ((d : List Field) → matches ms d ≡ true → has_within c path d ≡ true)

by-test : (test : Condition → Bool) → Bounds test → (ms : Members) (paths : List (List (List ℕ))) (place : ℕ) (c : Condition) → first_place test ms 0 paths ≡ Some (place, c) → Plans ms paths place c
by-test test met ms paths place c e =
    let at = placed test ms 0 paths place c e in
    let is : place ≡ at.0 = (let same = at.1 in omega arith) in
    (at.2, ap (slice_get paths) is ∙ at.3, λ d h. (let f = found-in test at.2 c d ms at.4 h in sym (met c at.2 d f.0) ∙ f.1))

-- what matches the filter has a leaf in the bounds of the chosen index
pub planned : (ms : Members) (paths : List (List (List ℕ))) (place : ℕ) (c : Condition) → chosen ms paths ≡ Some (place, c) → Plans ms paths place c
unfolding chosen
planned ms paths place c e =
    elim (either-or (first_place is_point ms 0 paths) (first_place is_bound ms 0 paths) (place, c) e) [
      | inl point ↦ by-test is_point met-point ms paths place c point
      | inr bound ↦ by-test is_bound met-bound ms paths place c bound
    ]

-- ---- a filter of one condition
abbrev one : List (List ℕ) → Condition → Members
one p c = more_members (at_path p (more_conditions c no_conditions)) no_members

matches-one : (p : List (List ℕ)) (c : Condition) (d : List Field) → matches (one p c) d ≡ meets c (whole d p) (leaves d p)
unfolding matches matches_member meets_all
matches-one p c d = let met = meets c (whole d p) (leaves d p) in and-true (met && true) ∙ and-true met

first-in-one : (test : Condition → Bool) (p : List (List ℕ)) (c : Condition) (path : List (List ℕ)) (bounds : Condition) → first_in test path (one p c) ≡ Some bounds → (p ≡ path) × (c ≡ bounds) × (test bounds ≡ true)
unfolding first_in first_in_member
first-in-one test p c path bounds e = at (same_path p path) (test c) refl refl e
  where
    at : (a b : Bool) → same_path p path ≡ a → test c ≡ b → option_or (cond a (cond b (Some c) None) None) None ≡ Some bounds → (p ≡ path) × (c ≡ bounds) × (test bounds ≡ true)
    at true true f g h = let is : c ≡ bounds = some-same c bounds h in (one-path p path f, is, ap test (sym is) ∙ g)
    at true false f g h = absurd cc
    at false b f g h = absurd cc

decided-by : (test : Condition → Bool) → Bounds test → (p : List (List ℕ)) (c : Condition) (paths : List (List (List ℕ))) (place : ℕ) (bounds : Condition) (path : List (List ℕ)) (d : List Field) → first_place test (one p c) 0 paths ≡ Some (place, bounds) → slice_get paths place ≡ Some path → matches (one p c) d ≡ has_within bounds path d
decided-by test met p c paths place bounds path d e there =
    let at = placed test (one p c) 0 paths place bounds e in
    let is : place ≡ at.0 = (let same = at.1 in omega arith) in
    let f = first-in-one test p c at.2 bounds at.4 in
    let leads : p ≡ path = f.0 ∙ some-same at.2 path (sym at.3 ∙ ap (slice_get paths) (sym is) ∙ there) in
    matches-one p c d ∙ (λ j. meets (f.1 j) (whole d (leads j)) (leaves d (leads j))) ∙ met bounds path d f.2

of-one : (m : Member) (paths : List (List (List ℕ))) (place : ℕ) (bounds : Condition) (path : List (List ℕ)) (d : List Field) → is_one_under m ≡ true → chosen (more_members m no_members) paths ≡ Some (place, bounds) → slice_get paths place ≡ Some path → matches (more_members m no_members) d ≡ has_within bounds path d
unfolding chosen
of-one (at_path p (more_conditions c no_conditions)) paths place bounds path d is e there =
    elim (either-or (first_place is_point (one p c) 0 paths) (first_place is_bound (one p c) 0 paths) (place, bounds) e) [
      | inl point ↦ decided-by is_point met-point p c paths place bounds path d point there
      | inr bound ↦ decided-by is_bound met-bound p c paths place bounds path d bound there
    ]
of-one m paths place bounds path d is e there = absurd cc

-- what has a leaf in the bounds of its plan matches it, and nothing else does
pub decided : (filter : Members) (paths : List (List (List ℕ))) (place : ℕ) (bounds : Condition) (path : List (List ℕ)) (d : List Field) → is_one_condition filter ≡ true → chosen filter paths ≡ Some (place, bounds) → slice_get paths place ≡ Some path → matches filter d ≡ has_within bounds path d
decided (more_members m no_members) paths place bounds path d is e there = of-one m paths place bounds path d is e there
decided filter paths place bounds path d is e there = absurd cc

-- ---- a filter of two conditions under one path
abbrev two : List (List ℕ) → Condition → Condition → Members
two p c e = more_members (at_path p (more_conditions c (more_conditions e no_conditions))) no_members

matches-two : (p : List (List ℕ)) (c e : Condition) (d : List Field) → matches (two p c e) d ≡ meets c (whole d p) (leaves d p) && meets e (whole d p) (leaves d p)
unfolding matches matches_member meets_all
matches-two p c e d =
    let first = meets c (whole d p) (leaves d p) in
    let second = meets e (whole d p) (leaves d p) in
    and-true (first && (second && true)) ∙ ap (λ b. first && b) (and-true second)

-- ---- from a leaf in the bounds to a key
module _ (law : (v w : Tree) → key_order (value (canon v)) (value (canon w)) ≡ order v w) where
  pub covers-within : (c : Condition) (x : Candidate) → covers c (value (canon (or_null x))) ≡ is_within c x
  covers-within (equal v) x = ap is_eq (law (or_null x) v)
  covers-within (among vs) x = ap (λ f. list_any f vs) (λ j v. is_eq (law (or_null x) v j))
  covers-within (in_range r v) x =
      ap (λ n. (n == class v) && stands_so r (key_order (value (canon (or_null x))) (value (canon v)))) (class-canon (or_null x))
      ∙ ap (λ b. (class (or_null x) == class v) && b) (ap (stands_so r) (law (or_null x) v) ∙ by-range r)
    where
      by-range : (s : Range) → stands_so s (order (or_null x) v) ≡ stands s v (or_null x)
      by-range Above = refl
      by-range AtLeast = refl
      by-range Below = refl
      by-range AtMost = refl
  covers-within c x = refl

  -- the key of some value is in the bounds, and among those of the candidates
  abbrev HasKey : Condition → List Candidate → Type 0
  HasKey c xs = (v : Tree) × (covers c (value (canon v)) ≡ true) × (is_some_key (value (canon v)) (map or_null xs) ≡ true)

  some-key : (c : Condition) (xs : List Candidate) → list_any (is_within c) xs ≡ true → HasKey c xs
  some-key c [] e = absurd cc
  some-key c (x ∷ xs) e = at (is_within c x) refl e (some-key c xs)
    where
      at : (b : Bool) → is_within c x ≡ b → b || list_any (is_within c) xs ≡ true → (list_any (is_within c) xs ≡ true → HasKey c xs) → HasKey c (x ∷ xs)
      at true f g rest =
          let k = value (canon (or_null x)) in
          (or_null x, covers-within c x ∙ f, or_left (is_key_of k (or_null x)) (is_some_key k (map or_null xs)) (ap is_eq (tied_itself key_order_total k)))
      at false f g rest = let r = rest g in let k = value (canon r.0) in (r.0, r.1, or_right (is_key_of k (or_null x)) (is_some_key k (map or_null xs)) r.2)

  pub leaf-key : (c : Condition) (path : List (List ℕ)) (d : List Field) → has_within c path d ≡ true → (v : Tree) × (covers c (value (canon v)) ≡ true) × (is_leaf_key (value (canon v)) path d ≡ true)
  unfolding has_within is_leaf_key leaf_values
  leaf-key c path d e = some-key c (leaves d path) e

  -- equal keys are in the same bounds
  module _ (same : (v w : Tree) → (order v w ≡ Equal) ↔ (canon v ≡ canon w)) where
    same-class : (k l : KeyTree) → key_order k l ≡ Equal → key_class k ≡ key_class l
    same-class no_element no_element e = refl
    same-class no_element (value w) e = absurd (let no : true ≡ false = sym (no_class w) ∙ ap is_ne e in cc)
    same-class (value v) no_element e = absurd (let no : true ≡ false = sym (no_class_back v) ∙ ap is_ne e in cc)
    same-class (value v) (value w) e = sym (class-canon v) ∙ ap class ((same v w).0 e) ∙ class-canon w

    covers-same : (c : Condition) (k l : KeyTree) → key_order k l ≡ Equal → covers c k ≡ covers c l
    covers-same (equal v) k l e = ap is_eq (key_order_total.congr k l (value (canon v)) e)
    covers-same (among vs) k l e = ap (λ f. list_any f vs) (λ j v. is_eq (key_order_total.congr k l (value (canon v)) e j))
    covers-same (in_range r v) k l e = λ j. (same-class k l e j == class v) && stands_so r (key_order_total.congr k l (value (canon v)) e j)
    covers-same c k l e = refl

    some-within : (c : Condition) (k : KeyTree) → covers c k ≡ true → (xs : List Candidate) → is_some_key k (map or_null xs) ≡ true → list_any (is_within c) xs ≡ true
    some-within c k h [] e = absurd cc
    some-within c k h (x ∷ xs) e = at (is_key_of k (or_null x)) refl e (some-within c k h xs)
      where
        at : (b : Bool) → is_key_of k (or_null x) ≡ b → b || is_some_key k (map or_null xs) ≡ true → (is_some_key k (map or_null xs) ≡ true → list_any (is_within c) xs ≡ true) → is_within c x || list_any (is_within c) xs ≡ true
        at true f g rest =
            let l = value (canon (or_null x)) in
            or_left (is_within c x) (list_any (is_within c) xs) (sym (covers-within c x) ∙ sym (covers-same c k l (equal-from (key_order k l) f)) ∙ h)
        at false f g rest = or_right (is_within c x) (list_any (is_within c) xs) (rest g)

    pub of-a-leaf : (c : Condition) (path : List (List ℕ)) (d : List Field) (k : KeyTree) → covers c k ≡ true → is_leaf_key k path d ≡ true → has_within c path d ≡ true
    unfolding has_within is_leaf_key leaf_values
    of-a-leaf c path d k h e = some-within c k h (leaves d path) e

    -- the one key of a document that has leaves in two bounds is in both
    in-both : (ends : Interval) (path : List (List ℕ)) (c e : Condition) (d : List Field) → ((k : KeyTree) → is_between ends k ≡ (covers c k && covers e k)) → HasOneKey path d → has_within c path d ≡ true → has_within e path d ≡ true → (k : KeyTree) × (is_between ends k ≡ true) × (is_leaf_key k path d ≡ true)
    in-both ends path c e d between one here there =
        let u = leaf-key c path d here in
        let o = leaf-key e path d there in
        let k = value (canon u.0) in
        let l = value (canon o.0) in
        (k, between k ∙ (λ j. u.1 j && (covers-same e k l (equal-from (key_order k l) (one k l u.2 o.2)) ∙ o.1) j), u.2)

    closed-under : (ends : Interval) (path : List (List ℕ)) (m : Member) (d : List Field) → IsClosedUnder ends path m → HasOneKey path d → (matches (more_members m no_members) d ≡ true) ↔ ((k : KeyTree) × (is_between ends k ≡ true) × (is_leaf_key k path d ≡ true))
    closed-under ends path (at_path p (more_conditions c (more_conditions e no_conditions))) d is one =
        let met : matches (two p c e) d ≡ has_within c path d && has_within e path d = matches-two p c e d ∙ (λ j. meets c (whole d (is.0 j)) (leaves d (is.0 j)) && meets e (whole d (is.0 j)) (leaves d (is.0 j))) ∙ (λ j. met-bound c path d is.1.0 j && met-bound e path d is.1.1 j) in
        (λ m. let within = and_parts (has_within c path d) (has_within e path d) (sym met ∙ m) in in-both ends path c e d is.1.2 one within.0 within.1, λ u. let covered = and_parts (covers c u.0) (covers e u.0) (sym (is.1.2 u.0) ∙ u.1) in met ∙ (λ j. of-a-leaf c path d u.0 covered.0 u.2 j && of-a-leaf e path d u.0 covered.1 u.2 j))
    closed-under ends path (at_path p no_conditions) d is one = absurd is.1
    closed-under ends path (at_path p (more_conditions c no_conditions)) d is one = absurd is.1
    closed-under ends path (at_path p (more_conditions c (more_conditions e (more_conditions f cs)))) d is one = absurd is.1
    closed-under ends path m d is one = absurd is

    -- a document with one key matches a range with two ends exactly if its key is between them
    pub closed : (ends : Interval) (path : List (List ℕ)) (filter : Members) (d : List Field) → IsClosed ends path filter → HasOneKey path d → (matches filter d ≡ true) ↔ ((k : KeyTree) × (is_between ends k ≡ true) × (is_leaf_key k path d ≡ true))
    closed ends path (more_members m no_members) d is one = closed-under ends path m d is one
    closed ends path filter d is one = absurd is

    pub by_keys : (c : Condition) (path : List (List ℕ)) (d : List Field) → (has_within c path d ≡ true) ↔ ((v : Tree) × (covers c (value (canon v)) ≡ true) × (is_leaf_key (value (canon v)) path d ≡ true))
    unfolding has_within is_leaf_key leaf_values
    by_keys c path d = (some-key c (leaves d path), λ u. some-within c (value (canon u.0)) u.1 (leaves d path) u.2)
