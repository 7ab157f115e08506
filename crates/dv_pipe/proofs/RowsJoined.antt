-- The documents that rows are joined with, by a filter.
use Rattle.std.proofs.Common.{◌≡◌, ◌∙◌, ap, ap₂, sym, refl, ℕ, Bool, true, false, ◌||◌, ◌&&◌, List, [], ◌∷◌, ◌++◌, Result, Ok, filter, map, if◌then◌else◌}
use Rattle.std.proofs.Math.Bool.{or-false, or_assoc}
use Rattle.std.proofs.lemmas.List.Folds.{list_any-append}
use Rattle.std.specs.Cmp.{both_ways, eq_by_cmp_equiv}
use Rattle.std.specs.List.{list_any, FoldsTo}
use Rattle.std.specs.Ordering.{is_eq}
use Rattle.dv_value.specs.Tree.{Tree, array, elements_of}
use Rattle.dv_value.specs.Inner.ListLaws.{any-map, any-flat_map}
use Rattle.dv_candidates.specs.Candidates.{Candidate, leaves, or_null, whole}
use Rattle.dv_candidates.specs.Inner.Fold.{FoldsOver, PassesOne, Takes}
use Rattle.dv_order.specs.Order.{order}
use Rattle.dv_order.specs.Inner.TotalOrder.{order_total}
use Rattle.dv_path.specs.LeafKeys.{leaf_values}
use Rattle.dv_match.specs.Match.{is_among, matches, matches_member, meets, meets_all}
use Rattle.dv_gather.specs.Joining.{as_value, is_equal_to_one, is_joined, joined_by, local_values}
use Rattle.dv_gather.specs.Lookups.{joined_row, looked_up, set_field}
use Rattle.dv_gather.specs.declared.lookup.Lookup.{Lookup}
use Rattle.dv_pipe.specs.Inner.Joined.{having_one_of}
use Rattle.dv_pipe.specs.Sources.{Row}

-- ---- tests of items

module _ {X : Type 0} (p q : X → Bool) where
  any-or : (xs : List X) → list_any (λ x. p x || q x) xs ≡ list_any p xs || list_any q xs
  any-or [] = refl
  any-or (x ∷ xs) = ap (λ b. (p x || q x) || b) (any-or xs) ∙ apart (p x) (q x) (list_any p xs) (list_any q xs)
    where
      apart : (a b c d : Bool) → (a || b) || (c || d) ≡ (a || c) || (b || d)
      apart true b c d = refl
      apart false true true d = refl
      apart false true false d = refl
      apart false false true d = refl
      apart false false false d = refl

  any-same : ((x : X) → p x ≡ q x) → (xs : List X) → list_any p xs ≡ list_any q xs
  any-same same [] = refl
  any-same same (x ∷ xs) = ap₂ (λ a b. a || b) (same x) (any-same same xs)

any-never : {X : Type 0} (xs : List X) → list_any (λ (x : X). false) xs ≡ false
any-never [] = refl
any-never (x ∷ xs) = any-never xs

-- some item of the one list with some of the other
any-turned : {X Y : Type 0} (r : X → Y → Bool) (xs : List X) (ys : List Y) → list_any (λ x. list_any (r x) ys) xs ≡ list_any (λ y. list_any (λ x. r x y) xs) ys
any-turned r [] ys = sym (any-never ys)
any-turned r (x ∷ xs) ys = ap (λ b. list_any (r x) ys || b) (any-turned r xs ys) ∙ sym (any-or (r x) (λ y. list_any (λ z. r z y) xs) ys)

filter-again : {X : Type 0} (p q : X → Bool) → ((x : X) → p x ≡ true → q x ≡ true) → (xs : List X) → filter p (filter q xs) ≡ filter p xs
filter-again p q more [] = refl
filter-again p q more (x ∷ xs) = go (q x) (p x) refl (more x) (filter-again p q more xs)
  where
    go : (b a : Bool) → p x ≡ a → (p x ≡ true → b ≡ true) → filter p (filter q xs) ≡ filter p xs → filter p (if b then x ∷ filter q xs else filter q xs) ≡ (if a then x ∷ filter p xs else filter p xs)
    go true a is more rest = ap (λ c. if c then x ∷ filter p (filter q xs) else filter p (filter q xs)) is ∙ ap (λ l. if a then x ∷ l else l) rest
    go false true is more rest = absurd (let none : false ≡ true = more is in cc)
    go false false is more rest = rest

-- ---- the filter

module _ (l : Lookup) (vs : List Tree) where
  abbrev found : Row → Bool
  found f = matches (having_one_of l.foreign vs) f

  found-is : (f : Row) → found f ≡ list_any (is_among vs) (leaves f l.foreign)
  unfolding matches matches_member meets_all meets
  found-is f = plain (list_any (is_among vs) (leaves f l.foreign))
    where
      plain : (b : Bool) → (b && true) && true ≡ b
      plain true = refl
      plain false = refl

  -- the values have those by which a row is joined
  abbrev HasValuesOf : Row → Type 0
  HasValuesOf d = (test : Tree → Bool) → list_any test (joined_by l.local d) ≡ true → list_any test vs ≡ true

  turned : (f : Row) → list_any (is_equal_to_one (leaf_values l.foreign f)) vs ≡ list_any (is_among vs) (leaves f l.foreign)
  unfolding leaf_values
  turned f =
      any-same (λ v. list_any (λ w. is_eq (order v w)) (map or_null (leaves f l.foreign))) (λ v. list_any (λ (c : Candidate). is_eq (order (or_null c) v)) (leaves f l.foreign))
      (λ v. any-map (λ w. is_eq (order v w)) or_null (leaves f l.foreign) ∙ any-same (λ c. is_eq (order v (or_null c))) (λ c. is_eq (order (or_null c) v)) (λ c. (eq_by_cmp_equiv order_total).symm v (or_null c)) (leaves f l.foreign)) vs
      ∙ any-turned (λ v c. is_eq (order (or_null c) v)) vs (leaves f l.foreign)

  joined-found : (d : Row) → HasValuesOf d → (f : Row) → is_joined l.local l.foreign d f ≡ true → found f ≡ true
  joined-found d has f e = found-is f ∙ sym (turned f) ∙ has (is_equal_to_one (leaf_values l.foreign f)) e

  row-same : (d : Row) → HasValuesOf d → (others : List Row) → joined_row l (filter found others) d ≡ joined_row l others d
  row-same d has others = ap (λ (ms : List Row). set_field l.target (array (elements_of (map as_value ms))) d) (filter-again (is_joined l.local l.foreign d) found (joined-found d has) others)

  pub rows-same : (ds : List Row) → ((test : Tree → Bool) → list_any (λ d. list_any test (joined_by l.local d)) ds ≡ true → list_any test vs ≡ true) → (others : List Row) → looked_up l ds (filter found others) ≡ looked_up l ds others
  unfolding looked_up
  rows-same [] has others = refl
  rows-same (d ∷ ds) has others =
      ap₂ (λ r rs. r ∷ rs) (row-same d (λ test e. has test (or-left (list_any test (joined_by l.local d)) (list_any (λ d. list_any test (joined_by l.local d)) ds) e)) others)
      (rows-same ds (λ test e. has test (or-right (list_any test (joined_by l.local d)) (list_any (λ d. list_any test (joined_by l.local d)) ds) e)) others)
    where
      or-left : (a b : Bool) → a ≡ true → a || b ≡ true
      or-left true b e = refl
      or-left false b e = absurd (let none : false ≡ true = e in cc)

      or-right : (a b : Bool) → b ≡ true → a || b ≡ true
      or-right true b e = refl
      or-right false b e = e

-- ---- the values of rows

-- what a fold over the candidates of a row appends to values
module _ {X E T : Type 0} (seen : X → Candidate) (call : T → X → Result T E → Type 0) (values : T → List Tree)
    (steps : (t : T) (x : X) (u : T) → call t x (Ok u) → values u ≡ values t ++ local_values (seen x)) where
  folded : (test : Tree → Bool) (t u : T) (cs : List Candidate) → FoldsTo (Takes seen call) t cs u → list_any test (values u) ≡ list_any test (values t) || list_any (λ c. list_any test (local_values c)) cs
  folded test t u [] h = ap (λ v. list_any test (values v)) (sym h) ∙ sym (or-false (list_any test (values t)))
  folded test t u (c ∷ cs) h =
      let rest = list_any (λ c. list_any test (local_values c)) cs in
      folded test h.0 u cs h.2
      ∙ ap (λ b. b || rest) (ap (list_any test) (steps t h.1.at h.0 h.1.gives) ∙ list_any-append test (values t) (local_values (seen h.1.at)) ∙ ap (λ d. list_any test (values t) || list_any test (local_values d)) h.1.is)
      ∙ or_assoc (list_any test (values t)) (list_any test (local_values c)) rest

  pub values-behind : (local : List (List ℕ)) (d : Row) (t u : T) → FoldsOver seen call (PassesOne (whole d local)) (PassesOne (whole d local)) t u → (test : Tree → Bool) → list_any test (values u) ≡ list_any test (values t) || list_any test (joined_by local d)
  unfolding joined_by
  values-behind local d t u h test =
      let some = λ (c : Candidate). list_any test (local_values c) in
      folded test t u h.taken h.calls
      ∙ ap (λ b. list_any test (values t) || b) (
      both_ways (list_any some h.taken) (list_any some (whole d local)) (λ e. (h.only some e).passes) (λ e. h.every some (record { passes = e }))
      ∙ sym (any-flat_map test local_values (whole d local)))
