-- Documents in a direction of their `_id`s: those that match are between the ends that a filter sets for `_id`.
use Rattle.std.proofs.Common.{Bor, ◌≡◌, ◌∙◌, ℕ, zero, suc, List, [], ◌∷◌, ◌++◌, map, take, reverse, refl, ap, sym, append-nil, Bool, true, false, cond, filter, codes}
use Rattle.std.specs.List.{AllByRecursion}
use Rattle.std.proofs.lemmas.List.{map-append, reverse-append, take-map}
use Rattle.std.proofs.lemmas.List.Elements.{filter-append}
use Rattle.std.proofs.Math.Bool.{or-false}
use Rattle.dv_value.specs.Tree.{Field}
use Rattle.dv_candidates.specs.Candidates.{or_null}
use Rattle.dv_path.specs.declared.direction.Direction.{Direction}
use Rattle.dv_path.specs.declared.direction.Direction.TheVariants.{Ascending, Descending}
use Rattle.dv_path.specs.LeafKeys.{is_key_of, is_leaf_key, is_some_key, leaf_values}
use Rattle.dv_match.specs.Filter.{Members}
use Rattle.dv_match.specs.Match.{matches}
use Rattle.dv_coll.specs.Collection.{HasId, id_key}
use Rattle.dv_order.specs.Key.{KeyTree}
use Rattle.dv_keyed.specs.Inner.Interval.{is_in_all}
use Rattle.dv_index.specs.Inner.InDirection.{in_direction}
use Rattle.dv_index.specs.Inner.IdLaws.{OnlyKeysAreWithin, leaves-id}
use Rattle.dv_index.proofs.Gathered.{narrowed}
use Rattle.dv_index.proofs.Picked.{not_true}

-- the `_id` of a document that matches is in all bounds
id-in-all : OnlyKeysAreWithin → (ms : Members) (d : List Field) → HasId d → matches ms d ≡ true → is_in_all (id_key d) (codes "_id" ∷ []) ms ≡ true
unfolding is_leaf_key leaf_values
id-in-all law ms [] h e = absurd h
id-in-all law ms (f ∷ fs) h e =
    law ms (codes "_id" ∷ []) (f ∷ fs) f.1 (λ l leaf. sym (or-false (is_key_of l f.1)) ∙ sym (ap (λ cs. is_some_key l (map or_null cs)) (leaves-id f fs h)) ∙ leaf) e

none-match : (test : List Field → Bool) → ((d : List Field) → HasId d → test d ≡ true → ⊥) → (ds : List (List Field)) → AllByRecursion HasId ds → filter test ds ≡ []
none-match test never [] all = refl
none-match test never (d ∷ ds) all =
    ap (λ b. cond b (d ∷ filter test ds) (filter test ds)) (not_true (test d) (never d all.0)) ∙ none-match test never ds all.1

-- ---- reversed lists
filter-reverse : {X : Type 0} (test : X → Bool) (xs : List X) → filter test (reverse xs) ≡ reverse (filter test xs)
filter-reverse test [] = refl
filter-reverse test (x ∷ xs) =
    ap (filter test) (reverse-append (x ∷ []) xs)
    ∙ filter-append test (reverse xs) (x ∷ [])
    ∙ ap (λ ys. ys ++ filter test (x ∷ [])) (filter-reverse test xs)
    ∙ at (test x)
  where
    at : (b : Bool) → reverse (filter test xs) ++ cond b (x ∷ []) [] ≡ reverse (cond b (x ∷ filter test xs) (filter test xs))
    at true = sym (reverse-append (x ∷ []) (filter test xs))
    at false = append-nil (reverse (filter test xs))

map-reverse : {X Y : Type 0} (f : X → Y) (xs : List X) → map f (reverse xs) ≡ reverse (map f xs)
map-reverse f [] = refl
map-reverse f (x ∷ xs) =
    ap (map f) (reverse-append (x ∷ []) xs)
    ∙ map-append f (reverse xs) (x ∷ [])
    ∙ ap (λ ys. ys ++ f x ∷ []) (map-reverse f xs)
    ∙ sym (reverse-append (f x ∷ []) (map f xs))

filter-directed : {X : Type 0} (direction : Direction) (test : X → Bool) (xs : List X) → filter test (in_direction direction xs) ≡ in_direction direction (filter test xs)
filter-directed Ascending test xs = refl
filter-directed Descending test xs = filter-reverse test xs

-- ---- a walk between ends finds what matches
module _ (law : OnlyKeysAreWithin) (ms : Members) (inside : KeyTree → Bool) (among : (k : KeyTree) → is_in_all k (codes "_id" ∷ []) ms ≡ true → inside k ≡ true) (direction : Direction) (ds : List (List Field)) (identified : AllByRecursion HasId ds) where
  one-inside : (d : List Field) → HasId d → matches ms d ≡ true → inside (id_key d) ≡ true
  one-inside d h e = among (id_key d) (id-in-all law ms d h e)

  pub walk-matches : filter (matches ms) (in_direction direction (filter (λ d. inside (id_key d)) ds)) ≡ in_direction direction (filter (matches ms) ds)
  walk-matches =
      filter-directed direction (matches ms) (filter (λ d. inside (id_key d)) ds)
      ∙ ap (in_direction direction) (narrowed inside (matches ms) HasId one-inside ds identified)

  nothing-directed : (most : ℕ) (way : Direction) → [] ≡ take most (in_direction {X = List Field} way [])
  nothing-directed zero Ascending = refl
  nothing-directed zero Descending = refl
  nothing-directed (suc n) Ascending = refl
  nothing-directed (suc n) Descending = refl

  pub no-walk : ((k : KeyTree) → inside k ≡ false) → (most : ℕ) → [] ≡ take most (in_direction direction (filter (matches ms) ds))
  no-walk empty most =
      nothing-directed most direction
      ∙ ap (λ es. take most (in_direction direction es)) (sym (none-match (matches ms) (λ d h e. let wrong : true ≡ false = sym (one-inside d h e) ∙ empty (id_key d) in absurd cc) ds identified))

-- ---- the last of some references
pub lent-from-last : {X : Type 0} (most : ℕ) (xs : List (Bor X)) (ys : List X) → map (λ (x : Bor X). x.now) xs ≡ ys → map (λ (x : Bor X). x.now) (take most (reverse xs)) ≡ take most (reverse ys)
lent-from-last {X = X} most xs ys is =
    sym (take-map (λ (x : Bor X). x.now) most (reverse xs)) ∙ ap (take most) (map-reverse (λ (x : Bor X). x.now) xs ∙ ap reverse is)
