-- What a path sorts before a bar is found by the index on the path.
use Rattle.std.proofs.Common.{◌≡◌, ◌∙◌, ◌≤◌, ◌<◌, ◌&&◌, ◌||◌, ◌++◌, ℕ, arith, length, List, [], ◌∷◌, map, refl, ap, sym, Bool, true, false, cond, Some, None, filter}
use Rattle.std.specs.List.{AllByRecursion, best_of, flat_map}
use Rattle.std.specs.Ordering.{is_eq}
use Rattle.std.proofs.lemmas.Bool.{or_left, or_right, and_parts}
use Rattle.std.proofs.lemmas.Cmp.{tied_itself}
use Rattle.std.proofs.lemmas.List.{map-append}
use Rattle.std.proofs.lemmas.List.Folds.{list_any-append}
use Rattle.dv_value.specs.Tree.{Tree, Field, array, null, no_elements, element, list_of_elements}
use Rattle.dv_order.specs.Order.{canon}
use Rattle.dv_order.specs.Key.{KeyTree, value, key_at, key_order}
use Rattle.dv_order.specs.Inner.KeyLaws.{key_order_total}
use Rattle.dv_path.specs.declared.direction.Direction.{Direction}
use Rattle.dv_candidates.specs.Candidates.{Candidate, leaves, or_null, whole, with_elements}
use Rattle.dv_path.specs.LeafKeys.{is_key_of, is_leaf_key, is_some_key, leaf_values}
use Rattle.dv_path.specs.SortKey.{earliest, sort_keys_of, sort_key, stands_first}
use Rattle.dv_coll.specs.Collection.{IsAscending, found, id_key}
use Rattle.dv_keyed.specs.declared.before.Bar.{Bar}
use Rattle.dv_keyed.specs.Inner.Ahead.{leaf_sorted_by, stands_ahead}
use Rattle.dv_match.specs.Filter.{Members}
use Rattle.dv_match.specs.Match.{matches}
use Rattle.dv_keyed.specs.Inner.Index.{IndexTree}
use Rattle.dv_keyed.specs.Inner.Interval.{is_in_all}
use Rattle.dv_keyed.specs.Inner.Pairs.{IsOnlyKey, has_pair}
use Rattle.dv_index.specs.Inner.Ahead.{LeadsSomewhere, is_ahead}
use Rattle.dv_index.specs.Inner.Search.{IsIndexOf, is_key_under}
use Rattle.dv_index.specs.Inner.IdLaws.{OnlyKeysAreWithin}
use Rattle.dv_index.proofs.Picked.{all-found}
use Rattle.dv_index.proofs.Gathered.{narrowed}

-- ---- the key by which a candidate is sorted is that of a leaf of it, or stands for the empty array
-- the best of some keys is one of them
best-has : (P : KeyTree → Type 0) (beats : KeyTree → KeyTree → Bool) (k : KeyTree) (ks : List KeyTree) → P k → AllByRecursion P ks → P (best_of beats k ks)
best-has P beats k [] h all = h
best-has P beats k (l ∷ ks) h all = best-has P beats (cond (beats l k) l k) ks (one (beats l k)) all.1
  where
    one : (b : Bool) → P (cond b l k)
    one true = all.0
    one false = h

itself : (v : Tree) → is_key_of (value (canon v)) v ≡ true
itself v = ap is_eq (tied_itself key_order_total (value (canon v)))

only : (v : Tree) → is_some_key (value (canon v)) (v ∷ []) ≡ true
only v = or_left (is_key_of (value (canon v)) v) false (itself v)

-- the key by which an index finds what is sorted by a key is that of one of these values
abbrev IsLeaf : List Tree → KeyTree → Type 0
IsLeaf us k = (v : Tree) × (leaf_sorted_by k ≡ value (canon v)) × (is_some_key (value (canon v)) us ≡ true)

leaf-among : (us ws : List Tree) → ((k : KeyTree) → is_some_key k us ≡ true → is_some_key k ws ≡ true) → (k : KeyTree) → IsLeaf us k → IsLeaf ws k
leaf-among us ws more k leaf = (leaf.0, leaf.1, more (value (canon leaf.0)) leaf.2)

all-weaker : (P Q : KeyTree → Type 0) → ((k : KeyTree) → P k → Q k) → (ks : List KeyTree) → AllByRecursion P ks → AllByRecursion Q ks
all-weaker P Q h [] all = tt
all-weaker P Q h (k ∷ ks) all = (h k all.0, all-weaker P Q h ks all.1)

all-joined : (P : KeyTree → Type 0) (ks ls : List KeyTree) → AllByRecursion P ks → AllByRecursion P ls → AllByRecursion P (ks ++ ls)
all-joined P [] ls all others = others
all-joined P (k ∷ ks) ls all others = (all.0, all-joined P ks ls all.1 others)

of-each : (us ws : List Tree) → ((k : KeyTree) → is_some_key k ws ≡ true → is_some_key k us ≡ true) → AllByRecursion (IsLeaf us) (map (λ w. key_at (Some w)) ws)
of-each us [] h = tt
of-each us (w ∷ ws) h =
    ((w, refl, h (value (canon w)) (or_left (is_key_of (value (canon w)) w) (is_some_key (value (canon w)) ws) (itself w))), of-each us ws (λ k e. h k (or_right (is_key_of k w) (is_some_key k ws) e)))

as-found : (vs : List Tree) → map or_null (map Some vs) ≡ vs
as-found [] = refl
as-found (v ∷ vs) = ap (λ ws. v ∷ ws) (as-found vs)

of-one : (c : Candidate) → AllByRecursion (IsLeaf (map or_null (with_elements c))) (sort_keys_of c)
of-one None = ((null, refl, only null), tt)
of-one (Some (array no_elements)) = ((array no_elements, refl, only (array no_elements)), tt)
of-one (Some (array (element v vs))) =
    let whole-array = array (element v vs) in
    let elements = map or_null (map Some (v ∷ list_of_elements vs)) in
    of-each (whole-array ∷ elements) (v ∷ list_of_elements vs) (λ k e. or_right (is_key_of k whole-array) (is_some_key k elements) (ap (is_some_key k) (as-found (v ∷ list_of_elements vs)) ∙ e))
of-one (Some v) = ((v, refl, only v), tt)

of-all : (cs : List Candidate) → AllByRecursion (IsLeaf (map or_null (flat_map with_elements cs))) (flat_map sort_keys_of cs)
of-all [] = tt
of-all (c ∷ cs) =
    let first = map or_null (with_elements c) in
    let others = map or_null (flat_map with_elements cs) in
    let all = map or_null (with_elements c ++ flat_map with_elements cs) in
    let joined : (k : KeyTree) → is_some_key k all ≡ is_some_key k first || is_some_key k others = λ k. ap (is_some_key k) (map-append or_null (with_elements c) (flat_map with_elements cs)) ∙ list_any-append (is_key_of k) first others in
    all-joined (IsLeaf all) (sort_keys_of c) (flat_map sort_keys_of cs)
    (all-weaker (IsLeaf first) (IsLeaf all) (leaf-among first all (λ k e. joined k ∙ or_left (is_some_key k first) (is_some_key k others) e)) (sort_keys_of c) (of-one c))
    (all-weaker (IsLeaf others) (IsLeaf all) (leaf-among others all (λ k e. joined k ∙ or_right (is_some_key k first) (is_some_key k others) e)) (flat_map sort_keys_of cs) (of-all cs))

-- each candidate gives a key
gives-some : (c : Candidate) (rest : List KeyTree) → sort_keys_of c ++ rest ≡ [] → ⊥
gives-some None rest e = absurd cc
gives-some (Some (array no_elements)) rest e = absurd cc
gives-some (Some (array (element v vs))) rest e = absurd cc
gives-some (Some v) rest e = absurd cc

none-given : (cs : List Candidate) → flat_map sort_keys_of cs ≡ [] → cs ≡ []
none-given [] e = refl
none-given (c ∷ cs) e = absurd (gives-some c (flat_map sort_keys_of cs) e)

earliest-has : (P : KeyTree → Type 0) (direction : Direction) (ks : List KeyTree) → (ks ≡ [] → ⊥) → AllByRecursion P ks → P (earliest direction ks)
earliest-has P direction [] some all = absurd (some refl)
earliest-has P direction (k ∷ ks) some all = best-has P (stands_first direction) k ks all.0 all.1

-- a document is sorted by a leaf, if the path leads to something
leaf-sorted : (d : List Field) (path : List (List ℕ)) (direction : Direction) → (whole d path ≡ [] → ⊥) → (v : Tree) × (leaf_sorted_by (sort_key d path direction) ≡ value (canon v)) × (is_leaf_key (value (canon v)) path d ≡ true)
unfolding sort_key leaves leaf_values is_leaf_key
leaf-sorted d path direction some =
    let cs = whole d path in
    earliest-has (IsLeaf (map or_null (flat_map with_elements cs))) direction (flat_map sort_keys_of cs) (λ e. some (none-given cs e)) (of-all cs)

-- ---- so the `_id`s in pairs with the keys before a bar are those of all documents that the path sorts before it
-- what passes one test and another passes both
pub two-tests : {X : Type 0} (p q : X → Bool) (xs : List X) → filter p (filter q xs) ≡ filter (λ x. q x && p x) xs
two-tests p q [] = refl
two-tests p q (x ∷ xs) = at (q x) (two-tests p q xs)
  where
    at : (b : Bool) → filter p (filter q xs) ≡ filter (λ y. q y && p y) xs → filter p (cond b (x ∷ filter q xs) (filter q xs)) ≡ cond (b && p x) (x ∷ filter (λ y. q y && p y) xs) (filter (λ y. q y && p y) xs)
    at true rest = ap (λ ys. cond (p x) (x ∷ ys) ys) rest
    at false rest = rest

module _ (law : OnlyKeysAreWithin) (ms : Members) (index : IndexTree) (path : List (List ℕ)) (direction : Direction) (is-on : index.path ≡ path) (bar : Bar) (somewhere : LeadsSomewhere ms (path, direction) bar) (among-ids : KeyTree → Bool) where
  -- what `ids_ahead` says
  abbrev AreGathered : Type 0
  AreGathered = (k i : KeyTree) → stands_ahead direction bar k i ≡ true → has_pair (leaf_sorted_by k) i index.pairs ≡ true → (IsOnlyKey (leaf_sorted_by k) i index.pairs → is_in_all (leaf_sorted_by k) index.path ms ≡ true) → among-ids i ≡ true

  module _ (gathered : AreGathered) (ds : List (List Field)) (holds : IsIndexOf index ds) where
    one-gathered : (d : List Field) → found (id_key d) ds ≡ Some d → matches ms d && is_ahead (path, direction) bar d ≡ true → among-ids (id_key d) ≡ true
    one-gathered d there e =
        let passes = and_parts (matches ms d) (is_ahead (path, direction) bar d) e in
        let leaf = leaf-sorted d path direction (somewhere d passes.0 passes.1) in
        let held : (l : KeyTree) → is_leaf_key l index.path d ≡ true → has_pair l (id_key d) index.pairs ≡ true = λ l own. holds.has l (id_key d) ∙ ap (is_key_under l index.path) there ∙ own in
        gathered (sort_key d path direction) (id_key d) passes.1
        (ap (λ l. has_pair l (id_key d) index.pairs) leaf.1 ∙ held (value (canon leaf.0)) (ap (λ p. is_leaf_key (value (canon leaf.0)) p d) is-on ∙ leaf.2))
        (λ only. ap (λ l. is_in_all l index.path ms) leaf.1 ∙ law ms index.path d leaf.0 (λ l own. ap (λ m. is_eq (key_order l m)) (sym leaf.1) ∙ only l (held l own)) passes.0)

    pub ahead-gathered : IsAscending ds → filter (is_ahead (path, direction) bar) (filter (matches ms) (filter (λ d. among-ids (id_key d)) ds)) ≡ filter (is_ahead (path, direction) bar) (filter (matches ms) ds)
    ahead-gathered ascending =
        two-tests (is_ahead (path, direction) bar) (matches ms) (filter (λ d. among-ids (id_key d)) ds)
        ∙ narrowed among-ids (λ d. matches ms d && is_ahead (path, direction) bar d) (λ d. found (id_key d) ds ≡ Some d) one-gathered ds (all-found ds ascending)
        ∙ sym (two-tests (is_ahead (path, direction) bar) (matches ms) ds)

-- ---- where a path leads
-- one component leads to the value there, or to Missing
pub single-leads : (name : List ℕ) (d : List Field) → whole d (name ∷ []) ≡ [] → ⊥
unfolding whole
single-leads name d e = absurd cc

-- a document in which the path leads nowhere is sorted as null, and if it matches, any key is in all bounds
no-leaf : (l : KeyTree) (path : List (List ℕ)) (d : List Field) → whole d path ≡ [] → is_leaf_key l path d ≡ false
unfolding leaves leaf_values is_leaf_key
no-leaf l path d nowhere = ap (λ cs. is_some_key l (map or_null (flat_map with_elements cs))) nowhere

sorted-as-null : (d : List Field) (path : List (List ℕ)) (direction : Direction) → whole d path ≡ [] → sort_key d path direction ≡ value (canon null)
unfolding sort_key
sorted-as-null d path direction nowhere = ap (λ cs. earliest direction (flat_map sort_keys_of cs)) nowhere

pub leads-behind : OnlyKeysAreWithin → (ms : Members) (path : List (List ℕ)) (direction : Direction) (bar : Bar) → (is_in_all (value (canon null)) path ms ≡ true → (i : KeyTree) → stands_ahead direction bar (value (canon null)) i ≡ false) → LeadsSomewhere ms (path, direction) bar
leads-behind law ms path direction bar never d match ahead nowhere =
    let behind = never (law ms path d null (λ l own. let wrong : true ≡ false = sym own ∙ no-leaf l path d nowhere in absurd cc) match) (id_key d) in
    let wrong : true ≡ false = sym ahead ∙ ap (λ k. stands_ahead direction bar k (id_key d)) (sorted-as-null d path direction nowhere) ∙ behind in
    absurd cc

-- ---- a list of one
pub one-alone : {X : Type 0} (xs : List X) → 1 ≤ length xs → length xs < 2 → (x : X) × (xs ≡ x ∷ [])
one-alone [] some few = absurd (omega (arith, some))
one-alone (x ∷ []) some few = (x, refl)
one-alone (x ∷ y ∷ xs) some few = absurd (omega (arith, few))
