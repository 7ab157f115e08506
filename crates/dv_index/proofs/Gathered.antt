-- Documents whose `_id`s are gathered by their keys: among them are all that match a filter.
use Rattle.std.proofs.Common.{◌≡◌, ◌∙◌, ◌↔◌, ℕ, List, [], ◌∷◌, map, refl, ap, sym, Bool, true, false, cond, Some, filter, slice_get}
use Rattle.std.specs.List.{AllByRecursion}
use Rattle.std.specs.Prelude.{codes}
use Rattle.std.specs.Option.{option_map}
use Rattle.dv_value.specs.Tree.{Tree, Field}
use Rattle.dv_value.specs.Inner.ListLaws.{same-truth}
use Rattle.dv_order.specs.Order.{canon}
use Rattle.dv_order.specs.Key.{KeyTree, value}
use Rattle.dv_path.specs.LeafKeys.{is_leaf_key}
use Rattle.dv_match.specs.Filter.{Condition, Members}
use Rattle.dv_match.specs.Match.{matches}
use Rattle.dv_coll.specs.Collection.{HasId, IsAscending, found, id_key}
use Rattle.dv_keyed.specs.Choice.{chosen}
use Rattle.dv_keyed.specs.Inner.Decided.{HasKeyBetween, HasKeyWithin, HasOneKey, IsClosed, IsDecided, MatchesBetween, is_one_condition}
use Rattle.dv_keyed.specs.Inner.Index.{IndexTree}
use Rattle.dv_keyed.specs.Inner.Interval.{is_in_all}
use Rattle.dv_keyed.specs.declared.interval.Interval.{Interval}
use Rattle.dv_keyed.specs.Inner.Pairs.{IsOnlyKey, has_pair}
use Rattle.dv_keyed.specs.Within.{has_within}
use Rattle.dv_keyed.specs.Inner.Within.{covers}
use Rattle.dv_keyed.specs.Inner.ListLaws.{some-same}
use Rattle.dv_index.specs.Inner.Search.{IsIndexOf, is_key_under}
use Rattle.dv_index.specs.Inner.IdLaws.{MatchesAreWithin, OnlyKeysAreWithin, KeysAreWithin, id-covered}
use Rattle.dv_index.proofs.Picked.{all-found}
use Rattle.dv_index.proofs.Places.{path-at}

-- ---- what dv_keyed's laws say

abbrev pub LeavesHaveKeys : Type 0
LeavesHaveKeys = (bounds : Condition) (path : List (List ℕ)) (d : List Field) → (has_within bounds path d ≡ true) ↔ ((v : Tree) × (covers bounds (value (canon v)) ≡ true) × (is_leaf_key (value (canon v)) path d ≡ true))

abbrev pub KeysAreOfLeaves : Type 0
KeysAreOfLeaves = (bounds : Condition) (path : List (List ℕ)) (d : List Field) (k : KeyTree) → covers bounds k ≡ true → is_leaf_key k path d ≡ true → has_within bounds path d ≡ true

abbrev pub EndsDecide : Type 0
EndsDecide = (ends : Interval) (path : List (List ℕ)) (filter : Members) (d : List Field) → IsClosed ends path filter → HasOneKey path d → MatchesBetween ends path filter d

abbrev pub BoundsDecide : Type 0
BoundsDecide = (filter : Members) (paths : List (List (List ℕ))) (place : ℕ) (bounds : Condition) (path : List (List ℕ)) (d : List Field) → is_one_condition filter ≡ true → IsDecided filter paths place bounds path d

pub decided-within : BoundsDecide → (ms : Members) (xs : List IndexTree) (place : ℕ) (c : Condition) (x : IndexTree) (d : List Field) → is_one_condition ms ≡ true → chosen ms (map (λ (i : IndexTree). i.path) xs) ≡ Some (place, c) → slice_get xs place ≡ Some x → matches ms d ≡ has_within c x.path d
decided-within law ms xs place c x d one e there = law ms (map (λ (i : IndexTree). i.path) xs) place c x.path d one e (path-at xs place ∙ ap (option_map (λ (i : IndexTree). i.path)) there)

pub chosen-within : MatchesAreWithin → (ms : Members) (xs : List IndexTree) (place : ℕ) (c : Condition) (x : IndexTree) (d : List Field) → chosen ms (map (λ (i : IndexTree). i.path) xs) ≡ Some (place, c) → slice_get xs place ≡ Some x → matches ms d ≡ true → has_within c x.path d ≡ true
chosen-within law ms xs place c x d e there h =
    let plan = law ms (map (λ (i : IndexTree). i.path) xs) place c e in
    let same : plan.0 ≡ x.path = some-same plan.0 x.path (sym plan.1 ∙ path-at xs place ∙ ap (option_map (λ (i : IndexTree). i.path)) there) in
    ap (λ p. has_within c p d) (sym same) ∙ plan.2 d h

-- ---- documents whose `_id`s are gathered
pub narrowed : (among-ids : KeyTree → Bool) (test : List Field → Bool) (P : List Field → Type 0) → ((d : List Field) → P d → test d ≡ true → among-ids (id_key d) ≡ true) → (ds : List (List Field)) → AllByRecursion P ds → filter test (filter (λ d. among-ids (id_key d)) ds) ≡ filter test ds
narrowed among-ids test P h [] all = refl
narrowed among-ids test P h (d ∷ ds) all = at (among-ids (id_key d)) (test d) refl refl (narrowed among-ids test P h ds all.1)
  where
    at : (a b : Bool) → among-ids (id_key d) ≡ a → test d ≡ b → filter test (filter (λ d. among-ids (id_key d)) ds) ≡ filter test ds → filter test (cond a (d ∷ filter (λ d. among-ids (id_key d)) ds) (filter (λ d. among-ids (id_key d)) ds)) ≡ cond b (d ∷ filter test ds) (filter test ds)
    at true true e f rest = ap (λ x. cond x (d ∷ filter test (filter (λ d. among-ids (id_key d)) ds)) (filter test (filter (λ d. among-ids (id_key d)) ds))) f ∙ ap (λ xs. d ∷ xs) rest
    at true false e f rest = ap (λ x. cond x (d ∷ filter test (filter (λ d. among-ids (id_key d)) ds)) (filter test (filter (λ d. among-ids (id_key d)) ds))) f ∙ rest
    at false true e f rest = absurd (let there = h d all.0 f in cc)
    at false false e f rest = rest

pub same-kept : (p q : List Field → Bool) (P : List Field → Type 0) → ((d : List Field) → P d → p d ≡ q d) → (ds : List (List Field)) → AllByRecursion P ds → filter p ds ≡ filter q ds
same-kept p q P same [] all = refl
same-kept p q P same (d ∷ ds) all = let rest = same-kept p q P same ds all.1 in λ j. cond (same d all.0 j) (d ∷ rest j) (rest j)

-- ---- between the ends of a range that decide a filter
pub between-all : EndsDecide → (index : IndexTree) (ends : Interval) (ms : Members) → IsClosed ends index.path ms → ((k i : KeyTree) → has_pair k i index.pairs ≡ true → IsOnlyKey k i index.pairs) → (among-ids : KeyTree → Bool) → ((i : KeyTree) → (among-ids i ≡ true) ↔ HasKeyBetween ends i index.pairs) → (ds : List (List Field)) → IsIndexOf index ds → IsAscending ds → filter (λ d. among-ids (id_key d)) ds ≡ filter (matches ms) ds
between-all law index ends ms closed alone among-ids gathered ds holds ascending =
    same-kept (λ d. among-ids (id_key d)) (matches ms) (λ d. found (id_key d) ds ≡ Some d) one ds (all-found ds ascending)
  where
    held : (d : List Field) → found (id_key d) ds ≡ Some d → (k : KeyTree) → has_pair k (id_key d) index.pairs ≡ is_leaf_key k index.path d
    held d there k = holds.has k (id_key d) ∙ ap (is_key_under k index.path) there

    one : (d : List Field) → found (id_key d) ds ≡ Some d → among-ids (id_key d) ≡ matches ms d
    one d there =
        let by-ends = law ends index.path ms d closed (λ k l of-k of-l. alone l (id_key d) (held d there l ∙ of-l) k (held d there k ∙ of-k)) in
        same-truth (among-ids (id_key d)) (matches ms d) (λ e. let u = (gathered (id_key d)).0 e in by-ends.1 (u.0, u.1, sym (held d there u.0) ∙ u.2)) (λ e. let u = by-ends.0 e in (gathered (id_key d)).1 (u.0, u.1, held d there u.0 ∙ u.2))

-- ---- the keys of `_id`s in pairs with keys in the bounds are those of all documents that have a leaf there
module _ (law : LeavesHaveKeys) (index : IndexTree) (c : Condition) (among-ids : KeyTree → Bool) (gathered : (k i : KeyTree) → covers c k ≡ true → has_pair k i index.pairs ≡ true → among-ids i ≡ true) where
  id-gathered : (ds : List (List Field)) → IsIndexOf index ds → (d : List Field) → found (id_key d) ds ≡ Some d → has_within c index.path d ≡ true → among-ids (id_key d) ≡ true
  id-gathered ds holds d there e =
      let v = (law c index.path d).0 e in
      let k = value (canon v.0) in
      gathered k (id_key d) v.1 (holds.has k (id_key d) ∙ ap (is_key_under k index.path) there ∙ v.2)

  pub gathered-all : (test : List Field → Bool) (ds : List (List Field)) → IsIndexOf index ds → IsAscending ds → ((d : List Field) → test d ≡ true → has_within c index.path d ≡ true) → filter test (filter (λ d. among-ids (id_key d)) ds) ≡ filter test ds
  gathered-all test ds holds ascending within =
      narrowed among-ids test (λ d. found (id_key d) ds ≡ Some d) (λ d there e. id-gathered ds holds d there (within d e)) ds (all-found ds ascending)

  -- and if there are no others, no other document is gathered
  pub gathered-only : KeysAreOfLeaves → ((i : KeyTree) → among-ids i ≡ true → HasKeyWithin c i index.pairs) → (ds : List (List Field)) → IsIndexOf index ds → IsAscending ds → filter (λ d. among-ids (id_key d)) ds ≡ filter (has_within c index.path) ds
  gathered-only of-leaves only ds holds ascending =
      same-kept (λ d. among-ids (id_key d)) (has_within c index.path) (λ d. found (id_key d) ds ≡ Some d) (λ d there. same-truth (among-ids (id_key d)) (has_within c index.path d) (λ e. within d there (only (id_key d) e)) (id-gathered ds holds d there)) ds (all-found ds ascending)
    where
      within : (d : List Field) → found (id_key d) ds ≡ Some d → HasKeyWithin c (id_key d) index.pairs → has_within c index.path d ≡ true
      within d there w = of-leaves c index.path d w.0 w.1 (sym (holds.has w.0 (id_key d) ∙ ap (is_key_under w.0 index.path) there) ∙ w.2)

-- ---- the index on `_id` has the `_id`s alone

pub only-ids : KeysAreWithin → (c : Condition) (ds : List (List Field)) → AllByRecursion HasId ds → filter (λ d. covers c (id_key d)) ds ≡ filter (has_within c (codes "_id" ∷ [])) ds
only-ids law c ds identified = same-kept (λ d. covers c (id_key d)) (has_within c (codes "_id" ∷ [])) HasId (λ d h. sym (id-covered law c d h)) ds identified

pub gathered-ids : KeysAreWithin → (c : Condition) (among-ids : KeyTree → Bool) → ((k : KeyTree) → covers c k ≡ true → among-ids k ≡ true) → (test : List Field → Bool) (ds : List (List Field)) → AllByRecursion HasId ds → ((d : List Field) → test d ≡ true → has_within c (codes "_id" ∷ []) d ≡ true) → filter test (filter (λ d. among-ids (id_key d)) ds) ≡ filter test ds
gathered-ids law c among-ids covered test ds identified within = narrowed among-ids test HasId (λ d h e. covered (id_key d) (sym (id-covered law c d h) ∙ within d e)) ds identified

-- ---- all documents that match are among those whose `_id`s are gathered, if they have a leaf in the plan's bounds
pub tried-all : LeavesHaveKeys → OnlyKeysAreWithin → (index : IndexTree) (c : Condition) (ms : Members) (among-ids : KeyTree → Bool) → ((k i : KeyTree) → covers c k ≡ true → has_pair k i index.pairs ≡ true → (IsOnlyKey k i index.pairs → is_in_all k index.path ms ≡ true) → among-ids i ≡ true) → (ds : List (List Field)) → IsIndexOf index ds → IsAscending ds
    → ((d : List Field) → matches ms d ≡ true → has_within c index.path d ≡ true) → filter (matches ms) (filter (λ d. among-ids (id_key d)) ds) ≡ filter (matches ms) ds
tried-all law only-law index c ms among-ids gathered ds holds ascending within = narrowed among-ids (matches ms) (λ d. found (id_key d) ds ≡ Some d) one ds (all-found ds ascending)
  where
    one : (d : List Field) → found (id_key d) ds ≡ Some d → matches ms d ≡ true → among-ids (id_key d) ≡ true
    one d there e =
        let u = (law c index.path d).0 (within d e) in
        let held : (l : KeyTree) → is_leaf_key l index.path d ≡ true → has_pair l (id_key d) index.pairs ≡ true = λ l leaf. holds.has l (id_key d) ∙ ap (is_key_under l index.path) there ∙ leaf in
        gathered (value (canon u.0)) (id_key d) u.1 (held (value (canon u.0)) u.2) (λ only. only-law ms index.path d u.0 (λ l leaf. only l (held l leaf)) e)
