-- An index when one document changes: the keys that it gains are added, and those that it has lost are removed.
use Rattle.std.proofs.Common.{◌≡◌, ◌∙◌, ℕ, List, ◌∷◌, refl, ap, sym, subst, Bool, true, false, cond, not, ◌||◌, ◌&&◌, Option, Some, None, filter}
use Rattle.std.specs.List.{AllByRecursion, find}
use Rattle.std.specs.Option.{IsSome, option_map}
use Rattle.std.specs.Ordering.{is_eq}
use Rattle.dv_value.specs.Tree.{Field}
use Rattle.dv_order.specs.Key.{KeyTree, key_order}
use Rattle.dv_order.specs.Inner.KeyLaws.{key_order_total, equal-back, equal-from}
use Rattle.dv_coll.specs.Collection.{found, id_key, has_key as is_of, inserted, removed, replaced}
use Rattle.dv_keyed.specs.Inner.Keys.{has_key}
use Rattle.dv_keyed.specs.Inner.Pairs.{Pair, has_pair}
use Rattle.dv_keyed.specs.Index.{IndexForm}
use Rattle.dv_keyed.specs.Inner.Index.{IndexTree, form_of}
use Rattle.dv_keyed.specs.Inner.PairLaws.{keys-left}
use Rattle.dv_index.specs.Inner.Search.{IsIndexOf, is_key_under}
use Rattle.dv_index.specs.Inner.Change.{IsChangeOf, IsFresh, changed_id, document_after, documents_after}
use Rattle.dv_index.specs.declared.change.Change.{Change}
use Rattle.dv_index.specs.declared.change.Change.TheVariants.{Insert, Replace, Remove}
use Rattle.std.proofs.lemmas.Cmp.{tied_itself}
use Rattle.std.proofs.Math.Bool.{and-true}

-- ---- what is found after a change, by the laws of collections
abbrev pub InsertedIsFound : Type 0
InsertedIsFound = (k : KeyTree) (d : List Field) (ds : List (List Field)) → found (id_key d) ds ≡ None → found k (inserted d ds) ≡ cond (is_of k d) (Some d) (found k ds)

abbrev pub RemovedIsNotFound : Type 0
RemovedIsNotFound = (k l : KeyTree) (ds : List (List Field)) → found l (removed k ds) ≡ cond (is_eq (key_order k l)) None (found l ds)

abbrev pub ReplacedIsFound : Type 0
ReplacedIsFound = (k : KeyTree) (d : List Field) (ds : List (List Field)) → found k (replaced d ds) ≡ cond (is_of k d) (option_map (λ e. d) (found k ds)) (found k ds)

-- equal keys find the same
pub found-same : (i id : KeyTree) (ds : List (List Field)) → is_eq (key_order i id) ≡ true → found i ds ≡ found id ds
found-same i id ds e = ap (λ t. find-by t ds) (λ j d. is_eq (key_order_total.congr i id (id_key d) (equal-from (key_order i id) e) j))
  where
    find-by : (List Field → Bool) → List (List Field) → Option (List Field)
    find-by t es = find t es

pub found-after : InsertedIsFound → RemovedIsNotFound → ReplacedIsFound → (c : Change) (ds : List (List Field)) → IsChangeOf c ds → IsFresh c ds → (i : KeyTree) → found i (documents_after c ds) ≡ cond (is_eq (key_order i (changed_id c))) (document_after c) (found i ds)
found-after law₁ law₂ law₃ (Insert d) ds h f i = law₁ i d ds f
found-after law₁ law₂ law₃ (Remove k) ds h f i = law₂ k.now i ds ∙ ap (λ b. cond b None (found i ds)) (equal-back k.now i)
found-after law₁ law₂ law₃ (Replace d) ds h f i = law₃ i d ds ∙ at (is_eq (key_order i (id_key d))) refl
  where
    known : (o : Option (List Field)) → IsSome o → option_map (λ (e : List Field). d) o ≡ Some d
    known None s = absurd cc
    known (Some e) s = refl

    at : (b : Bool) → is_eq (key_order i (id_key d)) ≡ b → cond b (option_map (λ e. d) (found i ds)) (found i ds) ≡ cond b (Some d) (found i ds)
    at true e = ap (option_map (λ (x : List Field). d)) (found-same i (id_key d) ds e) ∙ known (found (id_key d) ds) h.1
    at false e = refl

-- ---- one index
not-both : (o n : Bool) → n && not o ≡ true → o ≡ false
not-both false n e = refl
not-both true true e = absurd cc
not-both true false e = absurd cc

gained-and-lost : (o n : Bool) → (o || ((n && not o) && true)) && not ((o && not n) && true) ≡ n
gained-and-lost true true = refl
gained-and-lost true false = refl
gained-and-lost false true = refl
gained-and-lost false false = refl

gained-and-gone : (o n : Bool) → (o || ((n && not o) && true)) && not ((n && not o) && true) ≡ o
gained-and-gone true true = refl
gained-and-gone true false = refl
gained-and-gone false true = refl
gained-and-gone false false = refl

elsewhere : (p g l : Bool) → (p || (g && false)) && not (l && false) ≡ p
elsewhere true true true = refl
elsewhere true true false = refl
elsewhere true false true = refl
elsewhere true false false = refl
elsewhere false true true = refl
elsewhere false true false = refl
elsewhere false false true = refl
elsewhere false false false = refl

module _ (ds : List (List Field)) (id : KeyTree) (path : List (List ℕ)) (after : Option (List Field)) (old new gained lost : List KeyTree) (pairs : List Pair) (holds : (k i : KeyTree) → has_pair k i pairs ≡ is_key_under k path (found i ds)) (is-old : (k : KeyTree) → has_key k old ≡ is_key_under k path (found id ds)) (is-new : (k : KeyTree) → has_key k new ≡ is_key_under k path after) (is-gained : gained ≡ filter (λ k. not (has_key k old)) new) where
  has-gained : (k : KeyTree) → has_key k gained ≡ has_key k new && not (has_key k old)
  has-gained k = ap (has_key k) is-gained ∙ keys-left new old k

  -- what is gained isn't there yet
  pub gained-absent : (k : KeyTree) → has_key k gained ≡ true → has_pair k id pairs ≡ false
  gained-absent k e = holds k id ∙ sym (is-old k) ∙ not-both (has_key k old) (has_key k new) (sym (has-gained k) ∙ e)

  before-at : (k i : KeyTree) → is_eq (key_order i id) ≡ true → has_pair k i pairs ≡ has_key k old
  before-at k i e = holds k i ∙ ap (is_key_under k path) (found-same i id ds e) ∙ sym (is-old k)

  -- with what was gained and without what was lost, the pairs are those of the changed documents
  pub pairs-after : lost ≡ filter (λ k. not (has_key k new)) old → (k i : KeyTree) → (has_pair k i pairs || (has_key k gained && is_eq (key_order i id))) && not (has_key k lost && is_eq (key_order i id)) ≡ is_key_under k path (cond (is_eq (key_order i id)) after (found i ds))
  pairs-after is-lost k i = at (is_eq (key_order i id)) refl
    where
      has-lost : has_key k lost ≡ has_key k old && not (has_key k new)
      has-lost = ap (has_key k) is-lost ∙ keys-left old new k

      at : (s : Bool) → is_eq (key_order i id) ≡ s → (has_pair k i pairs || (has_key k gained && s)) && not (has_key k lost && s) ≡ is_key_under k path (cond s after (found i ds))
      at true e = (λ j. (before-at k i e j || (has-gained k j && true)) && not (has-lost j && true)) ∙ gained-and-lost (has_key k old) (has_key k new) ∙ is-new k
      at false e = elsewhere (has_pair k i pairs) (has_key k gained) (has_key k lost) ∙ holds k i

  -- without what was gained, they are the old ones
  pub pairs-back : (k i : KeyTree) → (has_pair k i pairs || (has_key k gained && is_eq (key_order i id))) && not (has_key k gained && is_eq (key_order i id)) ≡ is_key_under k path (found i ds)
  pairs-back k i = at (is_eq (key_order i id)) refl ∙ holds k i
    where
      at : (s : Bool) → is_eq (key_order i id) ≡ s → (has_pair k i pairs || (has_key k gained && s)) && not (has_key k gained && s) ≡ has_pair k i pairs
      at true e = (λ j. (before-at k i e j || (has-gained k j && true)) && not (has-gained k j && true)) ∙ gained-and-gone (has_key k old) (has_key k new) ∙ sym (before-at k i e)
      at false e = elsewhere (has_pair k i pairs) (has_key k gained) (has_key k gained)

first-of : (P : IndexTree → Type 0) (xs : List IndexTree) (x : IndexTree) (rest : List IndexTree) → xs ≡ x ∷ rest → AllByRecursion P xs → P x
first-of P xs x rest e h = (subst (AllByRecursion P) e h).0

-- ---- the same for the first of the indexes
module _ (ds : List (List Field)) (indexes : List IndexTree) (index : IndexTree) (rest : List IndexTree) (parts : indexes ≡ index ∷ rest) (held : AllByRecursion (λ x. IsIndexOf x ds) indexes) (id changed : KeyTree) (same_id : id ≡ changed) (path : List (List ℕ)) (same_path : path ≡ index.path) (after : Option (List Field)) (old new gained : List KeyTree) (is-old : (k : KeyTree) → has_key k old ≡ is_key_under k path (found changed ds)) (is-new : (k : KeyTree) → has_key k new ≡ is_key_under k path after) (is-gained : gained ≡ filter (λ k. not (has_key k old)) new) where
  holds : (k i : KeyTree) → has_pair k i index.pairs ≡ is_key_under k path (found i ds)
  holds k i = (first-of (λ x. IsIndexOf x ds) indexes index rest parts held).has k i ∙ ap (λ p. is_key_under k p (found i ds)) (sym same_path)

  old-at : (k : KeyTree) → has_key k old ≡ is_key_under k path (found id ds)
  old-at k = is-old k ∙ ap (λ l. is_key_under k path (found l ds)) (sym same_id)

  pub not-there : (k : KeyTree) → has_key k gained ≡ true → has_pair k id index.pairs ≡ false
  not-there = gained-absent ds id path after old new gained gained index.pairs holds old-at is-new is-gained

  -- it has no keys except the old ones
  pub held-before : (k : KeyTree) → has_pair k id index.pairs ≡ true → has_key k old ≡ true
  held-before k there = old-at k ∙ sym (holds k id) ∙ there

  module _ (added : IndexTree) (more : (k i : KeyTree) → has_pair k i added.pairs ≡ has_pair k i index.pairs || (has_key k gained && is_eq (key_order i id))) where
    itself : is_eq (key_order id id) ≡ true
    itself = ap is_eq (tied_itself key_order_total id)

    without : (k : KeyTree) (ks : List KeyTree) → (has_pair k id index.pairs || (has_key k gained && is_eq (key_order id id))) && not (has_key k ks && is_eq (key_order id id)) ≡ has_pair k id added.pairs && not (has_key k ks)
    without k ks = λ j. sym (more k id) j && not ((ap (λ b. has_key k ks && b) itself ∙ and-true (has_key k ks)) j)

    -- and then none except the new ones
    pub left-after : (lost : List KeyTree) → lost ≡ filter (λ k. not (has_key k new)) old → (k : KeyTree) → has_pair k id added.pairs && not (has_key k lost) ≡ true → has_key k new ≡ true
    left-after lost is-lost k e =
        is-new k
        ∙ ap (λ b. is_key_under k path (cond b after (found id ds))) (sym itself)
        ∙ sym (pairs-after ds id path after old new gained lost index.pairs holds old-at is-new is-gained is-lost k id)
        ∙ without k lost
        ∙ e

    pub left-before : (k : KeyTree) → has_pair k id added.pairs && not (has_key k gained) ≡ true → has_key k old ≡ true
    left-before k e = old-at k ∙ sym (pairs-back ds id path after old new gained gained index.pairs holds old-at is-new is-gained k id) ∙ without k gained ∙ e

  module _ (added taken : IndexTree) (form-added : form_of added ≡ form_of index) (form-taken : form_of taken ≡ form_of added) (more : (k i : KeyTree) → has_pair k i added.pairs ≡ has_pair k i index.pairs || (has_key k gained && is_eq (key_order i id))) where
    same-path : path ≡ taken.path
    same-path = same_path ∙ sym (ap (λ (f : IndexForm). f.path) (form-taken ∙ form-added))

    -- the index is that of the changed documents
    pub index-after : (news : List (List Field)) (lost : List KeyTree) → lost ≡ filter (λ k. not (has_key k new)) old → ((i : KeyTree) → found i news ≡ cond (is_eq (key_order i changed)) after (found i ds))
        → ((k i : KeyTree) → has_pair k i taken.pairs ≡ has_pair k i added.pairs && not (has_key k lost && is_eq (key_order i id))) → IsIndexOf taken news
    index-after news lost is-lost finds less = record {
      has = λ k i.
          less k i
          ∙ ap (λ b. b && not (has_key k lost && is_eq (key_order i id))) (more k i)
          ∙ pairs-after ds id path after old new gained lost index.pairs holds old-at is-new is-gained is-lost k i
          ∙ ap (is_key_under k path) (ap (λ l. cond (is_eq (key_order i l)) after (found i ds)) same_id ∙ sym (finds i))
          ∙ ap (λ p. is_key_under k p (found i news)) same-path;
    }

    -- the index is that of the old documents
    pub index-back : ((k i : KeyTree) → has_pair k i taken.pairs ≡ has_pair k i added.pairs && not (has_key k gained && is_eq (key_order i id))) → IsIndexOf taken ds
    index-back less = record {
      has = λ k i.
          less k i
          ∙ ap (λ b. b && not (has_key k gained && is_eq (key_order i id))) (more k i)
          ∙ pairs-back ds id path after old new gained gained index.pairs holds old-at is-new is-gained k i
          ∙ ap (λ p. is_key_under k p (found i ds)) same-path;
    }
