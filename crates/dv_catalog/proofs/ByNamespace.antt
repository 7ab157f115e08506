-- What is under namespaces, in a map by texts.
use Rattle.std.proofs.Common.{◌≡◌, ◌⊎◌, inl, inr, ℕ, Bool, true, false, List, [], ◌∷◌, Option, Some, None, Result, Ok, Err, map, cond, refl, ap, sym, ◌∙◌, arith}
use Rattle.std.proofs.lemmas.Map.Text.{btree_map_updates_text}
use Rattle.std.proofs.lemmas.Slice.Eq.{bytes_eq-Decides}
use Rattle.std.specs.BTreeMap.{BTreeMap, is_at, get_by_text, UpdatesBy, WritesThrough}
use Rattle.std.specs.Cmp.Lexicographic.{slice_cmp, nat_list_cmp_total}
use Rattle.std.specs.FinMap as finite
use Rattle.std.specs.Map.{lookup}
use Rattle.std.specs.Option.{option_map}
use Rattle.std.specs.Ordering.{nat_cmp}
use Rattle.std.specs.Str.{bytes_eq}
use Rattle.std.specs.declared.string.String.{String}
use Rattle.std.specs.String.{string_bytes, string_cmp}
use Rattle.dv_value.specs.Tree.{Field}
use Rattle.dv_catalog.specs.Inner.StateLaws.{same_namespaces, get-insert, get-remove}
use Rattle.dv_refusal.specs.declared.refusal.Refusal.{Refusal}
use Rattle.dv_refusal.specs.declared.refusal.Refusal.TheVariants.{WantOfMemory}
use Rattle.dv_catalog.specs.Changes.{Change, Effect, apply, done_to, put, with_changes, with_put}
use Rattle.dv_catalog.specs.Effects.{put_new}
use Rattle.dv_catalog.specs.State.{Collection, Standing, Namespaces, collection_at, collection_of, with_documents}
use Rattle.dv_index.specs.Indexed.{empty_indexed}
use Rattle.dv_catalog.specs.Inner.View.{standing_seen, standing_by_namespace}
use Rattle.dv_catalog.specs.Inner.Parts.{Makes, one_changed}
use Rattle.dv_catalog.specs.declared.failure.Stopped.{Stopped}
use Rattle.dv_catalog.proofs.Stopping.{stops_before}

seen-updated : (b : Bool) (c : Collection) (before : Option Collection) → option_map standing_seen (cond b (Some c) before) ≡ cond b (Some (standing_seen c)) (option_map standing_seen before)
seen-updated true c before = refl
seen-updated false c before = refl

seen-removed : (b : Bool) (before : Option Collection) → option_map standing_seen (cond b None before) ≡ cond b None (option_map standing_seen before)
seen-removed true before = refl
seen-removed false before = refl

-- a collection in place of that of a namespace
abbrev pub with_collection : List ℕ → Collection → Namespaces → Namespaces
with_collection name c namespaces = finite.insert namespaces name (standing_seen c)

module _ {Y : Type 0} where
  find-lookup : (name : List ℕ) (es : List (String Y × Collection))
      → finite.find (slice_cmp nat_cmp) name (map (λ e. (string_bytes e.0, standing_seen e.1)) es) ≡ option_map standing_seen (lookup (is_at (λ k. slice_cmp nat_cmp name (string_bytes k))) es)
  find-lookup name [] = grind arith
  find-lookup name (e ∷ es) = grind (arith, find-lookup name es)

  pub get-standing : (m : BTreeMap (String Y) Collection) (name : List ℕ) → finite.get (standing_by_namespace m) name ≡ option_map standing_seen (get_by_text m name)
  get-standing m name = finite.get-from_entries nat_list_cmp_total _ name ∙ find-lookup name m.entries

  -- the collection that is there
  pub collection-there : (m : BTreeMap (String Y) Collection) (name : List ℕ) (c : Collection) → Some c ≡ get_by_text m name → collection_of name (standing_by_namespace m) ≡ c
  collection-there m name c there = ap collection_at (get-standing m name ∙ ap (option_map standing_seen) (sym there))

  pub none-there : (m : BTreeMap (String Y) Collection) (name : List ℕ) → None ≡ get_by_text m name → finite.get (standing_by_namespace m) name ≡ None
  none-there m name none = get-standing m name ∙ ap (option_map standing_seen) (sym none)

  pub standing-insert : (m n : BTreeMap (String Y) Collection) (name : List ℕ) (c : Collection)
      → UpdatesBy string_cmp (λ k. slice_cmp nat_cmp name (string_bytes k)) m n (Some c) → standing_by_namespace n ≡ with_collection name c (standing_by_namespace m)
  standing-insert m n name c updated =
      same_namespaces _ _ (λ q.
      get-standing n q
      ∙ ap (option_map standing_seen) (btree_map_updates_text name m n (Some c) updated q)
      ∙ seen-updated (bytes_eq name q) c (get_by_text m q)
      ∙ ap (cond (bytes_eq name q) (Some (standing_seen c))) (sym (get-standing m q))
      ∙ sym (get-insert (standing_by_namespace m) name (standing_seen c) q))

  pub standing-remove : (m n : BTreeMap (String Y) Collection) (name : List ℕ) → UpdatesBy string_cmp (λ k. slice_cmp nat_cmp name (string_bytes k)) m n None
      → standing_by_namespace n ≡ finite.remove (standing_by_namespace m) name
  standing-remove m n name updated =
      same_namespaces _ _ (λ q.
      get-standing n q
      ∙ ap (option_map standing_seen) (btree_map_updates_text name m n None updated q)
      ∙ seen-removed (bytes_eq name q) (get_by_text m q)
      ∙ ap (cond (bytes_eq name q) None) (sym (get-standing m q))
      ∙ sym (get-remove (standing_by_namespace m) name q))

  -- after a write over the collection of a namespace
  pub standing-written : (m n : BTreeMap (String Y) Collection) (name : List ℕ) (old new : Collection) → Some old ≡ get_by_text m name
      → WritesThrough string_cmp (λ k. slice_cmp nat_cmp name (string_bytes k)) m new n → standing_by_namespace n ≡ with_collection name new (standing_by_namespace m)
  standing-written m n name old new there writes = standing-insert m n name new (writes.3 (rw (← there) refl))

  -- what a namespace has already, put there again
  pub same-written : (m : BTreeMap (String Y) Collection) (name : List ℕ) (c : Collection) → Some c ≡ get_by_text m name → with_collection name c (standing_by_namespace m) ≡ standing_by_namespace m
  same-written m name c there =
      let here : finite.get (standing_by_namespace m) name ≡ Some (standing_seen c) = get-standing m name ∙ ap (option_map standing_seen) (sym there) in
      same_namespaces _ _ (λ q. get-insert (standing_by_namespace m) name (standing_seen c) q ∙ grind (arith, here, (bytes_eq-Decides name q).0))

-- the result for the collection that is there
pub made-there : (old : Namespaces) (name : List ℕ) (c : Collection) (make : Collection → Collection) → collection_of name old ≡ c → with_collection name (make c) old ≡ with_collection name (make (collection_of name old)) old
made-there old name c make are = ap (λ (there : Collection). with_collection name (make there) old) (sym are)

-- a collection without documents, in a namespace that has none
pub with_empty : (old : Namespaces) (name : List ℕ) → finite.get old name ≡ None → with_collection name empty_indexed old ≡ with_documents name [] old
with_empty old name none = ap (λ (there : Option Standing). with_collection name (record (collection_at there) { documents = [] }) old) (sym none)

-- ---- one more document in a namespace

module _ (old : Namespaces) (namespace : List ℕ) (d : List Field) (c : Collection) (are : collection_of namespace old ≡ c) where
  abbrev does : Result Effect Refusal
  does = done_to (collection_of namespace old) (put_new d)

  there : does ≡ done_to c (put_new d)
  there = ap (λ (x : Collection). done_to x (put_new d)) are

  pub makes_new : (new : Namespaces) → done_to c (put_new d) ≡ Ok (record { matched = 1; changes = put d ∷ [] }) → new ≡ with_collection namespace (record c { documents = with_put d c.documents }) old
      → Makes {B = Unit {0}} (λ _. one_changed) namespace (put_new d) old (Ok tt) new
  makes_new new done more = (put d ∷ [], there ∙ done, refl, more ∙ made-there old namespace c (λ x. record x { documents = with_put d x.documents }) are)

  -- if the collection refuses the document, the insert has the same refusal
  pub not_made : (new : Namespaces) (refusal : Refusal) (result : Result (Unit {0}) Stopped) (stopped : Stopped) → result ≡ Err stopped → stopped ≡ record { refusal = refusal; done = 0 }
      → (done_to c (put_new d) ≡ Err refusal) ⊎ (refusal ≡ WantOfMemory) → new ≡ old → Makes (λ _. one_changed) namespace (put_new d) old result new
  not_made new refusal result stopped is from why same = rw is (stops_before namespace does old new same {B = Unit {0}} (λ _. one_changed) refusal stopped from (by_cause why))
    where
      by_cause : (done_to c (put_new d) ≡ Err refusal) ⊎ (refusal ≡ WantOfMemory) → (does ≡ Err refusal) ⊎ (refusal ≡ WantOfMemory)
      by_cause (inl refused) = inl (there ∙ refused)
      by_cause (inr want) = inr want

-- ---- changes of the documents of a namespace

module _ (old : Namespaces) (namespace : List ℕ) (c : Collection) (are : collection_of namespace old ≡ c) (same : with_collection namespace c old ≡ old) where
  pub applied : (changes : List Change) (new : Namespaces) → new ≡ with_collection namespace (record c { documents = with_changes c.documents changes }) old → new ≡ apply namespace changes old
  applied [] new is = is ∙ same
  applied (change ∷ changes) new is = is ∙ made-there old namespace c (λ there. record there { documents = with_changes there.documents (change ∷ changes) }) are
