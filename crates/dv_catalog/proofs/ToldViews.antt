-- The old documents that are passed to views with changes were there.
use Rattle.std.proofs.Common.{◌≡◌, inl, inr, ℕ, zero, suc, Bool, true, false, List, [], ◌∷◌, map, take, Option, None, Some, is_some, if◌then◌else◌, refl, sym, ap, subst, ◌∙◌, arith}
use Rattle.std.proofs.lemmas.List.{take-map, take_all}
use Rattle.std.specs.FinMap as finite
use Rattle.std.specs.List.{AllByRecursion}
use Rattle.std.specs.Option.{option_map}
use Rattle.std.specs.Ordering.{is_eq}
use Rattle.dv_value.specs.Tree.{Field}
use Rattle.dv_change.specs.declared.change.Change as flow
use Rattle.dv_change.specs.declared.change.Change.TheVariants.{Gone}
use Rattle.dv_change.specs.declared.position.Part.TheVariants.{Up}
use Rattle.dv_change.specs.declared.taking.Taken as taking
use Rattle.dv_change.specs.Changes as rows
use Rattle.dv_change.specs.Changes.{Positioned, at}
use Rattle.dv_change.specs.Inner.Told.{change_told, changes_told}
use Rattle.dv_coll.specs.Collection.{AreStanding, HasId, found, id_key, inserted, removed, replaced}
use Rattle.dv_order.specs.Key.{KeyTree, key_order}
use Rattle.dv_views.specs.Changed.{documents_changed}
use Rattle.dv_views.specs.Inner.Changed.{AreToldOf, IsMade, gones_of}
use Rattle.dv_views.specs.Inner.Views.{Views}
use Rattle.dv_views.specs.Placed.{own_position, positioned}
use Rattle.dv_catalog.specs.declared.effect.Updated.{Updated}
use Rattle.dv_catalog.specs.Changes.{Change, put, gone, with_change}
use Rattle.dv_catalog.specs.Inner.EffectView.{ArePlaced, AreUpdatesOf, BeginsWithId, IsAble, after_of, update_changes}
use Rattle.dv_catalog.specs.Inner.StateLaws.{documents_there}
use Rattle.dv_catalog.specs.Inner.Told.{AreTold, AreToldSo, documents_in, gones_told, updates_told}
use Rattle.dv_catalog.specs.Inner.View.{standing_seen}
use Rattle.dv_catalog.specs.Marks.{all_gone}
use Rattle.dv_catalog.specs.State.{AreOrdered, Collection, Namespaces, documents_of}
use Rattle.dv_catalog.specs.Told.{told}
use Rattle.dv_catalog.proofs.Keeping.{MadeAsTold}
use Rattle.dv_catalog.proofs.Updated.{Others, next_updates}

-- what the laws of dv_coll and dv_views say of documents at their positions
abbrev pub FoundAt : Type 0
FoundAt = (k : KeyTree) (ds : List (List Field)) → at (Up k ∷ []) (positioned ds) ≡ found k ds

abbrev pub StandBehind : Type 0
StandBehind = (c : flow.Change) (ds : List (List Field)) → AllByRecursion HasId ds → IsMade c ds → rows.with_change (positioned ds) c ≡ positioned (documents_changed (c ∷ []) ds)

abbrev pub FoundWithout : Type 0
FoundWithout = (k l : KeyTree) (ds : List (List Field)) → found l (removed k ds) ≡ (if is_eq (key_order k l) then None else found l ds)

abbrev pub KeepsOrder : Type 0
KeepsOrder = (documents : List (List Field)) (change : Change) → AreOrdered documents → BeginsWithId change → AreOrdered (with_change documents change)

pub record OldLaws : Type 0 where
  pub finds : FoundAt
  pub behind : StandBehind
  pub made : MadeAsTold
  pub keeps : KeepsOrder
  pub others : Others
  pub without : FoundWithout

module _ (laws : OldLaws) where
  -- documents after a change are at their own positions
  one-behind : (c : Change) (ds : List (List Field)) → AreOrdered ds → IsAble ds c → rows.with_change (positioned ds) (told c) ≡ positioned (with_change ds c)
  one-behind c ds ordered is =
      let both = laws.made ds (c ∷ []) ordered (is, tt) in
      laws.behind (told c) ds ordered.1 both.0.in_turn.0 ∙ ap positioned both.1

  -- ---- documents that are updated

  updates-olds : (ds : List (List Field)) (name : List ℕ) (each : List Updated) → AreOrdered ds → ArePlaced ds (update_changes name each) → AreUpdatesOf ds name each → AreToldOf (positioned ds) (updates_told name each)
  updates-olds ds name [] ordered placed are = tt
  updates-olds ds name (u ∷ us) ordered placed are =
      let d = after_of name u in
      let same : id_key d ≡ id_key u.before = cc (are.same_ids) in
      let stood : Some u.before ≡ at (own_position d) (positioned ds) = sym (laws.finds (id_key d) ds ∙ ap (λ (k : KeyTree). found k ds) same ∙ are.standing.0.0) in
      let is : replaced d ds ≡ with_change ds (put d) = ap (λ (b : Bool). if b then replaced d ds else inserted d ds) (sym placed.0.1) in
      let rest = updates-olds (with_change ds (put d)) name us (laws.keeps ds (put d) ordered placed.0.0) placed.1 (subst (λ (es : List (List Field)). AreUpdatesOf es name us) is (next_updates laws.others ds name u us are)) in
      (stood, subst (λ (r : Positioned). AreToldOf r (updates_told name us)) (sym (one-behind (put d) ds ordered placed.0.0)) rest)

  updates-changes : (name : List ℕ) (each : List Updated) → changes_told (updates_told name each) ≡ map told (update_changes name each)
  updates-changes name [] = refl
  updates-changes name (u ∷ us) = ap (λ (cs : List flow.Change). told (put (after_of name u)) ∷ cs) (updates-changes name us)

  pub updates_so : (ds : List (List Field)) (name : List ℕ) (each : List Updated) → AreOrdered ds → ArePlaced ds (update_changes name each) → AreUpdatesOf ds name each → AreToldSo ds (update_changes name each) (updates_told name each)
  updates_so ds name each ordered placed are = record { changes_are = updates-changes name each; olds = updates-olds ds name each ordered placed are }

  -- ---- documents that are removed

  left-there : (k l : KeyTree) (ds all : List (List Field)) → ((m : KeyTree) → is_some (found m ds) ≡ true → found m ds ≡ found m all) → is_some (found l (removed k ds)) ≡ true → found l (removed k ds) ≡ found l all
  left-there k l ds all same there = by (is_eq (key_order k l)) refl
    where
      by : (b : Bool) → is_eq (key_order k l) ≡ b → found l (removed k ds) ≡ found l all
      by true is = let none : found l (removed k ds) ≡ None = laws.without k l ds ∙ ap (λ (c : Bool). if c then None else found l ds) is in absurd (let no : true ≡ false = sym there ∙ ap is_some none in cc)
      by false is =
          let still : found l (removed k ds) ≡ found l ds = laws.without k l ds ∙ ap (λ (c : Bool). if c then None else found l ds) is in
          still ∙ same l (sym (ap is_some still) ∙ there)

  gones-olds : (ds all : List (List Field)) (keys : List KeyTree) → AreOrdered ds → ArePlaced ds (map gone keys) → ((m : KeyTree) → is_some (found m ds) ≡ true → found m ds ≡ found m all) → AreToldOf (positioned ds) (gones_told all keys)
  gones-olds ds all [] ordered placed same = tt
  gones-olds ds all (k ∷ ks) ordered placed same =
      let rest = gones-olds (removed k ds) all ks (laws.keeps ds (gone k) ordered tt) placed.1 (λ l there. left-there k l ds all same there) in
      (sym (laws.finds k ds ∙ same k placed.0), subst (λ (r : Positioned). AreToldOf r (gones_told all ks)) (sym (one-behind (gone k) ds ordered placed.0)) rest)

  gones-changes : (all : List (List Field)) (keys : List KeyTree) → changes_told (gones_told all keys) ≡ map told (map gone keys)
  gones-changes all [] = refl
  gones-changes all (k ∷ ks) = ap (λ (cs : List flow.Change). Gone (Up k ∷ []) ∷ cs) (gones-changes all ks)

  pub gones_so : (ds : List (List Field)) (keys : List KeyTree) → AreOrdered ds → ArePlaced ds (map gone keys) → AreToldSo ds (map gone keys) (gones_told ds keys)
  gones_so ds keys ordered placed = record { changes_are = gones-changes ds keys; olds = gones-olds ds ds keys ordered placed (λ m there. refl) }

  -- all documents that are there
  each-gone : (ds all : List (List Field)) → AllByRecursion (λ d. found (id_key d) all ≡ Some d) ds → gones_told all (map id_key ds) ≡ gones_of ds
  each-gone [] all stand = refl
  each-gone (d ∷ ds) all stand = let rest = each-gone ds all stand.1 in λ i. record { pos = own_position d; old = stand.0 i; new = None } ∷ rest i

  same-gone : (ds : List (List Field)) → map gone (map id_key ds) ≡ all_gone ds
  same-gone [] = refl
  same-gone (d ∷ ds) = ap (λ (cs : List Change). gone (id_key d) ∷ cs) (same-gone ds)

  pub all_gone_so : (ds : List (List Field)) → AreStanding ds ds → AreOrdered ds → ArePlaced ds (all_gone ds) → AreToldSo ds (all_gone ds) (gones_of ds)
  all_gone_so ds stand ordered placed =
      let so = gones_so ds (map id_key ds) ordered (subst (ArePlaced ds) (sym (same-gone ds)) placed) in
      subst (λ (cs : List Change). AreToldSo ds cs (gones_of ds)) (same-gone ds) (subst (λ (ts : List taking.Taken). AreToldSo ds (map gone (map id_key ds)) ts) (each-gone ds ds stand.0) so)

-- ---- a document that is inserted

not-there : (o : Option (List Field)) → is_some o ≡ false → o ≡ None
not-there None is = refl
not-there (Some d) is = absurd cc

pub one_so : FoundAt → (d : List Field) (ds : List (List Field)) → is_some (found (id_key d) ds) ≡ false → AreToldSo ds (put d ∷ []) (record { pos = own_position d; old = None; new = Some d } ∷ [])
one_so finds d ds none = record { changes_are = refl; olds = (sym (finds (id_key d) ds ∙ not-there (found (id_key d) ds) none), tt) }

-- the documents under a namespace are those of its collection
pub same_documents : {T : Type 0} (f : T → Collection) (namespaces : Namespaces) (namespace : List ℕ) (there : Option T) → option_map (λ t. standing_seen (f t)) there ≡ finite.get namespaces namespace
    → documents_in (option_map f there) ≡ documents_of namespace namespaces
same_documents f namespaces namespace None is = sym (documents_there namespaces namespace None (sym is))
same_documents f namespaces namespace (Some c) is = sym (documents_there namespaces namespace (Some (standing_seen (f c))) (sym is))

-- ---- the first changes

first-olds : (n : ℕ) (r : Positioned) (all : List taking.Taken) → AreToldOf r all → AreToldOf r (take n all)
first-olds zero r all olds = tt
first-olds (suc n) r [] olds = tt
first-olds (suc n) r (t ∷ ts) olds = (olds.0, first-olds n (rows.with_change r (change_told t)) ts olds.1)

-- the first of what is passed for all changes is what is passed for the first changes
pub told_first : (n : ℕ) (namespace : List ℕ) (registry : Views) (documents : List (List Field)) (changes : List Change) (all : List taking.Taken) → AreTold namespace registry documents changes all
    → AreTold namespace registry documents (take n changes) (take n all)
told_first n namespace registry documents changes all (inl so) =
    inl (record { changes_are = sym (take-map change_told n all) ∙ ap (take n) so.changes_are ∙ take-map told n changes; olds = first-olds n (positioned documents) all so.olds })
told_first n namespace registry documents changes all (inr is) = inr (ap (take n) is.0 ∙ take_all n [] (omega arith), is.1)
