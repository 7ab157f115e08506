-- Indexes that are made in a collection, in the collection of a namespace, and in a state.
use Rattle.std.proofs.Common.{◌≡◌, ◌⊎◌, inl, inr, ℕ, Bool, true, false, if◌then◌else◌, List, length, map, Option, Some, Result, Ok, Err, refl, sym, ap, subst, ◌∙◌}
use Rattle.std.proofs.lemmas.Slice.Eq.{bytes_eq-Decides}
use Rattle.std.specs.FinMap as finite
use Rattle.std.specs.Str.{bytes_eq}
use Rattle.dv_refusal.specs.declared.refusal.Refusal.{Refusal}
use Rattle.dv_refusal.specs.declared.refusal.Refusal.TheVariants.{NamespaceNotFound, OnView, WantOfMemory}
use Rattle.dv_keyed.specs.Index.{IndexForm}
use Rattle.dv_views.specs.Inner.Views.{Views, view_form}
use Rattle.dv_catalog.specs.declared.indexing.IndexCounts.{IndexCounts}
use Rattle.dv_catalog.specs.Inner.CatalogParts.{IsKept, state_of}
use Rattle.dv_catalog.specs.IndexMaking.{indexes_created, indexes_dropped, with_all, with_indexes_so, without_named}
use Rattle.dv_catalog.specs.Inner.IndexParts.{collection_so, namespaces_so}
use Rattle.dv_catalog.specs.Inner.Parts.{Leaves}
use Rattle.dv_catalog.specs.State.{Collection, Namespaces, Standing, State, collection, collection_at, collection_of, indexes_of, is_collection, is_view, with_indexes}
use Rattle.dv_catalog.specs.Inner.StateLaws.{get-insert}
use Rattle.dv_catalog.proofs.ByNamespace.{made-there, with_collection}
use Rattle.dv_catalog.proofs.Keeping.{UnreadIsNoMatter, kept_same_documents}

-- ---- in a collection, and in the collection of a namespace

module _ (old : Namespaces) (name : List ℕ) (c : Collection) (are : collection_of name old ≡ c) where
  so_there : (written : Collection) (made : Result (List IndexForm) Refusal) → collection_so c made ≡ Ok written → namespaces_so name made old ≡ Ok (with_collection name written old)
  so_there written (Ok indexes) is =
      let same : record c { indexes = indexes } ≡ written = cc in
      ap Ok (sym (made-there old name c (λ there. record there { indexes = indexes }) are) ∙ ap (λ (x : Collection). with_collection name x old) same)
  so_there written (Err e) is = absurd cc

  not_so : (refusal : Refusal) (made : Result (List IndexForm) Refusal) → collection_so c made ≡ Err refusal → namespaces_so name made old ≡ Err refusal
  not_so refusal (Ok indexes) is = absurd cc
  not_so refusal (Err e) is = let same : e ≡ refusal = cc in ap Err same

  module _ (make : Collection → Result (List IndexForm) Refusal) where
    over_there : namespaces_so name (make c) old ≡ namespaces_so name (make (collection_of name old)) old
    over_there = ap (λ (there : Collection). namespaces_so name (make there) old) (sym are)

    pub made_there : (written : Collection) (new : Namespaces) → collection_so c (make c) ≡ Ok written → new ≡ with_collection name written old → namespaces_so name (make (collection_of name old)) old ≡ Ok new
    made_there written new is now = sym over_there ∙ so_there written (make c) is ∙ ap Ok (sym now)

    pub leaves_there : {B : Type 0} (result : Result B Refusal) (written : Collection) (new : Namespaces) → with_collection name c old ≡ old → Leaves (collection_so c (make c)) c result written → new ≡ with_collection name written old
        → Leaves (namespaces_so name (make (collection_of name old)) old) old result new
    leaves_there (Ok x) written new same leaves now = made_there written new leaves now
    leaves_there (Err e) written new same leaves now = (by_cause leaves.0, now ∙ ap (λ (x : Collection). with_collection name x old) leaves.1 ∙ same)
      where
        by_cause : (collection_so c (make c) ≡ Err e) ⊎ (e ≡ WantOfMemory) → (namespaces_so name (make (collection_of name old)) old ≡ Err e) ⊎ (e ≡ WantOfMemory)
        by_cause (inl refused) = inl (sym over_there ∙ not_so e (make c) refused)
        by_cause (inr want) = inr want

put_itself : (b : Bool) (c : Collection) (there : Option Standing) → b ≡ true → collection_at (if b then Some (collection c) else there) ≡ c
put_itself true c there is = refl
put_itself false c there is = absurd cc

-- what is put under a namespace is there
pub stands_there : (old : Namespaces) (name : List ℕ) (c : Collection) (new : Namespaces) → new ≡ with_collection name c old → collection_of name new ≡ c
stands_there old name c new now =
    ap (collection_of name) now
    ∙ ap collection_at (get-insert old name (collection c) name)
    ∙ put_itself (bytes_eq name name) c (finite.get old name) ((bytes_eq-Decides name name).1 refl)

pub counts_there : (old new : Namespaces) (name : List ℕ) (c written : Collection) (counts : IndexCounts) → collection_of name old ≡ c → collection_of name new ≡ written → counts ≡ record { before = length c.indexes; after = length written.indexes }
    → counts ≡ record { before = length (indexes_of name old); after = length (indexes_of name new) }
counts_there old new name c written counts a b is = is ∙ (λ i. record { before = length (sym a i).indexes; after = length (sym b i).indexes })

-- ---- in a state

module _ (unread : UnreadIsNoMatter) (name : List ℕ) (old : Namespaces) (vs : Views) (none : is_view name (map view_form vs) ≡ false) where
  kept_so : (made : Result (List IndexForm) Refusal) (new : Namespaces) → namespaces_so name made old ≡ Ok new → IsKept old vs → IsKept new vs
  kept_so (Ok indexes) new is kept =
      let same : with_indexes name indexes old ≡ new = cc in
      subst (λ (ns : Namespaces). IsKept ns vs) same (kept_same_documents unread old name (record (collection_of name old) { indexes = indexes }) vs refl none kept)
  kept_so (Err e) new is kept = absurd cc

  pub kept_indexes : {B : Type 0} (made : Result (List IndexForm) Refusal) (result : Result B Refusal) (new : Namespaces) → Leaves (namespaces_so name made old) old result new → IsKept old vs → IsKept new vs
  kept_indexes made (Ok x) new leaves kept = kept_so made new leaves kept
  kept_indexes made (Err e) new leaves kept = subst (λ (ns : Namespaces). IsKept ns vs) (sym leaves.1) kept

state_so : (name : List ℕ) (old new : Namespaces) (vs : Views) (made : Result (List IndexForm) Refusal) → namespaces_so name made old ≡ Ok new → with_indexes_so name made (state_of old vs) ≡ Ok (state_of new vs)
state_so name old new vs (Ok indexes) is =
    let same : with_indexes name indexes old ≡ new = cc in
    ap (λ (ns : Namespaces). Ok (state_of ns vs)) same
state_so name old new vs (Err e) is = absurd cc

state_not : (name : List ℕ) (old : Namespaces) (vs : Views) (refusal : Refusal) (made : Result (List IndexForm) Refusal) → namespaces_so name made old ≡ Err refusal → with_indexes_so name made (state_of old vs) ≡ Err refusal
state_not name old vs refusal (Ok indexes) is = absurd cc
state_not name old vs refusal (Err e) is = let same : e ≡ refusal = cc in ap Err same

pub state_leaves : {B : Type 0} (name : List ℕ) (old new : Namespaces) (vs : Views) (made : Result (List IndexForm) Refusal) (result : Result B Refusal) → Leaves (namespaces_so name made old) old result new
    → Leaves (with_indexes_so name made (state_of old vs)) (state_of old vs) result (state_of new vs)
state_leaves name old new vs made (Ok x) leaves = state_so name old new vs made leaves
state_leaves name old new vs made (Err e) leaves = (by_cause leaves.0, ap (λ (ns : Namespaces). state_of ns vs) leaves.1)
  where
    by_cause : (namespaces_so name made old ≡ Err e) ⊎ (e ≡ WantOfMemory) → (with_indexes_so name made (state_of old vs) ≡ Err e) ⊎ (e ≡ WantOfMemory)
    by_cause (inl refused) = inl (state_not name old vs e made refused)
    by_cause (inr want) = inr want

-- ---- on a view, and on a collection

module _ (name : List ℕ) (state : State) where
  view_creates : (entries : List IndexForm) (b : Bool) → is_view name state.views ≡ b → indexes_created name entries state ≡ (if b then Err OnView else with_indexes_so name (with_all entries (collection_of name state.namespaces)) state)
  view_creates entries b is = ap (λ (c : Bool). if c then Err OnView else with_indexes_so name (with_all entries (collection_of name state.namespaces)) state) is

  pub not_created_on_view : (entries : List IndexForm) → is_view name state.views ≡ true → indexes_created name entries state ≡ Err OnView
  not_created_on_view entries is = view_creates entries true is

  pub created_on_collection : (entries : List IndexForm) → is_view name state.views ≡ false → indexes_created name entries state ≡ with_indexes_so name (with_all entries (collection_of name state.namespaces)) state
  created_on_collection entries is = view_creates entries false is

  view_drops : (dropped : List ℕ) (a b : Bool) → is_view name state.views ≡ a → is_collection name state.namespaces ≡ b
      → indexes_dropped name dropped state ≡ (if a then Err OnView else if b then with_indexes_so name (without_named dropped (indexes_of name state.namespaces)) state else Err NamespaceNotFound)
  view_drops dropped a b x y = λ i. if x i then Err OnView else if y i then with_indexes_so name (without_named dropped (indexes_of name state.namespaces)) state else Err NamespaceNotFound

  pub not_dropped_on_view : (dropped : List ℕ) → is_view name state.views ≡ true → indexes_dropped name dropped state ≡ Err OnView
  not_dropped_on_view dropped is = view_drops dropped true _ is refl

-- the namespaces after a drop
abbrev pub drops_by : Bool → List ℕ → List ℕ → Namespaces → Result Namespaces Refusal
drops_by there name dropped old = if there then namespaces_so name (without_named dropped (indexes_of name old)) old else Err NamespaceNotFound

module _ {B : Type 0} (name dropped : List ℕ) (old new : Namespaces) (vs : Views) (result : Result B Refusal) (none : is_view name (map view_form vs) ≡ false) where
  pub kept_dropped : UnreadIsNoMatter → (there : Bool) → Leaves (drops_by there name dropped old) old result new → IsKept old vs → IsKept new vs
  kept_dropped unread true leaves kept = kept_indexes unread name old vs none (without_named dropped (indexes_of name old)) result new leaves kept
  kept_dropped unread false leaves kept = by_result result leaves
    where
      by_result : (r : Result B Refusal) → Leaves (Err NamespaceNotFound) old r new → IsKept new vs
      by_result (Ok x) l = absurd cc
      by_result (Err e) l = subst (λ (ns : Namespaces). IsKept ns vs) (sym l.1) kept

  pub state_dropped : (there : Bool) → is_collection name old ≡ there → Leaves (drops_by there name dropped old) old result new → Leaves (indexes_dropped name dropped (state_of old vs)) (state_of old vs) result (state_of new vs)
  state_dropped true is leaves =
      subst (λ (r : Result State Refusal). Leaves r (state_of old vs) result (state_of new vs)) (sym (view_drops name (state_of old vs) dropped false true none is))
      (state_leaves name old new vs (without_named dropped (indexes_of name old)) result leaves)
  state_dropped false is leaves =
      subst (λ (r : Result State Refusal). Leaves r (state_of old vs) result (state_of new vs)) (sym (view_drops name (state_of old vs) dropped false false none is)) (by_result result leaves)
    where
      by_result : (r : Result B Refusal) → Leaves (Err NamespaceNotFound) old r new → Leaves (Err NamespaceNotFound) (state_of old vs) r (state_of new vs)
      by_result (Ok x) l = absurd cc
      by_result (Err e) l = (by_cause e l.0, ap (λ (ns : Namespaces). state_of ns vs) l.1)
        where
          by_cause : (e : Refusal) → (let r : Result Namespaces Refusal = Err NamespaceNotFound in r ≡ Err e) ⊎ (e ≡ WantOfMemory) → (let r : Result State Refusal = Err NamespaceNotFound in r ≡ Err e) ⊎ (e ≡ WantOfMemory)
          by_cause e (inl refused) = let same : NamespaceNotFound ≡ e = cc in inl (ap Err same)
          by_cause e (inr want) = inr want

pub dropped_there : {B : Type 0} (name dropped : List ℕ) (old new : Namespaces) (result : Result B Refusal) (there : Bool) → there ≡ true → Leaves (namespaces_so name (without_named dropped (indexes_of name old)) old) old result new
    → Leaves (drops_by there name dropped old) old result new
dropped_there name dropped old new result true is leaves = leaves
dropped_there name dropped old new result false is leaves = absurd cc
