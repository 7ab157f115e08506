-- Views and collections stay right if one is made or removed.
use Rattle.std.proofs.Common.{◌≡◌, ◌⊎◌, inl, inr, ◌||◌, if◌then◌else◌, ℕ, Bool, true, false, cond, List, [], ◌∷◌, map, Option, Some, None, is_some, Ok, Err, refl, sym, ap, ◌∙◌}
use Rattle.std.specs.FinMap as finite
use Rattle.std.specs.Str.{bytes_eq}
use Rattle.dv_value.specs.Tree.{Field}
use Rattle.dv_change.specs.declared.change.Change as flow
use Rattle.dv_change.specs.declared.taking.Taken as taking
use Rattle.dv_change.specs.Inner.Told.{changes_told}
use Rattle.dv_command.specs.Asked.{ViewOn}
use Rattle.dv_refusal.specs.declared.refusal.Refusal.TheVariants.{NamespaceExists, NamespaceNotFound, ReadByView}
use Rattle.dv_change.specs.declared.change.Change.TheVariants.{Gone}
use Rattle.dv_views.specs.Inner.Applied.{StaysRight}
use Rattle.dv_views.specs.Inner.Changed.{gone_each, gones_of}
use Rattle.dv_views.specs.Placed.{own_position}
use Rattle.dv_views.specs.Inner.Views.{Views, view_form, has_view, views_without}
use Rattle.dv_views.specs.Inner.Views as views
use Rattle.dv_catalog.specs.Inner.CatalogParts.{IsKept, state_of}
use Rattle.dv_catalog.specs.Changes.{with_changes}
use Rattle.dv_catalog.specs.Inner.EffectView.{AreAble}
use Rattle.dv_catalog.specs.Marks.{all_gone}
use Rattle.dv_catalog.specs.State.{AreOrdered, Namespaces, Standing, State, collection_at, collection_of, documents_of, is_collection, is_there, is_view, with_documents}
use Rattle.dv_catalog.specs.Inner.StateLaws.{get-remove}
use Rattle.dv_catalog.specs.Told.{told}
use Rattle.dv_catalog.specs.Inner.Told.{AreTold}
use Rattle.dv_catalog.specs.Views as creating
use Rattle.dv_catalog.specs.Views.{created, dropped, reads_name}
use Rattle.dv_catalog.proofs.Deleted.{NoLongerFound, all_go, all_go_placed}
use Rattle.dv_catalog.proofs.Keeping.{MadeAsTold, UnreadIsNoMatter, all_able, kept_after, kept_same_documents, reads_forms, view_forms}
use Rattle.dv_catalog.proofs.Keys.{before_ascending}
use Rattle.dv_catalog.proofs.Making.{less_state}

-- ---- one view less

third : {X : Type 0} (a b : Bool) (x y z : X) → a ≡ false → b ≡ false → (if a then x else if b then y else z) ≡ z
third true b x y z e f = absurd cc
third false true x y z e f = absurd cc
third false false x y z e f = refl

second : {X : Type 0} (a b : Bool) (x y z : X) → a ≡ false → b ≡ true → (if a then x else if b then y else z) ≡ y
second true b x y z e f = absurd cc
second false true x y z e f = refl
second false false x y z e f = absurd cc

module _ (name : List ℕ) (namespaces : Namespaces) (vs : Views) (none : is_collection name namespaces ≡ false) where
  view_drops : (b : Bool) → has_view name vs ≡ true → views.reads_name vs name ≡ b → dropped name (state_of namespaces vs) ≡ (if b then Err ReadByView else Ok (state_of namespaces (views_without name vs)))
  view_drops b there read =
      second (is_collection name namespaces) (is_view name (map view_form vs)) _ _ _ none (view_forms vs name ∙ there)
      ∙ (λ i. if (reads_forms vs name ∙ read) i then Err ReadByView else Ok (sym (less_state namespaces name vs) i))

  pub view_dropped : has_view name vs ≡ true → views.reads_name vs name ≡ false → dropped name (state_of namespaces vs) ≡ Ok (state_of namespaces (views_without name vs))
  view_dropped there read = view_drops false there read

  pub read_stays : has_view name vs ≡ true → views.reads_name vs name ≡ true → dropped name (state_of namespaces vs) ≡ Err ReadByView
  read_stays there read = view_drops true there read

  pub nothing_dropped : has_view name vs ≡ false → dropped name (state_of namespaces vs) ≡ Err NamespaceNotFound
  nothing_dropped no_view = third (is_collection name namespaces) (is_view name (map view_form vs)) _ _ _ none (view_forms vs name ∙ no_view)

-- ---- one collection less

gone_documents : (b : Bool) (there : Option Standing) → (collection_at (cond b None there)).documents ≡ cond b [] (collection_at there).documents
gone_documents true there = refl
gone_documents false there = refl

still_there : (b : Bool) (there : Option Standing) → is_some (cond b None there) ≡ true → is_some there ≡ true
still_there true there is = absurd cc
still_there false there is = is

pub all_can_go : NoLongerFound → (namespaces : Namespaces) (name : List ℕ) → AreOrdered (documents_of name namespaces) → AreAble (documents_of name namespaces) (all_gone (documents_of name namespaces))
all_can_go law namespaces name ordered =
    let documents = documents_of name namespaces in
    all_able documents (all_gone documents) (all_go_placed law documents (before_ascending documents ordered.0))

pub each_told : (ds : List (List Field)) → changes_told (gones_of ds) ≡ gone_each ds
each_told [] = refl
each_told (d ∷ ds) = ap (λ (rest : List flow.Change). Gone (own_position d) ∷ rest) (each_told ds)

pub not_a_view : (namespaces : Namespaces) (vs : Views) (name : List ℕ) → IsKept namespaces vs → is_collection name namespaces ≡ true → is_view name (map view_form vs) ≡ false
not_a_view namespaces vs name kept there = by_view (is_view name (map view_form vs)) refl
  where
    by_view : (b : Bool) → is_view name (map view_form vs) ≡ b → b ≡ false
    by_view true view = let none = kept.apart name view in absurd (cc (none, there))
    by_view false view = refl

module _ (made : MadeAsTold) (unread : UnreadIsNoMatter) (law : NoLongerFound) (old : Namespaces) (before after : Views) (name : List ℕ) (tell : List flow.Change) (all : List taking.Taken) (tells : changes_told all ≡ tell) where
  documents_gone : AreOrdered (documents_of name old) → (n : List ℕ) → documents_of n (finite.remove old name) ≡ cond (bytes_eq name n) (with_changes (documents_of name old) (all_gone (documents_of name old))) (documents_of n old)
  documents_gone ordered n =
      let all = all_go (documents_of name old) (before_ascending (documents_of name old) ordered.0) in
      ap (λ (there : Option Standing). (collection_at there).documents) (get-remove old name n)
      ∙ gone_documents (bytes_eq name n) (finite.get old n)
      ∙ ap (λ (ds : List (List Field)). cond (bytes_eq name n) ds (documents_of n old)) (sym all)

  pub kept_without : IsKept old before → AreOrdered (documents_of name old) → is_collection name old ≡ true → AreTold name before (documents_of name old) (all_gone (documents_of name old)) all → StaysRight name tell all before after → map view_form after ≡ map view_form before
      → IsKept (finite.remove old name) after
  kept_without kept ordered there are right forms =
      kept_after made unread old (finite.remove old name) before after name (all_gone (documents_of name old)) tell all kept ordered (all_can_go law old name ordered) (documents_gone ordered) tells are right forms (not_a_view old before name kept there)
      (λ n e. inr (still_there (bytes_eq name n) (finite.get old n) (ap is_some (sym (get-remove old name n)) ∙ e)))

-- ---- one more collection or view

there_or : (a b : Bool) → (a ≡ true) ⊎ (b ≡ true) → a || b ≡ true
there_or true b e = refl
there_or false b (inl e) = absurd cc
there_or false b (inr e) = e

pub is_taken : (name : List ℕ) (namespaces : Namespaces) (vs : Views) → (is_collection name namespaces ≡ true) ⊎ (has_view name vs ≡ true) → is_there name (state_of namespaces vs) ≡ true
is_taken name namespaces vs e = there_or (is_collection name namespaces) (is_view name (map view_form vs)) (by_side e)
  where
    by_side : (is_collection name namespaces ≡ true) ⊎ (has_view name vs ≡ true) → (is_collection name namespaces ≡ true) ⊎ (is_view name (map view_form vs) ≡ true)
    by_side (inl e) = inl e
    by_side (inr e) = inr (view_forms vs name ∙ e)

pub is_free : (name : List ℕ) (namespaces : Namespaces) (vs : Views) → is_collection name namespaces ≡ false → has_view name vs ≡ false → is_there name (state_of namespaces vs) ≡ false
is_free name namespaces vs none no_view =
    let here : is_view name (map view_form vs) ≡ false = view_forms vs name ∙ no_view in
    ap (λ (b : Bool). b || is_view name (map view_form vs)) none ∙ here

by_there : {X : Type 0} (b : Bool) (x y : X) → b ≡ true → (if b then x else y) ≡ x
by_there true x y e = refl
by_there false x y e = absurd cc

by_none : {X : Type 0} (b : Bool) (x y : X) → b ≡ false → (if b then x else y) ≡ y
by_none true x y e = absurd cc
by_none false x y e = refl

pub not_created : (name : List ℕ) (view : Option ViewOn) (state : State) → is_there name state ≡ true → created name view state ≡ Err NamespaceExists
not_created name view state e = by_there (is_there name state) (Err NamespaceExists) (creating.made name view state) e

pub created_is_made : (name : List ℕ) (view : Option ViewOn) (state : State) → is_there name state ≡ false → created name view state ≡ creating.made name view state
created_is_made name view state e = by_none (is_there name state) (Err NamespaceExists) (creating.made name view state) e

pub not_there : (there : Option Standing) → is_some there ≡ false → there ≡ None
not_there None none = refl
not_there (Some s) none = absurd cc

-- a collection without documents, in a namespace that has none
pub kept_empty : UnreadIsNoMatter → (name : List ℕ) (namespaces : Namespaces) (vs : Views) → finite.get namespaces name ≡ None → has_view name vs ≡ false → IsKept namespaces vs → IsKept (with_documents name [] namespaces) vs
kept_empty unread name namespaces vs none no_view kept =
    let nothing : [] ≡ documents_of name namespaces = sym (ap (λ (there : Option Standing). (collection_at there).documents) none) in
    kept_same_documents unread namespaces name (record (collection_of name namespaces) { documents = [] }) vs nothing (view_forms vs name ∙ no_view) kept
