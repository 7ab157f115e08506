-- Views stay right over collections that change.
use Rattle.std.proofs.Common.{◌≡◌, ◌⊎◌, inl, inr, ◌||◌, ℕ, Bool, true, false, cond, if◌then◌else◌, List, [], ◌∷◌, map, Option, Some, is_some, Result, Ok, Err, refl, sym, ap, subst, ◌∙◌}
use Rattle.std.proofs.lemmas.Slice.Eq.{bytes_eq-Decides}
use Rattle.std.specs.FinMap as finite
use Rattle.std.specs.List.{AllByRecursion}
use Rattle.std.specs.Str.{bytes_eq}
use Rattle.dv_value.specs.Tree.{Field}
use Rattle.dv_change.specs.declared.change.Change as flow
use Rattle.dv_change.specs.declared.taking.Taken as taking
use Rattle.dv_change.specs.Inner.Told.{changes_told}
use Rattle.dv_pipe.specs.Stages.{Lists}
use Rattle.dv_views.specs.Changed.{documents_changed, with_changed}
use Rattle.dv_views.specs.Inner.Applied.{StaysRight}
use Rattle.dv_views.specs.Inner.Changed.{AreMade, AreToldOf}
use Rattle.dv_views.specs.Placed.{positioned}
use Rattle.dv_views.specs.Forms.{ViewForm}
use Rattle.dv_views.specs.Inner.Views.{AreRight, Views, view_form}
use Rattle.dv_views.specs.Inner.Views as views
use Rattle.dv_catalog.specs.Inner.CatalogParts.{IsKept}
use Rattle.dv_catalog.specs.Changes.{Change, Effect, put, gone, apply, changes_of, with_change, with_changes}
use Rattle.dv_catalog.specs.Inner.EffectView.{AreAble, ArePlaced, BeginsWithId, IsAble, IsPlaced}
use Rattle.dv_catalog.specs.Effects.{put_new}
use Rattle.dv_coll.specs.Collection.{found, id_key}
use Rattle.dv_refusal.specs.declared.refusal.Refusal.{Refusal}
use Rattle.dv_refusal.specs.declared.refusal.Refusal.TheVariants.{DuplicateKey}
use Rattle.dv_catalog.specs.State.{AreOrdered, Collection, Namespaces, Standing, collection, collection_at, collection_of, documents_of, is_collection, is_view, lists_of}
use Rattle.dv_catalog.specs.Inner.StateLaws.{get-insert}
use Rattle.dv_catalog.specs.Told.{told}
use Rattle.dv_catalog.specs.Inner.Told.{AreTold, AreToldSo}
use Rattle.dv_catalog.specs.Views.{reads_name}

-- ---- views and their forms

pub reads_forms : (registry : Views) (name : List ℕ) → reads_name (map view_form registry) name ≡ views.reads_name registry name
reads_forms [] name = refl
reads_forms (v ∷ vs) name = ap (λ (b : Bool). views.reads v name || b) (reads_forms vs name)

pub view_forms : (registry : Views) (name : List ℕ) → is_view name (map view_form registry) ≡ views.has_view name registry
view_forms [] name = refl
view_forms (v ∷ vs) name = ap (λ (b : Bool). bytes_eq name v.name || b) (view_forms vs name)

-- ---- what changes leave under each namespace

is_same : (a b : List ℕ) → bytes_eq a b ≡ true → a ≡ b
is_same a b e = (bytes_eq-Decides a b).0 e

put_documents : (b : Bool) (c : Collection) (there : Option Standing) → (collection_at (cond b (Some (collection c)) there)).documents ≡ cond b c.documents (collection_at there).documents
put_documents true c there = refl
put_documents false c there = refl

own_documents : (b : Bool) (old : Namespaces) (namespace name : List ℕ) → bytes_eq namespace name ≡ b → documents_of name old ≡ cond b (documents_of namespace old) (documents_of name old)
own_documents true old namespace name e = ap (λ (n : List ℕ). documents_of n old) (sym (is_same namespace name e))
own_documents false old namespace name e = refl

-- with a collection put under a namespace
pub documents_put : (old : Namespaces) (namespace : List ℕ) (c : Collection) (name : List ℕ) → documents_of name (finite.insert old namespace (collection c)) ≡ cond (bytes_eq namespace name) c.documents (documents_of name old)
documents_put old namespace c name =
    ap (λ (there : Option Standing). (collection_at there).documents) (get-insert old namespace (collection c) name) ∙ put_documents (bytes_eq namespace name) c (finite.get old name)

pub documents_after : (old : Namespaces) (namespace : List ℕ) (changes : List Change) (name : List ℕ) → documents_of name (apply namespace changes old) ≡ cond (bytes_eq namespace name) (with_changes (documents_of namespace old) changes) (documents_of name old)
documents_after old namespace [] name = own_documents (bytes_eq namespace name) old namespace name refl
documents_after old namespace (change ∷ changes) name = documents_put old namespace (record (collection_of namespace old) { documents = with_changes (documents_of namespace old) (change ∷ changes) }) name

there_after : (b : Bool) (s : Standing) (there : Option Standing) → is_some (cond b (Some s) there) ≡ true → (b ≡ true) ⊎ (is_some there ≡ true)
there_after true s there e = inl refl
there_after false s there e = inr e

pub put_there : (old : Namespaces) (namespace : List ℕ) (c : Collection) (name : List ℕ) → is_collection name (finite.insert old namespace (collection c)) ≡ true → (bytes_eq namespace name ≡ true) ⊎ (is_collection name old ≡ true)
put_there old namespace c name e = there_after (bytes_eq namespace name) (collection c) (finite.get old name) (ap is_some (sym (get-insert old namespace (collection c) name)) ∙ e)

pub collections_after : (old : Namespaces) (namespace : List ℕ) (changes : List Change) (name : List ℕ) → is_collection name (apply namespace changes old) ≡ true → (bytes_eq namespace name ≡ true) ⊎ (is_collection name old ≡ true)
collections_after old namespace [] name e = inr e
collections_after old namespace (change ∷ changes) name e = put_there old namespace (record (collection_of namespace old) { documents = with_changes (documents_of namespace old) (change ∷ changes) }) name e

-- ---- changes that are placed can be made

able_placed : (documents : List (List Field)) (change : Change) → IsPlaced documents change → IsAble documents change
able_placed documents change placed = by_kind change placed
  where
    by_kind : (c : Change) → IsPlaced documents c → IsAble documents c
    by_kind (put d) placed = placed.0
    by_kind (gone k) placed = placed

pub all_able : (documents : List (List Field)) (changes : List Change) → ArePlaced documents changes → AreAble documents changes
all_able documents [] placed = tt
all_able documents (change ∷ changes) placed = (able_placed documents change placed.0, all_able (with_change documents change) changes placed.1)

-- ---- after changes

abbrev pub MadeAsTold : Type 0
MadeAsTold = (documents : List (List Field)) (changes : List Change) → AreOrdered documents → AreAble documents changes → AreMade (map told changes) documents × (documents_changed (map told changes) documents ≡ with_changes documents changes)

abbrev pub UnreadIsNoMatter : Type 0
UnreadIsNoMatter = (registry : Views) (lists others : Lists) → ((name : List ℕ) → views.reads_name registry name ≡ true → lists name ≡ others name) → AreRight lists registry → AreRight others registry

module _ (made : MadeAsTold) (unread : UnreadIsNoMatter) (old new : Namespaces) (before after : Views) (namespace : List ℕ) (changes : List Change) (tell : List flow.Change) (all : List taking.Taken) (kept : IsKept old before)
    (ordered : AreOrdered (documents_of namespace old)) (able : AreAble (documents_of namespace old) changes)
    (documents : (name : List ℕ) → documents_of name new ≡ cond (bytes_eq namespace name) (with_changes (documents_of namespace old) changes) (documents_of name old)) (tells : changes_told all ≡ tell) (are : AreTold namespace before (documents_of namespace old) changes all)
    (right : StaysRight namespace tell all before after) (forms : map view_form after ≡ map view_form before) where
  told_lists : (b : Bool) (name : List ℕ) → bytes_eq namespace name ≡ b → documents_changed (map told changes) (documents_of namespace old) ≡ with_changes (documents_of namespace old) changes
      → (if b then documents_changed (map told changes) (documents_of name old) else documents_of name old) ≡ cond b (with_changes (documents_of namespace old) changes) (documents_of name old)
  told_lists true name e is = ap (λ (n : List ℕ). documents_changed (map told changes) (documents_of n old)) (sym (is_same namespace name e)) ∙ is
  told_lists false name e is = refl

  right_told : AreToldSo (documents_of namespace old) changes all → AreRight (lists_of new) after
  right_told so =
      let is : tell ≡ map told changes = sym tells ∙ so.changes_are in
      let both = made (documents_of namespace old) changes ordered able in
      let stays : AreRight (with_changed namespace tell (lists_of old)) after = right (lists_of old) (subst (λ (cs : List flow.Change). AreMade cs (documents_of namespace old)) (sym is) both.0) so.olds kept.right in
      let lists : with_changed namespace tell (lists_of old) ≡ lists_of new =
      ap (λ (cs : List flow.Change). with_changed namespace cs (lists_of old)) is ∙ (λ i name. (told_lists (bytes_eq namespace name) name refl both.1 ∙ sym (documents name)) i) in
      subst (λ (lists : Lists). AreRight lists after) lists stays

  nothing_told : (b : Bool) (name : List ℕ) → bytes_eq namespace name ≡ b → views.reads_name before namespace ≡ false → views.reads_name after name ≡ true
      → documents_changed [] (documents_of namespace old) ≡ documents_of namespace old
      → (if b then documents_changed [] (documents_of name old) else documents_of name old) ≡ cond b (with_changes (documents_of namespace old) changes) (documents_of name old)
  nothing_told true name e not_read read is =
      let same : views.reads_name after name ≡ views.reads_name before name = sym (reads_forms after name) ∙ ap (λ (vs : List ViewForm). reads_name vs name) forms ∙ reads_forms before name in
      let here : views.reads_name before name ≡ false = subst (λ (n : List ℕ). views.reads_name before n ≡ false) (is_same namespace name e) not_read in
      absurd (cc (same, here, read))
  nothing_told false name e not_read read is = refl

  right_unread : all ≡ [] → views.reads_name before namespace ≡ false → AreRight (lists_of new) after
  right_unread none not_read =
      let is : tell ≡ [] = sym tells ∙ ap changes_told none in
      let olds = subst (λ (ts : List taking.Taken). AreToldOf (positioned (documents_of namespace old)) ts) (sym none) tt in
      let nothing = made (documents_of namespace old) [] ordered tt in
      let stays : AreRight (with_changed namespace [] (lists_of old)) after =
      subst (λ (cs : List flow.Change). AreRight (with_changed namespace cs (lists_of old)) after) is (right (lists_of old) (subst (λ (cs : List flow.Change). AreMade cs (documents_of namespace old)) (sym is) nothing.0) olds kept.right) in
      unread after (with_changed namespace [] (lists_of old)) (lists_of new) (λ name read. nothing_told (bytes_eq namespace name) name refl not_read read nothing.1 ∙ sym (documents name)) stays

  pub right_after : AreRight (lists_of new) after
  right_after = by_told are
    where
      by_told : AreTold namespace before (documents_of namespace old) changes all → AreRight (lists_of new) after
      by_told (inl so) = right_told so
      by_told (inr (is, not_read)) = right_unread is not_read

  apart_after : is_view namespace (map view_form before) ≡ false → ((name : List ℕ) → is_collection name new ≡ true → (bytes_eq namespace name ≡ true) ⊎ (is_collection name old ≡ true))
      → (name : List ℕ) → is_view name (map view_form before) ≡ true → is_collection name new ≡ false
  apart_after no_view collections name view = by_there (is_collection name new) refl
    where
      no : (bytes_eq namespace name ≡ true) ⊎ (is_collection name old ≡ true) → ⊥
      no (inl e) = let none : is_view name (map view_form before) ≡ false = subst (λ (n : List ℕ). is_view n (map view_form before) ≡ false) (is_same namespace name e) no_view in cc
      no (inr e) = cc (kept.apart name view, e)

      by_there : (b : Bool) → is_collection name new ≡ b → b ≡ false
      by_there true e = absurd (no (collections name e))
      by_there false e = refl

  pub kept_after : is_view namespace (map view_form before) ≡ false → ((name : List ℕ) → is_collection name new ≡ true → (bytes_eq namespace name ≡ true) ⊎ (is_collection name old ≡ true)) → IsKept new after
  kept_after no_view collections = record {
    right = right_after;
    apart = λ name view. apart_after no_view collections name (subst (λ (fs : List ViewForm). is_view name fs ≡ true) forms view);
  }

-- ---- a collection put under a namespace with the documents that are there

module _ (unread : UnreadIsNoMatter) (old : Namespaces) (namespace : List ℕ) (c : Collection) (vs : Views) (same : c.documents ≡ documents_of namespace old) where
  same_lists : (name : List ℕ) → documents_of name old ≡ documents_of name (finite.insert old namespace (collection c))
  same_lists name =
      own_documents (bytes_eq namespace name) old namespace name refl
      ∙ ap (λ (ds : List (List Field)). cond (bytes_eq namespace name) ds (documents_of name old)) (sym same)
      ∙ sym (documents_put old namespace c name)

  pub kept_same_documents : is_view namespace (map view_form vs) ≡ false → IsKept old vs → IsKept (finite.insert old namespace (collection c)) vs
  kept_same_documents no_view kept = record {
    right = unread vs (lists_of old) (lists_of (finite.insert old namespace (collection c))) (λ name _. same_lists name) kept.right;
    apart = λ name view. apart_put name view (is_collection name (finite.insert old namespace (collection c))) refl;
  }
    where
      apart_put : (name : List ℕ) → is_view name (map view_form vs) ≡ true → (b : Bool) → is_collection name (finite.insert old namespace (collection c)) ≡ b → b ≡ false
      apart_put name view false e = refl
      apart_put name view true e = by_side (put_there old namespace c name e)
        where
          by_side : (bytes_eq namespace name ≡ true) ⊎ (is_collection name old ≡ true) → true ≡ false
          by_side (inl named) =
              let here : is_view name (map view_form vs) ≡ false = subst (λ (n : List ℕ). is_view n (map view_form vs) ≡ false) (is_same namespace name named) no_view in
              cc
          by_side (inr there) = let none = kept.apart name view in cc

-- ---- the changes of a statement

placed_begins : (documents : List (List Field)) (change : Change) → IsPlaced documents change → BeginsWithId change
placed_begins documents (put d) placed = placed.0
placed_begins documents (gone k) placed = tt

pub all_begin : (documents : List (List Field)) (changes : List Change) → ArePlaced documents changes → AllByRecursion BeginsWithId changes
all_begin documents [] placed = tt
all_begin documents (change ∷ changes) placed = (placed_begins documents change placed.0, all_begin (with_change documents change) changes placed.1)

-- the insertion of a new document is one put
pub new_put : (d : List Field) (documents : List (List Field)) (changes : List Change) → put_new d documents ≡ Ok (record { matched = 1; changes = changes }) → changes ≡ put d ∷ []
new_put d documents changes is = by_found (is_some (found (id_key d) documents)) is
  where
    by_found : (b : Bool) → (let result : Result Effect Refusal = if b then Err DuplicateKey else Ok (record { matched = 1; changes = put d ∷ [] }) in result ≡ Ok (record { matched = 1; changes = changes })) → changes ≡ put d ∷ []
    by_found true is = absurd cc
    by_found false is = sym (ap changes_of is)

-- no document has the `_id` of a new document
pub new_fresh : (d : List Field) (documents : List (List Field)) (changes : List Change) → put_new d documents ≡ Ok (record { matched = 1; changes = changes }) → is_some (found (id_key d) documents) ≡ false
new_fresh d documents changes is = by_found (is_some (found (id_key d) documents)) is
  where
    by_found : (b : Bool) → (let result : Result Effect Refusal = if b then Err DuplicateKey else Ok (record { matched = 1; changes = put d ∷ [] }) in result ≡ Ok (record { matched = 1; changes = changes })) → b ≡ false
    by_found true is = absurd cc
    by_found false is = refl
