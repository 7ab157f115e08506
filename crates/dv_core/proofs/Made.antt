-- Which documents are left after something is made under a namespace, or removed.
use Rattle.std.proofs.Common.{◌≡◌, ◌⊎◌, inl, inr, ℕ, Bool, true, false, cond, if◌then◌else◌, List, [], Option, Some, None, Result, Ok, Err, is_some, map, refl, sym, ap, subst, ◌∙◌}
use Rattle.std.proofs.lemmas.Slice.Eq.{bytes_eq-Decides}
use Rattle.std.specs.FinMap as finite
use Rattle.std.specs.Str.{bytes_eq}
use Rattle.std.proofs.lemmas.Bool.{or_parts}
use Rattle.dv_views.specs.Forms.{ViewForm}
use Rattle.dv_catalog.specs.State.{State, Standing, Namespaces, collection, collection_at, collection_of, documents_of, indexes_of, with_documents, with_indexes, without_view, is_collection, is_view, is_there}
use Rattle.dv_catalog.specs.IndexMaking.{indexes_created, indexes_dropped, with_all, without_named, with_indexes_so}
use Rattle.dv_keyed.specs.Index.{IndexForm}
use Rattle.dv_core.specs.Indexes.{form_asked}
use Rattle.dv_core.specs.State as core
use Rattle.dv_catalog.specs.Inner.StateLaws.{get-insert, get-remove}
use Rattle.dv_catalog.specs.Views.{created, dropped, made, reads_name, with_view, with_views}
use Rattle.dv_command.specs.Asked.{Asked, Create, Drop, ViewOn, create, drop, create_indexes, drop_indexes, asked_by}
use Rattle.dv_command.specs.declared.command.Command.{Command}
use Rattle.dv_core.specs.declared.outcome.Outcome.{Outcome}
use Rattle.dv_core.specs.Step.{asked_write, indexes}
use Rattle.dv_refusal.specs.declared.refusal.Refusal.{Refusal}
use Rattle.dv_refusal.specs.declared.refusal.Refusal.TheVariants.{NamespaceExists, NamespaceNotFound, OnView, ReadByView}
use Rattle.dv_core.proofs.Bare.{BareStep}
use Rattle.dv_core.proofs.Changed.{Made, others_made}

none_there : (there : Option Standing) → is_some there ≡ false → (collection_at there).documents ≡ []
none_there None e = refl
none_there (Some s) e = absurd cc

abbrev emptied : List ℕ → Namespaces → Standing
emptied namespace old = collection (record (collection_of namespace old) { documents = [] })

-- a collection without documents, put where there is none
empty_put : (old : Namespaces) (namespace : List ℕ) → is_collection namespace old ≡ false → (name : List ℕ) → documents_of name (with_documents namespace [] old) ≡ documents_of name old
empty_put old namespace none name =
    ap (λ (there : Option Standing). (collection_at there).documents) (get-insert old namespace (emptied namespace old) name) ∙ by_name (bytes_eq namespace name) refl
  where
    by_name : (b : Bool) → bytes_eq namespace name ≡ b → (collection_at (cond b (Some (emptied namespace old)) (finite.get old name))).documents ≡ documents_of name old
    by_name true same = sym (none_there (finite.get old name) (subst (λ (n : List ℕ). is_collection n old ≡ false) ((bytes_eq-Decides namespace name).0 same) none))
    by_name false other = refl

abbrev with_more : List ℕ → Namespaces → List IndexForm → Standing
with_more namespace old indexes = collection (record (collection_of namespace old) { indexes = indexes })

-- a change of indexes leaves the documents unchanged
indexes_put : (old : Namespaces) (namespace : List ℕ) (indexes : List IndexForm) (name : List ℕ) → documents_of name (with_indexes namespace indexes old) ≡ documents_of name old
indexes_put old namespace indexes name =
    ap (λ (there : Option Standing). (collection_at there).documents) (get-insert old namespace (with_more namespace old indexes) name) ∙ by_name (bytes_eq namespace name) refl
  where
    by_name : (b : Bool) → bytes_eq namespace name ≡ b → (collection_at (cond b (Some (with_more namespace old indexes)) (finite.get old name))).documents ≡ documents_of name old
    by_name true same = ap (λ (n : List ℕ). documents_of n old) ((bytes_eq-Decides namespace name).0 same)
    by_name false other = refl

-- the views and the documents are unchanged
pub record LeavesDocuments (old new : State) : Type 0 where
  pub views : new.views ≡ old.views
  pub documents : (name : List ℕ) → documents_of name new.namespaces ≡ documents_of name old.namespaces

indexes_so : (old new : State) (namespace : List ℕ) (made : Result (List IndexForm) Refusal) → with_indexes_so namespace made old ≡ Ok new → LeavesDocuments old new
indexes_so old new namespace (Ok indexes) is =
    let same : new ≡ record old { namespaces = with_indexes namespace indexes old.namespaces } = cc in
    record { views = ap (λ (s : State). s.views) same; documents = λ name. ap (λ (s : State). documents_of name s.namespaces) same ∙ indexes_put old.namespaces namespace indexes name }
indexes_so old new namespace (Err refusal) is = absurd cc

pub created_so : (old new : State) (namespace : List ℕ) (entries : List IndexForm) → indexes_created namespace entries old ≡ Ok new → LeavesDocuments old new
created_so old new namespace entries is = by_view (is_view namespace old.views) is
  where
    by_view : (b : Bool) → (if b then Err OnView else with_indexes_so namespace (with_all entries (collection_of namespace old.namespaces)) old) ≡ Ok new → LeavesDocuments old new
    by_view true is = absurd cc
    by_view false is = indexes_so old new namespace (with_all entries (collection_of namespace old.namespaces)) is

pub dropped_so : (old new : State) (namespace name : List ℕ) → indexes_dropped namespace name old ≡ Ok new → LeavesDocuments old new
dropped_so old new namespace name is = by_there (is_view namespace old.views) (is_collection namespace old.namespaces) is
  where
    by_there : (b there : Bool) → (if b then Err OnView else if there then with_indexes_so namespace (without_named name (indexes_of namespace old.namespaces)) old else Err NamespaceNotFound) ≡ Ok new → LeavesDocuments old new
    by_there true there is = absurd cc
    by_there false true is = indexes_so old new namespace (without_named name (indexes_of namespace old.namespaces)) is
    by_there false false is = absurd cc

pub views_only : (old new : State) (result : Result (List ViewForm) Refusal) → with_views old result ≡ Ok new → new.namespaces ≡ old.namespaces
views_only old new (Ok views) is = let same : new ≡ record old { views = views } = cc in ap (λ (s : State). s.namespaces) same
views_only old new (Err refusal) is = absurd cc

pub created_documents : (old new : State) (namespace : List ℕ) (view : Option ViewOn) → created namespace view old ≡ Ok new → (name : List ℕ) → documents_of name new.namespaces ≡ documents_of name old.namespaces
created_documents old new namespace view is name = by_there (is_there namespace old) refl is
  where
    as_made : (view : Option ViewOn) → is_there namespace old ≡ false → made namespace view old ≡ Ok new → documents_of name new.namespaces ≡ documents_of name old.namespaces
    as_made None none is =
        let same : new ≡ record old { namespaces = with_documents namespace [] old.namespaces } = cc in
        ap (λ (s : State). documents_of name s.namespaces) same ∙ empty_put old.namespaces namespace (or_parts (is_collection namespace old.namespaces) (is_view namespace old.views) none).0 name
    as_made (Some on) none is = ap (documents_of name) (views_only old new (with_view (record { name = namespace; source = on.source; stages = on.stages }) old.views) is)

    by_there : (b : Bool) → is_there namespace old ≡ b → (if b then Err NamespaceExists else made namespace view old) ≡ Ok new → documents_of name new.namespaces ≡ documents_of name old.namespaces
    by_there true there is = absurd cc
    by_there false none is = as_made view none is

-- a drop leaves none or all of the documents under its namespace, and all of those under others
pub dropped_documents : (old new : State) (namespace : List ℕ) → dropped namespace old ≡ Ok new → (name : List ℕ)
    → documents_of name new.namespaces ≡ (if bytes_eq namespace name then [] else documents_of name old.namespaces) ⊎ (documents_of name new.namespaces ≡ documents_of name old.namespaces)
dropped_documents old new namespace is name = by_collection (is_collection namespace old.namespaces) is
  where
    at_name : (b : Bool) → (collection_at (cond b None (finite.get old.namespaces name))).documents ≡ (if b then [] else documents_of name old.namespaces)
    at_name true = refl
    at_name false = refl

    by_view : (b read : Bool) → (if b then (if read then Err ReadByView else Ok (record old { views = without_view namespace old.views })) else Err NamespaceNotFound) ≡ Ok new → documents_of name new.namespaces ≡ documents_of name old.namespaces
    by_view true true is = absurd cc
    by_view true false is = let same : new ≡ record old { views = without_view namespace old.views } = cc in ap (λ (s : State). documents_of name s.namespaces) same
    by_view false read is = absurd cc

    by_collection : (b : Bool)
        → (if b then Ok (record old { namespaces = finite.remove old.namespaces namespace }) else if is_view namespace old.views then (if reads_name old.views namespace then Err ReadByView else Ok (record old { views = without_view namespace old.views })) else Err NamespaceNotFound) ≡ Ok new
        → documents_of name new.namespaces ≡ (if bytes_eq namespace name then [] else documents_of name old.namespaces) ⊎ (documents_of name new.namespaces ≡ documents_of name old.namespaces)
    by_collection true is =
        let same : new ≡ record old { namespaces = finite.remove old.namespaces namespace } = cc in
        inl (
        ap (λ (s : State). documents_of name s.namespaces) same
        ∙ ap (λ (there : Option Standing). (collection_at there).documents) (get-remove old.namespaces namespace name) ∙ at_name (bytes_eq namespace name)
        )
    by_collection false is = inr (by_view (is_view namespace old.views) (reads_name old.views namespace) is)

pub dropped_others : (old new : State) (namespace name : List ℕ) → dropped namespace old ≡ Ok new → bytes_eq namespace name ≡ false → documents_of name new.namespaces ≡ documents_of name old.namespaces
dropped_others old new namespace name is other = either (dropped_documents old new namespace is name)
  where
    either : documents_of name new.namespaces ≡ (if bytes_eq namespace name then [] else documents_of name old.namespaces) ⊎ (documents_of name new.namespaces ≡ documents_of name old.namespaces)
        → documents_of name new.namespaces ≡ documents_of name old.namespaces
    either (inl is) = is ∙ rw other refl
    either (inr is) = is

-- ---- create, drop, createIndexes and dropIndexes, whatever their replies are

pub create_leaves : (old new : core.State) (session : ℕ) (command : Command) (asked : Create) (outcome : Outcome) → asked_by command ≡ Ok (create asked) → BareStep old session command outcome new → (namespace : List ℕ)
    → documents_of namespace new.catalog.namespaces ≡ documents_of namespace old.catalog.namespaces
create_leaves old new session command asked outcome asks steps namespace = either (others_made old new session command (create asked) outcome asks refl steps)
  where
    either : (new ≡ old) ⊎ Made old (create asked) new → documents_of namespace new.catalog.namespaces ≡ documents_of namespace old.catalog.namespaces
    either (inl same) = ap (λ (s : core.State). documents_of namespace s.catalog.namespaces) same
    either (inr made) = created_documents old.catalog new.catalog asked.namespace asked.view made.0 namespace

pub drop_leaves : (old new : core.State) (session : ℕ) (command : Command) (asked : Drop) (outcome : Outcome) → asked_by command ≡ Ok (drop asked) → BareStep old session command outcome new → (namespace : List ℕ)
    → bytes_eq asked.namespace namespace ≡ false → documents_of namespace new.catalog.namespaces ≡ documents_of namespace old.catalog.namespaces
drop_leaves old new session command asked outcome asks steps namespace other = either (others_made old new session command (drop asked) outcome asks refl steps)
  where
    either : (new ≡ old) ⊎ Made old (drop asked) new → documents_of namespace new.catalog.namespaces ≡ documents_of namespace old.catalog.namespaces
    either (inl same) = ap (λ (s : core.State). documents_of namespace s.catalog.namespaces) same
    either (inr made) = dropped_others old.catalog new.catalog asked.namespace namespace made.0 other

made_indexes : (old new : core.State) (asked : Asked) → indexes asked ≡ true → Made old asked new → LeavesDocuments old.catalog new.catalog
made_indexes old new (create_indexes c) is made = created_so old.catalog new.catalog c.namespace (map form_asked c.indexes) made.0
made_indexes old new (drop_indexes d) is made = dropped_so old.catalog new.catalog d.namespace d.index made.0
made_indexes old new asked is made = absurd cc

no_write : (asked : Asked) → indexes asked ≡ true → asked_write asked ≡ None
no_write (create_indexes c) is = refl
no_write (drop_indexes d) is = refl
no_write asked is = absurd cc

pub indexing_leaves : (old new : core.State) (session : ℕ) (command : Command) (asked : Asked) (outcome : Outcome) → asked_by command ≡ Ok asked → indexes asked ≡ true → BareStep old session command outcome new
    → (new.catalog.views ≡ old.catalog.views) × ((namespace : List ℕ) → documents_of namespace new.catalog.namespaces ≡ documents_of namespace old.catalog.namespaces)
indexing_leaves old new session command asked outcome asks is steps = either (others_made old new session command asked outcome asks (no_write asked is) steps)
  where
    either : (new ≡ old) ⊎ Made old asked new → (new.catalog.views ≡ old.catalog.views) × ((namespace : List ℕ) → documents_of namespace new.catalog.namespaces ≡ documents_of namespace old.catalog.namespaces)
    either (inl same) = (ap (λ (s : core.State). s.catalog.views) same, λ namespace. ap (λ (s : core.State). documents_of namespace s.catalog.namespaces) same)
    either (inr made) = let leaves = made_indexes old new asked is made in (leaves.views, leaves.documents)
