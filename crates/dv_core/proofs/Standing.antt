-- What holds of the collection of each namespace, if one is put or removed, and if commands make or drop something.
use Rattle.std.proofs.Common.{◌≡◌, ℕ, Bool, true, false, cond, if◌then◌else◌, List, [], map, Option, Some, None, Result, Ok, Err, refl, sym, subst}
use Rattle.std.proofs.lemmas.Slice.Eq.{bytes_eq-Decides}
use Rattle.std.specs.FinMap as finite
use Rattle.std.specs.Str.{bytes_eq}
use Rattle.dv_value.specs.Tree.{Field}
use Rattle.dv_catalog.specs.IndexMaking.{indexes_created, indexes_dropped, with_all, with_indexes_so, without_named}
use Rattle.dv_catalog.specs.State.{Collection, Namespaces, Standing, State, collection, collection_at, collection_of, indexes_of, is_collection, is_there, is_view, with_documents, with_indexes, without_view}
use Rattle.dv_catalog.specs.Inner.StateLaws.{get-insert, get-remove}
use Rattle.dv_catalog.specs.Views.{made, reads_name, with_view}
use Rattle.dv_command.specs.Asked.{Asked, ViewOn, create, drop, create_indexes, drop_indexes}
use Rattle.dv_core.specs.Indexes.{form_asked}
use Rattle.dv_core.specs.State as core
use Rattle.dv_core.proofs.Changed.{Made}
use Rattle.dv_core.proofs.Made.{views_only}
use Rattle.dv_refusal.specs.declared.refusal.Refusal.{Refusal}
use Rattle.dv_refusal.specs.declared.refusal.Refusal.TheVariants.{NamespaceExists, NamespaceNotFound, OnView, ReadByView}
use Rattle.dv_keyed.specs.Index.{IndexForm}
use Rattle.dv_index.specs.Indexed.{empty_indexed}

-- the indexes that a command leaves a collection with
abbrev pub indexes_by : Asked → Collection → Result (List IndexForm) Refusal
indexes_by (create_indexes asked) c = with_all (map form_asked asked.indexes) c
indexes_by (drop_indexes asked) c = without_named asked.index c.indexes
indexes_by asked c = Ok c.indexes

module _ (P : List ℕ → Collection → Type 0) where
  abbrev pub Stands : Namespaces → Type 0
  Stands namespaces = (name : List ℕ) → P name (collection_of name namespaces)

  either_stands : (b : Bool) (name : List ℕ) (now before : Option Standing) → (b ≡ true → P name (collection_at now)) → P name (collection_at before) → P name (collection_at (cond b now before))
  either_stands true name now before new old = new refl
  either_stands false name now before new old = old

  pub put_stands : (namespace : List ℕ) (c : Collection) (namespaces : Namespaces) → Stands namespaces → P namespace c → Stands (finite.insert namespaces namespace (collection c))
  put_stands namespace c namespaces all this name =
      subst (λ (there : Option Standing). P name (collection_at there)) (sym (get-insert namespaces namespace (collection c) name))
      (either_stands (bytes_eq namespace name) name (Some (collection c)) (finite.get namespaces name) (λ same. subst (λ (n : List ℕ). P n c) ((bytes_eq-Decides namespace name).0 same) this) (all name))

  removed_stands : (namespace : List ℕ) (namespaces : Namespaces) → ((name : List ℕ) → P name empty_indexed) → Stands namespaces → Stands (finite.remove namespaces namespace)
  removed_stands namespace namespaces none all name =
      subst (λ (there : Option Standing). P name (collection_at there)) (sym (get-remove namespaces namespace name))
      (either_stands (bytes_eq namespace name) name None (finite.get namespaces name) (λ same. none name) (all name))

  -- ---- what is made, and what is left

  -- the collection of a namespace keeps the property with these indexes, if they are made
  abbrev StandsWith : List ℕ → Namespaces → Result (List IndexForm) Refusal → Type 0
  StandsWith namespace namespaces indexes = (made : List IndexForm) → indexes ≡ Ok made → P namespace (record (collection_of namespace namespaces) { indexes = made })

  module _ (old new : State) (all : Stands old.namespaces) where
    as_made : (state : State) → state ≡ new → Stands state.namespaces → Stands new.namespaces
    as_made state same stands = subst (λ (s : State). Stands s.namespaces) same stands

    indexes_stand : (namespace : List ℕ) (indexes : Result (List IndexForm) Refusal) → StandsWith namespace old.namespaces indexes → with_indexes_so namespace indexes old ≡ Ok new → Stands new.namespaces
    indexes_stand namespace (Ok made) stands is =
        let same : record old { namespaces = with_indexes namespace made old.namespaces } ≡ new = cc in
        as_made (record old { namespaces = with_indexes namespace made old.namespaces }) same
        (put_stands namespace (record (collection_of namespace old.namespaces) { indexes = made }) old.namespaces all (stands made refl))
    indexes_stand namespace (Err refusal) stands is = absurd cc

    indexes_made : (namespace : List ℕ) (entries : List IndexForm) → StandsWith namespace old.namespaces (with_all entries (collection_of namespace old.namespaces)) → indexes_created namespace entries old ≡ Ok new → Stands new.namespaces
    indexes_made namespace entries stands is = by_view (is_view namespace old.views) is
      where
        by_view : (b : Bool) → (if b then Err OnView else with_indexes_so namespace (with_all entries (collection_of namespace old.namespaces)) old) ≡ Ok new → Stands new.namespaces
        by_view true is = absurd cc
        by_view false is = indexes_stand namespace (with_all entries (collection_of namespace old.namespaces)) stands is

    indexes_left : (namespace name : List ℕ) → StandsWith namespace old.namespaces (without_named name (indexes_of namespace old.namespaces)) → indexes_dropped namespace name old ≡ Ok new → Stands new.namespaces
    indexes_left namespace name stands is = by_there (is_view namespace old.views) (is_collection namespace old.namespaces) is
      where
        by_there : (b there : Bool) → (if b then Err OnView else if there then with_indexes_so namespace (without_named name (indexes_of namespace old.namespaces)) old else Err NamespaceNotFound) ≡ Ok new → Stands new.namespaces
        by_there true there is = absurd cc
        by_there false true is = indexes_stand namespace (without_named name (indexes_of namespace old.namespaces)) stands is
        by_there false false is = absurd cc

    created_stands : (namespace : List ℕ) (view : Option ViewOn) (b : Bool) → P namespace (record (collection_of namespace old.namespaces) { documents = [] }) → (if b then Err NamespaceExists else made namespace view old) ≡ Ok new → Stands new.namespaces
    created_stands namespace view true emptied is = absurd cc
    created_stands namespace None false emptied is =
        let same : record old { namespaces = with_documents namespace [] old.namespaces } ≡ new = cc in
        as_made (record old { namespaces = with_documents namespace [] old.namespaces }) same
        (put_stands namespace (record (collection_of namespace old.namespaces) { documents = [] }) old.namespaces all emptied)
    created_stands namespace (Some on) false emptied is =
        subst Stands (sym (views_only old new (with_view (record { name = namespace; source = on.source; stages = on.stages }) old.views) is)) all

    dropped_stands : (namespace : List ℕ) (a b read : Bool) → ((name : List ℕ) → P name empty_indexed)
        → (if a then Ok (record old { namespaces = finite.remove old.namespaces namespace }) else if b then (if read then Err ReadByView else Ok (record old { views = without_view namespace old.views })) else Err NamespaceNotFound) ≡ Ok new
        → Stands new.namespaces
    dropped_stands namespace true b read none is =
        let same : record old { namespaces = finite.remove old.namespaces namespace } ≡ new = cc in
        as_made (record old { namespaces = finite.remove old.namespaces namespace }) same (removed_stands namespace old.namespaces none all)
    dropped_stands namespace false true true none is = absurd cc
    dropped_stands namespace false true false none is = let same : record old { views = without_view namespace old.views } ≡ new = cc in as_made (record old { views = without_view namespace old.views }) same all
    dropped_stands namespace false false read none is = absurd cc

  -- the property holds of a new collection; and a collection keeps it without its documents, and with the indexes that a command
  -- leaves it with
  pub record IsKeptBy (what : Asked) : Type 0 where
    pub none : (name : List ℕ) → P name empty_indexed
    pub emptied : (name : List ℕ) (c : Collection) → P name c → P name (record c { documents = [] })
    pub indexed : (name : List ℕ) (c : Collection) (indexes : List IndexForm) → indexes_by what c ≡ Ok indexes → P name c → P name (record c { indexes = indexes })

  pub made_stands : (old new : core.State) (what : Asked) → IsKeptBy what → Made old what new → Stands old.catalog.namespaces → Stands new.catalog.namespaces
  made_stands old new (create c) keeps made all =
      created_stands old.catalog new.catalog all c.namespace c.view (is_there c.namespace old.catalog) (keeps.emptied c.namespace (collection_of c.namespace old.catalog.namespaces) (all c.namespace)) made.0
  made_stands old new (drop d) keeps made all = dropped_stands old.catalog new.catalog all d.namespace (is_collection d.namespace old.catalog.namespaces) (is_view d.namespace old.catalog.views) (reads_name old.catalog.views d.namespace) keeps.none made.0
  made_stands old new (create_indexes c) keeps made all =
      indexes_made old.catalog new.catalog all c.namespace (map form_asked c.indexes)
      (λ indexes is. keeps.indexed c.namespace (collection_of c.namespace old.catalog.namespaces) indexes is (all c.namespace)) made.0
  made_stands old new (drop_indexes d) keeps made all =
      indexes_left old.catalog new.catalog all d.namespace d.index
      (λ indexes is. keeps.indexed d.namespace (collection_of d.namespace old.catalog.namespaces) indexes is (all d.namespace)) made.0
  made_stands old new what keeps made all = subst (λ (s : State). Stands s.namespaces) (sym made.1) all

-- a property of the documents alone is kept, if it holds of no documents
pub documents_kept : (Q : List ℕ → List (List Field) → Type 0) → ((name : List ℕ) → Q name []) → (what : Asked) → IsKeptBy (λ name c. Q name c.documents) what
documents_kept Q none what = record { none = none; emptied = λ name c has. none name; indexed = λ name c indexes is has. has }
