-- The documents of each namespace stay in the order of their `_id`s, and sound, and no key of a unique index is in two of them.
use Rattle.std.proofs.Common.{◌≡◌, ℕ, Bool, true, false, cond, not, List, [], ◌∷◌, map, Option, Some, None, Result, Ok, Err, if◌then◌else◌, is_some, OnErr, OnOk, refl, sym, subst}
use Rattle.std.specs.Prelude.{codes}
use Rattle.std.specs.Cmp.Lexicographic.{slice_cmp}
use Rattle.std.specs.FinMap as finite
use Rattle.std.specs.List.{AllByRecursion}
use Rattle.std.specs.List.Sorted.{IsStrictlySortedBy}
use Rattle.std.specs.Ordering.{nat_cmp, is_lt}
use Rattle.dv_value.specs.Names.{value_under, without}
use Rattle.dv_value.specs.Spelling.{AreFields, Fits}
use Rattle.dv_value.specs.Tree.{Tree, array, Field, fields_of}
use Rattle.dv_order.specs.Key.{KeyTree, key_order}
use Rattle.dv_coll.specs.Collection.{HasId, IsAscending, found, has_key, id_key, inserted, removed, replaced}
use Rattle.dv_command.specs.Asked.{Asked, asked_by}
use Rattle.dv_command.specs.Asked as asking
use Rattle.dv_value.specs.Results.{◌>>=◌}
use Rattle.dv_command.specs.Entries.{Updating, updating_of}
use Rattle.dv_pipe.specs.Laws.{AreSpellable}
use Rattle.dv_command.specs.Inner.Sound.{IsSoundUpdate}
use Rattle.dv_command.specs.declared.asking.WriteKind.{WriteKind}
use Rattle.dv_command.specs.declared.asking.WriteKind.TheVariants.{Insert, Update, Delete}
use Rattle.dv_command.specs.declared.command.Command.{Command}
use Rattle.dv_refusal.specs.declared.refusal.Refusal.{Refusal}
use Rattle.dv_refusal.specs.declared.refusal.Refusal.TheVariants.{BadValue, OnView, TooLarge}
use Rattle.dv_core.specs.declared.outcome.Outcome.{Outcome}
use Rattle.dv_catalog.specs.Changes.{Change, Effect, put, gone, breaks, changes_of, done_to, with_change}
use Rattle.dv_update.specs.Apply.{applied}
use Rattle.dv_update.specs.Parsing.{update_of}
use Rattle.dv_update.specs.Update as form
use Rattle.dv_catalog.specs.Effects.{after}
use Rattle.dv_core.specs.Sound.{IsOrderly, IsSoundDocument, AreSound, IsSoundCommand}
use Rattle.dv_core.specs.Load.{IsLoaded, insert_alone, left_by, loaded, namespace_in}
use Rattle.dv_catalog.specs.State.{AreOrdered, Collection, Standing, collection_at, collection_of, documents_of, indexes_of, is_view}
use Rattle.dv_core.specs.State.{State, empty_store_state}
use Rattle.dv_core.specs.Statements.{WriteSteps}
use Rattle.dv_core.specs.Step.{asked_write}
use Rattle.dv_path.specs.Names.{has_bad_name}
use Rattle.dv_core.specs.Storable.{id_in, is_within_limits, storable, with_id_first}
use Rattle.dv_core.specs.Writes.{insert_one, statement_of, write_by}
use Rattle.dv_core.proofs.Bare.{BareStep}
use Rattle.dv_core.proofs.Asking.{AsksSoundly, soundly_asked}
use Rattle.dv_core.proofs.Done.{changes_unbroken}
use Rattle.dv_core.proofs.Standing.{IsKeptBy, Stands}
use Rattle.dv_core.proofs.Unique.{UniqueLaws, change_unbroken, indexes_unbroken}
use Rattle.dv_index.specs.Indexed.{empty_indexed}
use Rattle.dv_index.specs.Unique.{are_broken}
use Rattle.dv_core.proofs.Kept.{ChangesKeep, Keeps, apply_holds, does_good, insert_keeps, updates_keep, deletes_keep, step_holds}
use Rattle.dv_core.proofs.Stored.{storable_fits}
use Rattle.dv_catalog.specs.Inner.EffectLaws.{KeepsId, told_after, after_id}
use Rattle.dv_core.proofs.Valid.{storable_valid}

none_ordered : AreOrdered []
unfolding IsStrictlySortedBy
none_ordered = (tt, tt)

none_sound : AreSound []
none_sound = (none_ordered, tt)

-- the documents of a collection are in order and within the limits, and no key of a unique index is in two of them
pub record IsApart (namespace : List ℕ) (c : Collection) : Type 0 where
  pub documents : AreOrdered c.documents
  pub fits : AllByRecursion Fits c.documents
  pub unique : are_broken c.indexes c.documents ≡ false

abbrev pub AreApart : State → Type 0
AreApart state = Stands IsApart state.catalog.namespaces

-- which holds in every store
pub apart : (state : State) → IsOrderly state → AreApart state
apart state keeps = λ namespace. record { documents = keeps.ordered namespace; fits = keeps.fits namespace; unique = keeps.unique namespace }

pub orderly : (state : State) → AreApart state → IsOrderly state
orderly state are = record { ordered = λ namespace. (are namespace).documents; fits = λ namespace. (are namespace).fits; unique = λ namespace. (are namespace).unique }

-- the documents of a collection are sound, and no key of a unique index is in two of them
pub record IsWhole (namespace : List ℕ) (c : Collection) : Type 0 where
  pub documents : AreSound c.documents
  pub unique : are_broken c.indexes c.documents ≡ false

abbrev pub AreWhole : State → Type 0
AreWhole state = Stands IsWhole state.catalog.namespaces

none_apart : (namespace : List ℕ) → IsApart namespace empty_indexed
none_apart namespace = record { documents = none_ordered; fits = tt; unique = refl }

none_whole : (namespace : List ℕ) → IsWhole namespace empty_indexed
none_whole namespace = record { documents = none_sound; unique = refl }

empty_stands : (P : List ℕ → Collection → Type 0) → ((namespace : List ℕ) → P namespace empty_indexed) → Stands P empty_store_state.catalog.namespaces
empty_stands P none namespace = subst (λ (there : Option Standing). P namespace (collection_at there)) (sym (finite.get-empty (slice_cmp nat_cmp) namespace)) (none namespace)

pub empty_apart : AreApart empty_store_state
empty_apart = empty_stands IsApart none_apart

pub empty_whole : AreWhole empty_store_state
empty_whole = empty_stands IsWhole none_whole

-- ---- what is stored begins with its `_id`

abbrev GivesId : Result (List Field) Refusal → Type 0
GivesId (Ok d) = HasId d
GivesId (Err refusal) = Unit {0}

id_given : (name : List ℕ) → name ≡ codes "_id" → (id : Option Tree) (d : List Field) → GivesId (id_in id >>= λ given. Ok ((codes "_id", given) ∷ d))
id_given name is None d = tt
id_given name is (Some (array vs)) d = tt
id_given name is (Some v) d = (refl, tt)

first_with_id : (b : Bool) (r : Result (List Field) Refusal) → GivesId r → GivesId (cond b (Err BadValue) r)
first_with_id true r h = tt
first_with_id false r h = h

limited : (b : Bool) (d : List Field) → HasId d → GivesId (cond b (Ok d) (Err TooLarge))
limited true d h = h
limited false d h = tt

within_limits : (r : Result (List Field) Refusal) → GivesId r → GivesId (r >>= λ stored. cond (is_within_limits stored) (Ok stored) (Err TooLarge))
within_limits (Ok d) h = limited (is_within_limits d) d h
within_limits (Err refusal) h = tt

stored_id : (d stored : List Field) → storable d ≡ Ok stored → HasId stored
stored_id d stored is =
    subst GivesId is
    (within_limits (with_id_first d) (first_with_id (has_bad_name d) _ (id_given (codes "_id") refl (value_under (codes "_id") d) (without (codes "_id") d))))

-- ---- an updated document begins with its `_id`, and is within the limits

abbrev FitsAfter : Type 0
FitsAfter = (update : form.Update) (d made : List Field) → applied update d ≡ Ok made → Fits made

afters_stored : KeepsId → FitsAfter → (how : form.Update) (ds : List (List Field)) → AllByRecursion HasId ds → AllByRecursion (λ d. (e : List Field) → after how d ≡ Ok e → HasId e × Fits e) ds
afters_stored law fits how [] all = tt
afters_stored law fits how (d ∷ ds) all = ((λ e is. ((after_id law how d e all.0 is).0, fits how d e (told_after (applied how d) e is))), afters_stored law fits how ds all.1)

-- ---- what changes keep, by the laws of collections

pub record CollectionLaws : Type 0 where
  pub inserted_ascend : (d : List Field) (ds : List (List Field)) → IsAscending ds → found (id_key d) ds ≡ None → IsAscending (inserted d ds)
  pub inserted_ids : (d : List Field) (ds : List (List Field)) → HasId d → AllByRecursion HasId ds → AllByRecursion HasId (inserted d ds)
  pub removed_ascend : (k : KeyTree) (ds : List (List Field)) → IsAscending ds → IsAscending (removed k ds)
  pub removed_ids : (k : KeyTree) (ds : List (List Field)) → AllByRecursion HasId ds → AllByRecursion HasId (removed k ds)
  pub replaced_ascend : (d : List Field) (ds : List (List Field)) → HasId d → AllByRecursion HasId ds → IsAscending ds → IsAscending (replaced d ds)
  pub id_stays : KeepsId
  pub fits : FitsAfter
  pub replaced_ids : (d : List Field) (ds : List (List Field)) → HasId d → AllByRecursion HasId ds → AllByRecursion HasId (replaced d ds)

-- what makes updates sound
pub record UpdateLaws : Type 0 where
  pub of_entries : (entry : List Field) (asked : Updating) → AreFields (fields_of entry) → updating_of entry ≡ Ok asked → IsSoundUpdate asked.update
  pub stays_valid : (fields d made : List Field) (update : form.Update) → AreFields (fields_of fields) → update_of fields ≡ Ok update → AreFields (fields_of d) → applied update d ≡ Ok made → AreFields (fields_of made)

-- a document that is put begins with its `_id`, and is within the limits
abbrev pub IsStored : Change → Type 0
IsStored (put d) = HasId d × Fits d
IsStored (gone k) = Unit {0}

-- and is sound
abbrev pub IsSoundChange : Change → Type 0
IsSoundChange (put d) = HasId d × IsSoundDocument d
IsSoundChange (gone k) = Unit {0}

-- ---- what holds of all documents, and of one that is put, holds of all after a change

module _ (P : List Field → Type 0) where
  by_order : (b : Bool) (d e : List Field) (ds after : List (List Field)) → P d → AllByRecursion P (e ∷ ds) → AllByRecursion P after → AllByRecursion P (cond b (d ∷ e ∷ ds) (e ∷ after))
  by_order true d e ds after good all rest = (good, all)
  by_order false d e ds after good all rest = (all.0, rest)

  all_inserted : (d : List Field) (ds : List (List Field)) → P d → AllByRecursion P ds → AllByRecursion P (inserted d ds)
  all_inserted d [] good all = (good, tt)
  all_inserted d (e ∷ ds) good all = by_order (is_lt (key_order (id_key d) (id_key e))) d e ds (inserted d ds) good all (all_inserted d ds good all.1)

  either_good : (b : Bool) (d e : List Field) → P d → P e → P (cond b d e)
  either_good true d e good other = good
  either_good false d e good other = other

  all_replaced : (d : List Field) (ds : List (List Field)) → P d → AllByRecursion P ds → AllByRecursion P (replaced d ds)
  all_replaced d [] good all = tt
  all_replaced d (e ∷ ds) good all = (either_good (has_key (id_key d) e) d e good all.0, all_replaced d ds good all.1)

  all_kept : (b : Bool) (d : List Field) (ds : List (List Field)) → P d → AllByRecursion P ds → AllByRecursion P (cond b (d ∷ ds) ds)
  all_kept true d ds good all = (good, all)
  all_kept false d ds good all = all

  all_removed : (k : KeyTree) (ds : List (List Field)) → AllByRecursion P ds → AllByRecursion P (removed k ds)
  all_removed k [] all = tt
  all_removed k (d ∷ ds) all = all_kept (not (has_key k d)) d (removed k ds) all.0 (all_removed k ds all.1)

  put_good : (b : Bool) (d : List Field) (ds : List (List Field)) → P d → AllByRecursion P ds → AllByRecursion P (cond b (replaced d ds) (inserted d ds))
  put_good true d ds good all = all_replaced d ds good all
  put_good false d ds good all = all_inserted d ds good all

  all_changed : (ds : List (List Field)) (d : List Field) → P d → AllByRecursion P ds → AllByRecursion P (with_change ds (put d))
  all_changed ds d good all = put_good (is_some (found (id_key d) ds)) d ds good all

change_fits : (ds : List (List Field)) (change : Change) → AllByRecursion Fits ds → IsStored change → AllByRecursion Fits (with_change ds change)
change_fits ds (put d) all good = all_changed Fits ds d good.1 all
change_fits ds (gone k) all good = all_removed Fits k ds all

module _ (laws : CollectionLaws) where
  put_ordered : (d : List Field) (ds : List (List Field)) (there : Option (List Field)) → found (id_key d) ds ≡ there → HasId d → AreOrdered ds → AreOrdered (cond (is_some there) (replaced d ds) (inserted d ds))
  put_ordered d ds None none has_id ordered = (laws.inserted_ascend d ds ordered.0 none, laws.inserted_ids d ds has_id ordered.1)
  put_ordered d ds (Some e) there has_id ordered = (laws.replaced_ascend d ds has_id ordered.1 ordered.0, laws.replaced_ids d ds has_id ordered.1)

  change_ordered : (ds : List (List Field)) (change : Change) → AreOrdered ds → IsStored change → AreOrdered (with_change ds change)
  change_ordered ds (put d) ordered good = put_ordered d ds (found (id_key d) ds) refl good.0 ordered
  change_ordered ds (gone k) ordered good = (laws.removed_ascend k ds ordered.0, laws.removed_ids k ds ordered.1)

  -- ---- whatever the documents of commands are

  module _ (P : List ℕ → Collection → Type 0) (in_order : (namespace : List ℕ) (c : Collection) → P namespace c → AreOrdered c.documents) (changes : ChangesKeep P IsStored) where
    inserts_hold : (documents : List (List Field)) → AllByRecursion (Keeps P IsStored changes) (map insert_one documents)
    inserts_hold [] = tt
    inserts_hold (d ∷ ds) = (insert_keeps P IsStored changes d (λ stored is. (stored_id d stored is, storable_fits d stored is)), inserts_hold ds)

    asks_any : (entries : List (List Field)) → AllByRecursion (λ entry. (updating : Updating) → updating_of entry ≡ Ok updating → Unit {0}) entries
    asks_any [] = tt
    asks_any (entry ∷ entries) = ((λ updating is. tt), asks_any entries)

    statements_hold : (kind : WriteKind) (entries : List (List Field)) → AllByRecursion (Keeps P IsStored changes) (map (statement_of kind) entries)
    statements_hold Insert entries = inserts_hold entries
    statements_hold Update entries =
        updates_keep P IsStored changes (λ form. Unit {0}) (λ form any namespace c holds. afters_stored laws.id_stays laws.fits form c.documents (in_order namespace c holds).1) entries (asks_any entries)
    statements_hold Delete entries = deletes_keep P IsStored changes (λ k. tt) entries

    writes_hold : (what : Asked) (write : WriteSteps) → asked_write what ≡ Some write → AllByRecursion (Keeps P IsStored changes) write.statements
    writes_hold (asking.write w) write is = let same : write_by w ≡ write = cc in subst (λ (w : WriteSteps). AllByRecursion (Keeps P IsStored changes) w.statements) same (statements_hold w.kind w.entries)
    writes_hold what write is = absurd cc

    steps_hold : ((what : Asked) → IsKeptBy P what) → (old new : State) (session : ℕ) (command : Command) (outcome : Outcome) → Stands P old.catalog.namespaces → BareStep old session command outcome new → Stands P new.catalog.namespaces
    steps_hold kept old new session command outcome h steps = step_holds P IsStored changes old new session command outcome kept (λ what write asks is. writes_hold what write is) h steps

-- a load keeps what its insert keeps
module _ (P : List ℕ → Collection → Type 0) (Good : Change → Type 0) (changes : ChangesKeep P Good) where
  alone_holds : (old new : State) (namespace : List ℕ) (does : Result Effect Refusal) → AllByRecursion Good (changes_of does)
      → breaks (indexes_of namespace old.catalog.namespaces) (changes_of does) (documents_of namespace old.catalog.namespaces) ≡ false → Stands P old.catalog.namespaces → (does >>= λ effect. Ok (left_by namespace old effect)) ≡ Ok new → Stands P new.catalog.namespaces
  alone_holds old new namespace (Ok effect) good unbroken h is =
      let leaves : left_by namespace old effect ≡ new = cc in
      subst (λ (s : State). Stands P s.catalog.namespaces) leaves (apply_holds P Good changes namespace effect.changes old.catalog.namespaces h good unbroken)
  alone_holds old new namespace (Err refusal) good unbroken h is = absurd cc

  load_holds : (old new : State) (named : Result (List ℕ) Refusal) (d : List Field) → Keeps P Good changes (insert_one d) → Stands P old.catalog.namespaces → (named >>= λ namespace. insert_alone namespace d old) ≡ Ok new → Stands P new.catalog.namespaces
  load_holds old new (Err refusal) d keeps h is = absurd cc
  load_holds old new (Ok namespace) d keeps h is = by_view (is_view namespace old.catalog.views) is
    where
      by_view : (b : Bool) → (if b then Err OnView else (done_to (collection_of namespace old.catalog.namespaces) (insert_one d) >>= λ effect. Ok (left_by namespace old effect))) ≡ Ok new → Stands P new.catalog.namespaces
      by_view true is = absurd cc
      by_view false is =
          alone_holds old new namespace (done_to (collection_of namespace old.catalog.namespaces) (insert_one d)) (does_good P Good changes namespace (collection_of namespace old.catalog.namespaces) (insert_one d) keeps (h namespace))
          (changes_unbroken (collection_of namespace old.catalog.namespaces) (insert_one d)) h is

-- ---- no key of a unique index gets into two documents, whatever these are

module _ (laws : CollectionLaws) (unique_laws : UniqueLaws) where
  changes_apart : ChangesKeep IsApart IsStored
  changes_apart namespace c change apart good free = record {
    documents = change_ordered laws c.documents change apart.documents good;
    fits = change_fits c.documents change apart.fits good;
    unique = change_unbroken unique_laws c.indexes change c.documents apart.documents apart.unique free;
  }

  apart_kept : (what : Asked) → IsKeptBy IsApart what
  apart_kept what = record {
    none = none_apart;
    emptied = λ namespace c apart. record { documents = none_ordered; fits = tt; unique = unique_laws.none_apart c.indexes };
    indexed = λ namespace c indexes is apart. record { documents = apart.documents; fits = apart.fits; unique = indexes_unbroken unique_laws c what indexes is apart.unique };
  }

  apart_ordered : (namespace : List ℕ) (c : Collection) → IsApart namespace c → AreOrdered c.documents
  apart_ordered namespace c apart = apart.documents

  pub steps_apart : (old new : State) (session : ℕ) (command : Command) (outcome : Outcome) → AreApart old → BareStep old session command outcome new → AreApart new
  steps_apart = steps_hold laws IsApart apart_ordered changes_apart apart_kept

  pub loaded_apart : (old new : State) (text : List ℕ) (d : List Field) → AreApart old → loaded text d old ≡ Ok new → AreApart new
  loaded_apart old new text d h is = load_holds IsApart IsStored changes_apart old new (namespace_in text) d (inserts_hold laws IsApart apart_ordered changes_apart (d ∷ [])).0 h is

-- a load that is refused leaves the state unchanged
pub kept_by_load : {A B : Type 0} (text : List ℕ) (d : List Field) (old new : State) (result : Result A B) → (IsLoaded text d old new → IsOrderly new) → OnOk result (IsLoaded text d old new) → OnErr result (new ≡ old) → IsOrderly old → IsOrderly new
kept_by_load text d old new (Ok done) keeps loads same orderly = keeps loads
kept_by_load text d old new (Err refusal) keeps loads same orderly = subst IsOrderly (sym same) orderly

-- ---- documents stay sound, if those of commands are, and no key of a unique index gets into two of them

module _ (laws : CollectionLaws) (unique_laws : UniqueLaws) where
  change_sound : (ds : List (List Field)) (change : Change) → AreSound ds → IsSoundChange change → AreSound (with_change ds change)
  change_sound ds (put d) sound good = (change_ordered laws ds (put d) sound.0 (good.0, good.1.fits), all_changed IsSoundDocument ds d good.1 sound.1)
  change_sound ds (gone k) sound good = (change_ordered laws ds (gone k) sound.0 tt, all_removed IsSoundDocument k ds sound.1)

  change_whole : ChangesKeep IsWhole IsSoundChange
  change_whole namespace c change whole good apart = record {
    documents = change_sound c.documents change whole.documents good;
    unique = change_unbroken unique_laws c.indexes change c.documents whole.documents.0 whole.unique apart;
  }

  abbrev KeepsSound : WriteSteps → Type 0
  KeepsSound write = AllByRecursion (Keeps IsWhole IsSoundChange change_whole) write.statements

  inserts_sound : (documents : List (List Field)) → AreSpellable documents → AllByRecursion (Keeps IsWhole IsSoundChange change_whole) (map insert_one documents)
  inserts_sound [] valid = tt
  inserts_sound (d ∷ ds) valid = (
    insert_keeps IsWhole IsSoundChange change_whole d (λ stored is. (stored_id d stored is, record { valid = storable_valid d stored valid.0 is; fits = storable_fits d stored is })),
    inserts_sound ds valid.1,
  )

  module _ (asks : AsksSoundly) (sound_laws : UpdateLaws) where
    afters_sound : (how : form.Update) → IsSoundUpdate how → (ds : List (List Field)) → AllByRecursion HasId ds → AllByRecursion IsSoundDocument ds
        → AllByRecursion (λ d. (e : List Field) → after how d ≡ Ok e → HasId e × IsSoundDocument e) ds
    afters_sound how asked [] ids all = tt
    afters_sound how asked (d ∷ ds) ids all = (
      (λ e is.
          let does : applied how d ≡ Ok e = told_after (applied how d) e is in
          ((after_id laws.id_stays how d e ids.0 is).0, record { valid = sound_laws.stays_valid asked.document d e how asked.valid asked.is all.0.valid does; fits = laws.fits how d e does })),
      afters_sound how asked ds ids.1 all.1,
    )

    entries_sound : (entries : List (List Field)) → AreSpellable entries → AllByRecursion (λ entry. (updating : Updating) → updating_of entry ≡ Ok updating → IsSoundUpdate updating.update) entries
    entries_sound [] valid = tt
    entries_sound (entry ∷ entries) valid = ((λ updating is. sound_laws.of_entries entry updating valid.0 is), entries_sound entries valid.1)

    statements_sound : (kind : WriteKind) (entries : List (List Field)) → AreSpellable entries → AllByRecursion (Keeps IsWhole IsSoundChange change_whole) (map (statement_of kind) entries)
    statements_sound Insert entries valid = inserts_sound entries valid
    statements_sound Update entries valid =
        updates_keep IsWhole IsSoundChange change_whole IsSoundUpdate (λ form asked namespace c whole. afters_sound form asked c.documents whole.documents.0.1 whole.documents.1) entries (entries_sound entries valid)
    statements_sound Delete entries valid = deletes_keep IsWhole IsSoundChange change_whole (λ k. tt) entries

    writes_sound : (command : Command) → IsSoundCommand command → (what : Asked) (write : WriteSteps) → asked_by command ≡ Ok what → asked_write what ≡ Some write → KeepsSound write
    writes_sound command sound (asking.write w) write asked is =
        let same : write_by w ≡ write = cc in
        subst KeepsSound same (statements_sound w.kind w.entries (soundly_asked asks command (asking.write w) sound asked).1)
    writes_sound command sound what write asked is = absurd cc

    -- a collection without documents is whole, and stays so with the indexes that a command leaves it with
    whole_kept : (what : Asked) → IsKeptBy IsWhole what
    whole_kept what = record {
      none = none_whole;
      emptied = λ namespace c whole. record { documents = none_sound; unique = unique_laws.none_apart c.indexes };
      indexed = λ namespace c indexes is whole. record { documents = whole.documents; unique = indexes_unbroken unique_laws c what indexes is whole.unique };
    }

    pub steps_sound : (old new : State) (session : ℕ) (command : Command) (outcome : Outcome) → IsSoundCommand command → AreWhole old → BareStep old session command outcome new → AreWhole new
    steps_sound old new session command outcome sound h steps = step_holds IsWhole IsSoundChange change_whole old new session command outcome whole_kept (writes_sound command sound) h steps

  -- collections stay whole after a load of a sound document
  pub loaded_sound : (old new : State) (text : List ℕ) (d : List Field) → IsSoundDocument d → AreWhole old → loaded text d old ≡ Ok new → AreWhole new
  loaded_sound old new text d sound h is = load_holds IsWhole IsSoundChange change_whole old new (namespace_in text) d (inserts_sound (d ∷ []) (sound.valid, tt)).0 h is
