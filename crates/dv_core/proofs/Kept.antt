-- Properties of the collection of each namespace that statements keep.
use Rattle.std.proofs.Common.{ℕ, zero, suc, Bool, true, false, cond, List, [], ◌∷◌, ◌++◌, length, map, not, take, Some, Result, Ok, Err, is_some, if◌then◌else◌, ◌≡◌, inl, inr, refl, subst}
use Rattle.std.specs.List.{AllByRecursion}
use Rattle.std.proofs.lemmas.Bool.{or_parts}
use Rattle.dv_value.specs.Tree.{Field}
use Rattle.dv_coll.specs.Collection.{found, id_key}
use Rattle.dv_order.specs.Key.{KeyTree}
use Rattle.dv_command.specs.Asked.{Asked, asked_by}
use Rattle.dv_command.specs.Entries.{Deletion, deletion_of, Updating, updating_of}
use Rattle.dv_command.specs.declared.command.Command.{Command}
use Rattle.dv_refusal.specs.declared.refusal.Refusal.{Refusal}
use Rattle.dv_refusal.specs.declared.refusal.Refusal.TheVariants.{DuplicateKey}
use Rattle.dv_value.specs.Results.{◌>>=◌}
use Rattle.dv_core.specs.declared.outcome.Outcome.{Outcome}
use Rattle.dv_catalog.specs.Changes.{Change, put, gone, Effect, Statement, apply, breaks, changes_of, clashes_by, done_to, with_change, with_changes}
use Rattle.dv_update.specs.Update as form
use Rattle.dv_catalog.specs.Effects.{changed_by, delete_chosen, put_new, update_chosen}
use Rattle.dv_catalog.specs.Scan.{matching}
use Rattle.dv_catalog.specs.State.{Namespaces, Collection, collection_of, documents_of, indexes_of}
use Rattle.dv_core.specs.State.{State}
use Rattle.dv_core.specs.Statements.{WriteSteps, Written, nothing_written, with_all, with_next, with_result, is_due}
use Rattle.dv_core.specs.Step.{Answer, asked_write}
use Rattle.dv_core.specs.Storable.{storable}
use Rattle.dv_core.specs.Writes.{insert_one, update_one, delete_one}
use Rattle.dv_core.proofs.Bare.{BareStep}
use Rattle.dv_core.proofs.Changed.{Did, outcome_may, MayWrite}
use Rattle.dv_core.proofs.Done.{changes_done, changes_unbroken, front_unbroken}
use Rattle.dv_core.proofs.Standing.{IsKeptBy, Stands, made_stands, put_stands}
use Rattle.dv_catalog.specs.Inner.EffectLaws.{IsGoodAfter, chosen_good, matching_good, all_changed_good}

-- changes keep a property of the collection of a namespace if they put no key of a unique index under two `_id`s
abbrev pub ChangesKeep : (List ℕ → Collection → Type 0) → (Change → Type 0) → Type 0
ChangesKeep P IsGood =
    (namespace : List ℕ) (c : Collection) (change : Change) → P namespace c → IsGood change → clashes_by c.indexes change c.documents ≡ false → P namespace (record c { documents = with_change c.documents change })

-- for such a property
module _ (P : List ℕ → Collection → Type 0) (IsGood : Change → Type 0) (keeps : ChangesKeep P IsGood) where
  -- a statement that makes only good changes
  pub record Keeps (statement : Statement) : Type 0 where
    pub good : (namespace : List ℕ) (c : Collection) → P namespace c → AllByRecursion IsGood (changes_of (statement c.documents))

  changes_hold : (namespace : List ℕ) (c : Collection) (changes : List Change) → P namespace c → AllByRecursion IsGood changes → breaks c.indexes changes c.documents ≡ false → P namespace (record c { documents = with_changes c.documents changes })
  changes_hold namespace c [] h good unbroken = h
  changes_hold namespace c (change ∷ changes) h good unbroken =
      let (here, later) = or_parts (clashes_by c.indexes change c.documents) (breaks c.indexes changes (with_change c.documents change)) unbroken in
      changes_hold namespace (record c { documents = with_change c.documents change }) changes (keeps namespace c change h good.0 here) good.1 later

  first_good : (made : ℕ) (changes : List Change) → AllByRecursion IsGood changes → AllByRecursion IsGood (take made changes)
  first_good zero [] good = tt
  first_good zero (change ∷ changes) good = tt
  first_good (suc made) [] good = tt
  first_good (suc made) (change ∷ changes) good = (good.0, first_good made changes good.1)

  pub apply_holds : (namespace : List ℕ) (changes : List Change) (namespaces : Namespaces) → Stands P namespaces → AllByRecursion IsGood changes
      → breaks (indexes_of namespace namespaces) changes (documents_of namespace namespaces) ≡ false → Stands P (apply namespace changes namespaces)
  apply_holds namespace [] namespaces h good unbroken = h
  apply_holds namespace (change ∷ changes) namespaces h good unbroken =
      let c : Collection = collection_of namespace namespaces in
      put_stands P namespace (record c { documents = with_changes c.documents (change ∷ changes) }) namespaces h (changes_hold namespace c (change ∷ changes) (h namespace) good unbroken)

  -- such a statement makes only good changes of a collection
  pub does_good : (namespace : List ℕ) (c : Collection) (statement : Statement) → Keeps statement → P namespace c → AllByRecursion IsGood (changes_of (done_to c statement))
  does_good namespace c statement keep h = changes_done c statement (AllByRecursion IsGood) tt (keep.good namespace c h)

  module _ (namespace : List ℕ) (ordered : Bool) where
    result_holds : (so_far : Written) (result : Result Effect Refusal) → Stands P so_far.namespaces → AllByRecursion IsGood (changes_of result)
        → breaks (indexes_of namespace so_far.namespaces) (changes_of result) (documents_of namespace so_far.namespaces) ≡ false → Stands P (with_result namespace ordered so_far result).namespaces
    result_holds so_far (Ok effect) h good unbroken = apply_holds namespace effect.changes so_far.namespaces h good unbroken
    result_holds so_far (Err refusal) h good unbroken = h

    looked_holds : (b : Bool) (one other : Written) → Stands P one.namespaces → Stands P other.namespaces → Stands P (cond b one other).namespaces
    looked_holds true one other h i = h
    looked_holds false one other h i = i

    next_holds : (so_far : Written) (statement : Statement) → Stands P so_far.namespaces → Keeps statement → Stands P (with_next namespace ordered so_far statement).namespaces
    next_holds so_far statement h keep =
        let c : Collection = collection_of namespace so_far.namespaces in
        looked_holds (is_due ordered so_far.errors) (with_result namespace ordered so_far (done_to c statement)) so_far
        (result_holds so_far (done_to c statement) h (does_good namespace c statement keep (h namespace)) (changes_unbroken c statement)) h

    all_holds : (so_far : Written) (statements : List Statement) → Stands P so_far.namespaces → AllByRecursion Keeps statements → Stands P (with_all namespace ordered so_far statements).namespaces
    all_holds so_far [] h keep = h
    all_holds so_far (statement ∷ statements) h keep = all_holds (with_next namespace ordered so_far statement) statements (next_holds so_far statement h keep.0) keep.1

  split_keep : (before : List Statement) (statement : Statement) (behind : List Statement) → AllByRecursion Keeps (before ++ statement ∷ behind) → AllByRecursion Keeps before × Keeps statement
  split_keep [] statement behind keep = (tt, keep.0)
  split_keep (s ∷ before) statement behind keep = let rest = split_keep before statement behind keep.1 in ((keep.0, rest.0), rest.1)

  did_holds : (write : WriteSteps) (old : State) (did : Written) → AllByRecursion Keeps write.statements → Did write old did → Stands P old.catalog.namespaces → Stands P did.namespaces
  did_holds write old did keep (inl whole) h = rw whole (all_holds write.namespace write.ordered (nothing_written old.catalog.namespaces) write.statements h keep)
  did_holds write old did keep (inr cuts) h =
      let parts = split_keep cuts.before cuts.statement cuts.behind (subst (AllByRecursion Keeps) cuts.stands keep) in
      let before : Written = with_all write.namespace write.ordered (nothing_written old.catalog.namespaces) cuts.before in
      let held : Stands P before.namespaces = all_holds write.namespace write.ordered (nothing_written old.catalog.namespaces) cuts.before h parts.0 in
      let c : Collection = collection_of write.namespace before.namespaces in
      let changes : List Change = changes_of (done_to c cuts.statement) in
      rw cuts.left_so
      (apply_holds write.namespace (take cuts.made changes) before.namespaces held (first_good cuts.made changes (does_good write.namespace c cuts.statement parts.1 (held write.namespace)))
      (front_unbroken c.indexes cuts.made changes c.documents (changes_unbroken c cuts.statement)))

  may_hold : (old : State) (asked : Result Asked Refusal) (answer : Answer) → ((what : Asked) → IsKeptBy P what) → ((what : Asked) (write : WriteSteps) → asked ≡ Ok what → asked_write what ≡ Some write → AllByRecursion Keeps write.statements)
      → MayWrite old asked answer → Stands P old.catalog.namespaces → Stands P answer.state.catalog.namespaces
  may_hold old asked answer kept keep (inl same) h = rw same h
  may_hold old asked answer kept keep (inr (inl w)) h = rw w.answers (did_holds w.write old w.did (keep w.what w.write w.asks w.is_write) w.did_so h)
  may_hold old asked answer kept keep (inr (inr m)) h = made_stands P old answer.state m.what (kept m.what) m.made h

  -- a step keeps the property if its statements do
  pub step_holds : (old new : State) (session : ℕ) (command : Command) (outcome : Outcome) → ((what : Asked) → IsKeptBy P what)
      → ((what : Asked) (write : WriteSteps) → asked_by command ≡ Ok what → asked_write what ≡ Some write → AllByRecursion Keeps write.statements)
      → Stands P old.catalog.namespaces → BareStep old session command outcome new → Stands P new.catalog.namespaces
  step_holds old new session command outcome kept keep h steps =
      let (answer, may, stands) = outcome_may old new session command outcome steps in
      rw stands (may_hold old (asked_by command) answer kept keep may h)

  -- ---- the statements of an insert

  new_good : (b : Bool) (d : List Field) → IsGood (put d) → AllByRecursion IsGood (changes_of (if b then Err DuplicateKey else Ok (record { matched = 1; changes = put d ∷ [] })))
  new_good true d good = tt
  new_good false d good = (good, tt)

  stored_good : (d : List Field) (result : Result (List Field) Refusal) → storable d ≡ result → ((stored : List Field) → storable d ≡ Ok stored → IsGood (put stored)) → (documents : List (List Field))
      → AllByRecursion IsGood (changes_of (result >>= λ stored. put_new stored documents))
  stored_good d (Ok stored) is good documents = new_good (is_some (found (id_key stored) documents)) stored (good stored is)
  stored_good d (Err refusal) is good documents = tt

  -- an insert keeps it if putting the stored document is a good change
  pub insert_keeps : (d : List Field) → ((stored : List Field) → storable d ≡ Ok stored → IsGood (put stored)) → Keeps (insert_one d)
  insert_keeps d good = record { good = λ namespace c h. stored_good d (storable d) refl good c.documents }

  -- ---- the statements of a delete

  module _ (gone_good : (k : KeyTree) → IsGood (gone k)) where
    all_gone_good : (documents : List (List Field)) → AllByRecursion IsGood (map (λ d. gone (id_key d)) documents)
    all_gone_good [] = tt
    all_gone_good (d ∷ ds) = (gone_good (id_key d), all_gone_good ds)

    entry_good : (result : Result Deletion Refusal) (documents : List (List Field)) → AllByRecursion IsGood (changes_of (result >>= λ deletion. delete_chosen deletion documents))
    entry_good (Ok deletion) documents = all_gone_good _
    entry_good (Err refusal) documents = tt

    pub deletes_keep : (entries : List (List Field)) → AllByRecursion Keeps (map delete_one entries)
    deletes_keep [] = tt
    deletes_keep (entry ∷ entries) = (record { good = λ namespace c h. entry_good (deletion_of entry) c.documents }, deletes_keep entries)

  -- ---- the statements of an update

  -- putting what the update makes of a document is a good change
  abbrev PutsGood : form.Update → List Field → Type 0
  PutsGood update d = IsGoodAfter (λ e. IsGood (put e)) update d

  all_put : (es : List (List Field)) → AllByRecursion (λ e. IsGood (put e)) es → AllByRecursion IsGood (map put es)
  all_put [] good = tt
  all_put (e ∷ es) good = (good.0, all_put es good.1)

  updated_good : (updating : Updating) (ds : List (List Field)) (result : Result (List (List Field)) Refusal) → changed_by updating.update ds ≡ result → AllByRecursion (PutsGood updating.update) ds
      → AllByRecursion IsGood (changes_of (result >>= λ changed. Ok (record { matched = length ds; changes = map put changed })))
  updated_good updating ds (Ok changed) is good = all_put changed (all_changed_good (λ e. IsGood (put e)) updating.update ds changed is good)
  updated_good updating ds (Err refusal) is good = tt

  -- for updates of some kind
  module _ (IsGoodUpdate : form.Update → Type 0)
      (good_after : (update : form.Update) → IsGoodUpdate update → (namespace : List ℕ) (c : Collection) → P namespace c → AllByRecursion (PutsGood update) c.documents) where
    -- an entry that asks for such an update
    abbrev pub AsksGood : List Field → Type 0
    AsksGood entry = (updating : Updating) → updating_of entry ≡ Ok updating → IsGoodUpdate updating.update

    entry_updated : (entry : List Field) (result : Result Updating Refusal) → updating_of entry ≡ result → AsksGood entry → (namespace : List ℕ) (c : Collection) → P namespace c
        → AllByRecursion IsGood (changes_of (result >>= λ updating. update_chosen updating c.documents))
    entry_updated entry (Ok updating) is asks namespace c h =
        updated_good updating _ _ refl
        (chosen_good (PutsGood updating.update) (not updating.multi) (matching updating.filter c.documents) (matching_good (PutsGood updating.update) updating.filter c.documents (good_after updating.update (asks updating is) namespace c h)))
    entry_updated entry (Err refusal) is asks namespace c h = tt

    pub updates_keep : (entries : List (List Field)) → AllByRecursion AsksGood entries → AllByRecursion Keeps (map update_one entries)
    updates_keep [] asks = tt
    updates_keep (entry ∷ entries) asks = (record { good = λ namespace c h. entry_updated entry (updating_of entry) refl asks.0 namespace c h }, updates_keep entries asks.1)
