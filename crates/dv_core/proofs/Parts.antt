-- A delete leaves a part of the documents.
use Rattle.std.proofs.Common.{◌≡◌, ◌&&◌, not, ℕ, Bool, true, false, cond, List, [], ◌∷◌, map, Some, Ok, refl, sym, ap, subst, ◌∙◌}
use Rattle.std.specs.List.{AllByRecursion, filter}
use Rattle.dv_value.specs.Tree.{Field}
use Rattle.dv_coll.specs.Collection.{has_key, removed}
use Rattle.dv_command.specs.Asked.{Asked, asked_by}
use Rattle.dv_command.specs.Asked as asking
use Rattle.dv_command.specs.declared.asking.WriteKind.{WriteKind}
use Rattle.dv_command.specs.declared.asking.WriteKind.TheVariants.{Delete}
use Rattle.dv_command.specs.declared.command.Command.{Command}
use Rattle.dv_core.specs.declared.outcome.Outcome.{Outcome}
use Rattle.dv_catalog.specs.Changes.{Change, Statement, clashes_by, put, gone, with_change}
use Rattle.dv_core.specs.Part.{IsPart}
use Rattle.dv_catalog.specs.State.{Collection, documents_of}
use Rattle.dv_core.specs.State.{State}
use Rattle.dv_core.specs.Statements.{WriteSteps}
use Rattle.dv_core.specs.Step.{asked_write}
use Rattle.dv_core.specs.Writes.{statement_of, write_by}
use Rattle.dv_core.proofs.Bare.{BareStep}
use Rattle.dv_core.proofs.Kept.{Keeps, deletes_keep, step_holds}
use Rattle.dv_core.proofs.Standing.{documents_kept}

abbrev IsGone : Change → Type 0
IsGone (put d) = ⊥
IsGone (gone k) = Unit {0}

filter_whole : (ds : List (List Field)) → ds ≡ filter (λ d. true) ds
filter_whole [] = refl
filter_whole (d ∷ ds) = ap (λ (rest : List (List Field)). d ∷ rest) (filter_whole ds)

filter_none : (ds : List (List Field)) → [] ≡ filter (λ d. false) ds
filter_none [] = refl
filter_none (d ∷ ds) = filter_none ds

filter_step : (p : List Field → Bool) (b c : Bool) (d : List Field) (xs ys : List (List Field)) → p d ≡ c → filter p xs ≡ ys → filter p (cond b (d ∷ xs) xs) ≡ cond (b && c) (d ∷ ys) ys
filter_step p true true d xs ys test same = rw test (ap (λ (rest : List (List Field)). d ∷ rest) same)
filter_step p true false d xs ys test same = rw test same
filter_step p false c d xs ys test same = same

filter_both : (p q : List Field → Bool) (ds : List (List Field)) → filter p (filter q ds) ≡ filter (λ d. q d && p d) ds
filter_both p q [] = refl
filter_both p q (d ∷ ds) = filter_step p (q d) (p d) d (filter q ds) (filter (λ e. q e && p e) ds) refl (filter_both p q ds)

module _ (old : State) where
  abbrev LeftOf : List ℕ → List (List Field) → Type 0
  LeftOf namespace documents = IsPart documents (documents_of namespace old.catalog.namespaces)

  abbrev IsLeft : List ℕ → Collection → Type 0
  IsLeft namespace c = LeftOf namespace c.documents

  goes : (namespace : List ℕ) (c : Collection) (change : Change) → IsLeft namespace c → IsGone change → clashes_by c.indexes change c.documents ≡ false → IsLeft namespace (record c { documents = with_change c.documents change })
  goes namespace c (put d) part good apart = absurd good
  goes namespace c (gone k) (stays, is) good apart =
      ((λ d. stays d && not (has_key k d)), ap (removed k) is ∙ filter_both (λ d. not (has_key k d)) stays (documents_of namespace old.catalog.namespaces))

  abbrev Go : List Statement → Type 0
  Go statements = AllByRecursion (Keeps IsLeft IsGone goes) statements

  deletes_go : (asked : asking.Write) (what : Asked) (write : WriteSteps) → asking.write asked ≡ what → asked.kind ≡ Delete → asked_write what ≡ Some write → Go write.statements
  deletes_go asked what write is deletes writes =
      let same : write_by asked ≡ write = cc (ap asked_write is, writes) in
      let go : Go (map (statement_of asked.kind) asked.entries) =
      subst (λ (kind : WriteKind). Go (map (statement_of kind) asked.entries)) (sym deletes) (deletes_keep IsLeft IsGone goes (λ k. tt) asked.entries) in
      subst (λ (w : WriteSteps). Go w.statements) same go

  pub delete_leaves : (new : State) (session : ℕ) (command : Command) (asked : asking.Write) (outcome : Outcome) → asked_by command ≡ Ok (asking.write asked) → asked.kind ≡ Delete → BareStep old session command outcome new
      → (namespace : List ℕ) → IsPart (documents_of namespace new.catalog.namespaces) (documents_of namespace old.catalog.namespaces)
  delete_leaves new session command asked outcome asks deletes steps =
      step_holds IsLeft IsGone goes old new session command outcome (documents_kept LeftOf (λ namespace. ((λ d. false), filter_none (documents_of namespace old.catalog.namespaces))))
      (λ what write is writes. deletes_go asked what write (cc (asks, is)) deletes writes)
      (λ namespace. ((λ d. true), filter_whole (documents_of namespace old.catalog.namespaces))) steps
