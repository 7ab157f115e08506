-- What is true of documents that are chosen, of their updates, and of what a statement does to a collection.
use Rattle.std.proofs.Common.{◌≡◌, ◌⊎◌, inl, inr, Bool, true, false, cond, List, [], ◌∷◌, Result, Ok, Err, refl, sym, ap, subst, ◌∙◌, if◌then◌else◌}
use Rattle.std.specs.Prelude.{codes}
use Rattle.std.specs.List.{AllByRecursion}
use Rattle.dv_value.specs.Tree.{Tree, Field, fields_of}
use Rattle.dv_coll.specs.Collection.{HasId, id_key}
use Rattle.dv_match.specs.Filter.{Members}
use Rattle.dv_match.specs.Match.{matches}
use Rattle.dv_update.specs.Apply.{applied}
use Rattle.dv_order.specs.Same.{same_fields}
use Rattle.dv_update.specs.Update as form
use Rattle.dv_update.specs.declared.fault.UpdateFault.{UpdateFault}
use Rattle.dv_refusal.specs.Refusals.{refused_by, update_refusal}
use Rattle.dv_value.specs.Results.{◌>>=◌}
use Rattle.dv_refusal.specs.declared.refusal.Refusal.{Refusal}
use Rattle.dv_refusal.specs.declared.refusal.Refusal.TheVariants.{DuplicateKey}
use Rattle.dv_catalog.specs.Changes.{Effect, Statement, breaks, changes_of, done_to, unless_it_breaks}
use Rattle.dv_catalog.specs.Effects.{after, all_or_first, changed_by}
use Rattle.dv_catalog.specs.Scan.{matching}
use Rattle.dv_catalog.specs.State.{Collection}

module _ (Q : List Field → Type 0) where
  pub chosen_good : (first : Bool) (ds : List (List Field)) → AllByRecursion Q ds → AllByRecursion Q (all_or_first first ds)
  chosen_good false ds all = all
  chosen_good true [] all = tt
  chosen_good true (d ∷ ds) all = (all.0, tt)

  kept_good : (d : List Field) (ds : List (List Field)) (b : Bool) → Q d → AllByRecursion Q ds → AllByRecursion Q (cond b (d ∷ ds) ds)
  kept_good d ds true good rest = (good, rest)
  kept_good d ds false good rest = rest

  pub matching_good : (filter : Members) (ds : List (List Field)) → AllByRecursion Q ds → AllByRecursion Q (matching filter ds)
  matching_good filter [] all = tt
  matching_good filter (d ∷ ds) all = kept_good d (matching filter ds) (matches filter d) all.0 (matching_good filter ds all.1)

  abbrev pub IsGoodAfter : form.Update → List Field → Type 0
  IsGoodAfter update d = (e : List Field) → after update d ≡ Ok e → Q e

  changed_or_not : (e : List Field) (es : List (List Field)) (b : Bool) → Q e → AllByRecursion Q es → AllByRecursion Q (if b then es else e ∷ es)
  changed_or_not e es true good others = others
  changed_or_not e es false good others = (good, others)

  changed_good : (d : List Field) (first : Result (List Field) Refusal) (rest : Result (List (List Field)) Refusal) (changed : List (List Field))
      → ((e : List Field) → first ≡ Ok e → Q e) → ((es : List (List Field)) → rest ≡ Ok es → AllByRecursion Q es)
      → (first >>= λ e. rest >>= λ es. Ok (if same_fields (fields_of d) (fields_of e) then es else e ∷ es)) ≡ Ok changed → AllByRecursion Q changed
  changed_good d (Ok e) (Ok es) changed good others is =
      let all : (if same_fields (fields_of d) (fields_of e) then es else e ∷ es) ≡ changed = cc in
      subst (AllByRecursion Q) all (changed_or_not e es (same_fields (fields_of d) (fields_of e)) (good e refl) (others es refl))
  changed_good d (Ok e) (Err refusal) changed good others is = absurd cc
  changed_good d (Err refusal) rest changed good others is = absurd cc

  pub all_changed_good : (update : form.Update) (ds changed : List (List Field)) → changed_by update ds ≡ Ok changed → AllByRecursion (IsGoodAfter update) ds → AllByRecursion Q changed
  all_changed_good update [] changed is good = let all : [] ≡ changed = cc in subst (AllByRecursion Q) all tt
  all_changed_good update (d ∷ ds) changed is good =
      changed_good d (after update d) (changed_by update ds) changed good.0 (λ es rest. all_changed_good update ds es rest good.1) is

-- ---- the `_id` of a document that is updated

abbrev pub KeepsId : Type 0
KeepsId = (update : form.Update) (v : Tree) (others after : List Field) → applied update ((codes "_id", v) ∷ others) ≡ Ok after → (rest : List Field) × (after ≡ (codes "_id", v) ∷ rest)

pub told_after : (r : Result (List Field) UpdateFault) (e : List Field) → refused_by update_refusal r ≡ Ok e → r ≡ Ok e
told_after (Ok d) e is = cc
told_after (Err fault) e is = absurd cc

pub after_id : KeepsId → (update : form.Update) (d e : List Field) → HasId d → after update d ≡ Ok e → HasId e × (id_key e ≡ id_key d)
after_id law update [] e has_id is = absurd has_id
after_id law update (f ∷ fs) e has_id is =
    let same : f ≡ (codes "_id", f.1) = λ i. (has_id.0 i, f.1) in
    let (rest, begins) = law update f.1 fs e (ap (λ (g : Field). applied update (g ∷ fs)) (sym same) ∙ told_after (applied update (f ∷ fs)) e is) in
    rw begins ((refl, has_id.1), refl)

-- ---- what a statement does to a collection

module _ (c : Collection) (statement : Statement) where
  -- what it does to the documents, by whether this breaks a unique index
  done_by : (effect : Effect) (b : Bool) → statement c.documents ≡ Ok effect → breaks c.indexes effect.changes c.documents ≡ b → done_to c statement ≡ (if b then Err DuplicateKey else Ok effect)
  done_by effect b so broken = ap (λ (r : Result Effect Refusal). r >>= unless_it_breaks c) so ∙ ap (λ (x : Bool). if x then Err DuplicateKey else Ok effect) broken

  pub done_unbroken : (effect : Effect) → statement c.documents ≡ Ok effect → breaks c.indexes effect.changes c.documents ≡ false → done_to c statement ≡ Ok effect
  done_unbroken effect so broken = done_by effect false so broken

  pub done_broken : (effect : Effect) → statement c.documents ≡ Ok effect → breaks c.indexes effect.changes c.documents ≡ true → done_to c statement ≡ Err DuplicateKey
  done_broken effect so broken = done_by effect true so broken

  pub done_refused : (refusal : Refusal) → statement c.documents ≡ Err refusal → done_to c statement ≡ Err refusal
  done_refused refusal so = ap (λ (r : Result Effect Refusal). r >>= unless_it_breaks c) so

  -- a statement that is carried out does to the documents what it says, and breaks no unique index
  pub done_so : (effect : Effect) → done_to c statement ≡ Ok effect → (statement c.documents ≡ Ok effect) × (breaks c.indexes effect.changes c.documents ≡ false)
  done_so effect is = by_result (statement c.documents) refl is
    where
      by_test : (made : Effect) (b : Bool) → statement c.documents ≡ Ok made → breaks c.indexes made.changes c.documents ≡ b → (let r : Result Effect Refusal = if b then Err DuplicateKey else Ok made in r) ≡ Ok effect
          → (statement c.documents ≡ Ok effect) × (breaks c.indexes effect.changes c.documents ≡ false)
      by_test made true so broken is = absurd cc
      by_test made false so broken is =
          let same : made ≡ effect = cc in
          (so ∙ ap Ok same, subst (λ (e : Effect). breaks c.indexes e.changes c.documents ≡ false) same broken)

      by_result : (r : Result Effect Refusal) → statement c.documents ≡ r → (r >>= unless_it_breaks c) ≡ Ok effect → (statement c.documents ≡ Ok effect) × (breaks c.indexes effect.changes c.documents ≡ false)
      by_result (Ok made) so is = by_test made (breaks c.indexes made.changes c.documents) so refl is
      by_result (Err refusal) so is = absurd cc

  -- its changes are those of the statement on the documents, or none
  pub done_changes : (changes_of (done_to c statement) ≡ changes_of (statement c.documents)) ⊎ (changes_of (done_to c statement) ≡ [])
  done_changes = by_result (statement c.documents) refl
    where
      by_test : (made : Effect) (b : Bool) → done_to c statement ≡ (if b then Err DuplicateKey else Ok made) → statement c.documents ≡ Ok made → (changes_of (done_to c statement) ≡ changes_of (statement c.documents)) ⊎ (changes_of (done_to c statement) ≡ [])
      by_test made true done so = inr (ap changes_of done)
      by_test made false done so = inl (ap changes_of (done ∙ sym so))

      by_result : (r : Result Effect Refusal) → statement c.documents ≡ r → (changes_of (done_to c statement) ≡ changes_of (statement c.documents)) ⊎ (changes_of (done_to c statement) ≡ [])
      by_result (Ok made) so = by_test made (breaks c.indexes made.changes c.documents) (done_by made (breaks c.indexes made.changes c.documents) so refl) so
      by_result (Err refusal) so = inr (ap changes_of (done_refused refusal so))
