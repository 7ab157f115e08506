-- What a statement does to a collection: what it does to its documents, unless that is refused for a unique key.
use Rattle.std.proofs.Common.{◌≡◌, ◌⊎◌, inl, inr, ℕ, zero, suc, Bool, false, List, [], ◌∷◌, take, Result, Ok, Err, refl, sym, subst}
use Rattle.std.proofs.lemmas.Bool.{or_parts, or_from}
use Rattle.dv_value.specs.Tree.{Field}
use Rattle.dv_catalog.specs.Changes.{Change, Effect, Statement, breaks, changes_of, clashes_by, done_to, with_change}
use Rattle.dv_catalog.specs.Inner.EffectLaws.{done_changes, done_so}
use Rattle.dv_catalog.specs.State.{Collection}
use Rattle.dv_refusal.specs.declared.refusal.Refusal.{Refusal}
use Rattle.dv_keyed.specs.Index.{IndexForm}

-- ---- the changes of a statement

module _ (c : Collection) (statement : Statement) where
  -- what holds of no changes, and of those that the statement makes of the documents, holds of those that it makes of the
  -- collection
  pub changes_done : (P : List Change → Type 0) → P [] → P (changes_of (statement c.documents)) → P (changes_of (done_to c statement))
  changes_done P none has = either (done_changes c statement)
    where
      either : (changes_of (done_to c statement) ≡ changes_of (statement c.documents)) ⊎ (changes_of (done_to c statement) ≡ []) → P (changes_of (done_to c statement))
      either (inl same) = subst P (sym same) has
      either (inr nothing) = subst P (sym nothing) none

  -- its changes put no key of a unique index under two `_id`s
  pub changes_unbroken : breaks c.indexes (changes_of (done_to c statement)) c.documents ≡ false
  changes_unbroken = by_result (done_to c statement) refl
    where
      by_result : (r : Result Effect Refusal) → done_to c statement ≡ r → breaks c.indexes (changes_of r) c.documents ≡ false
      by_result (Ok effect) is = (done_so c statement effect is).1
      by_result (Err refusal) is = refl

-- if changes put no key of a unique index under two `_id`s, nor do the first `made` of them
pub front_unbroken : (indexes : List IndexForm) (made : ℕ) (changes : List Change) (documents : List (List Field)) → breaks indexes changes documents ≡ false → breaks indexes (take made changes) documents ≡ false
front_unbroken indexes zero [] documents is = refl
front_unbroken indexes zero (change ∷ changes) documents is = refl
front_unbroken indexes (suc made) [] documents is = refl
front_unbroken indexes (suc made) (change ∷ changes) documents is =
    let (here, later) = or_parts (clashes_by indexes change documents) (breaks indexes changes (with_change documents change)) is in
    or_from (clashes_by indexes change documents) (breaks indexes (take made changes) (with_change documents change)) here (front_unbroken indexes made changes (with_change documents change) later)
