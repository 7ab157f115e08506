-- Statements that are carried out once more.
use Rattle.std.proofs.Common.{◌≡◌, ◌⊎◌, inl, inr, ℕ, List, [], ◌∷◌, take, Result, Err, refl, ap, subst, ◌∙◌}
use Rattle.dv_refusal.specs.declared.refusal.Refusal.{Refusal}
use Rattle.dv_catalog.specs.declared.counts.Counted.{Counted}
use Rattle.dv_catalog.specs.declared.failure.Stopped.{Stopped}
use Rattle.dv_catalog.specs.Changes.{Change, Effect, Statement, apply, changes_of, done_to}
use Rattle.dv_catalog.specs.Marks.{AreMarkedBy, Marked}
use Rattle.dv_catalog.specs.State.{Namespaces, collection_of, lists_of}
use Rattle.dv_catalog.specs.Inner.Parts.{IsCut, IsRefused, MakesCounted, StandBehind}
use Rattle.dv_core.proofs.Marking.{none_changed}

take_none : (changes : List Change) → take 0 changes ≡ []
take_none [] = refl
take_none (change ∷ changes) = refl

module _ (namespace : List ℕ) (statement : Statement) (stopped : Stopped) (old : Marked) (none : stopped.done ≡ 0) where
  abbrev does : Result Effect Refusal
  does = done_to (collection_of namespace old.state.namespaces) statement

  made : take stopped.done (changes_of does) ≡ []
  made = ap (λ (n : ℕ). take n (changes_of does)) none ∙ take_none (changes_of does)

  left : (new : Namespaces) → IsRefused does old.state.namespaces stopped new ⊎ IsCut namespace does old.state.namespaces stopped new → new ≡ old.state.namespaces
  left new (inl refused) = refused.kept
  left new (inr cut) = cut.made ∙ ap (λ (changes : List Change). apply namespace changes old.state.namespaces) made

  -- a statement that stopped before its first change left everything unchanged
  pub unbegun : (new : Marked) → MakesCounted namespace statement old (Err stopped) new → new.state.views ≡ old.state.views → StandBehind {B = Counted} namespace statement old (Err stopped) new.marks → new ≡ old
  unbegun new ends forms stand =
      let same = left new.state.namespaces ends in
      let still =
      none_changed namespace (lists_of old.state.namespaces) old.state.views old.marks new.marks
      (subst (λ (changes : List Change). AreMarkedBy namespace changes (lists_of old.state.namespaces) old.state.views old.marks new.marks) made stand) in
      λ i. record { state = record { namespaces = same i; views = forms i }; marks = still i }
