-- Statements that are cut.
use Rattle.std.proofs.Common.{◌≡◌, ◌≤◌, ◌⊎◌, inl, inr, ℕ, List, [], length, take, Result, Err, refl, sym, ap, subst, ◌∙◌}
use Rattle.dv_refusal.specs.declared.refusal.Refusal.{Refusal}
use Rattle.dv_refusal.specs.declared.refusal.Refusal.TheVariants.{WantOfMemory}
use Rattle.dv_catalog.specs.declared.counts.Counted.{Counted}
use Rattle.dv_catalog.specs.declared.failure.Stopped.{Stopped}
use Rattle.dv_catalog.specs.Changes.{Change, Effect, Statement, apply, changes_of, done_to}
use Rattle.dv_catalog.specs.Inner.EffectView.{AreFirst}
use Rattle.dv_catalog.specs.Marks.{AreMarkedBy, Marked}
use Rattle.dv_catalog.specs.Inner.Parts.{Cuts, IsCut, IsRefused, StandBy}
use Rattle.dv_catalog.specs.State.{Namespaces, collection_of, lists_of}
use Rattle.dv_catalog.proofs.Marking.{stands_before, still_marked}
use Rattle.dv_catalog.proofs.Stopping.{first_fewer, first_made, take_none}

-- ---- before its first change

module _ (namespace : List ℕ) (does : Result Effect Refusal) (stopped : Stopped) (none : stopped.done ≡ 0) where
  none_changed : take stopped.done (changes_of does) ≡ []
  none_changed = ap (λ (n : ℕ). take n (changes_of does)) none ∙ take_none (changes_of does)

  pub none_applied : (namespaces : Namespaces) → apply namespace (take stopped.done (changes_of does)) namespaces ≡ namespaces
  none_applied namespaces = ap (λ (cs : List Change). apply namespace cs namespaces) none_changed

  module _ (old new : Marked) where
    namespaces_left : IsRefused does old.state.namespaces stopped new.state.namespaces ⊎ IsCut namespace does old.state.namespaces stopped new.state.namespaces → new.state.namespaces ≡ old.state.namespaces
    namespaces_left (inl refused) = refused.kept
    namespaces_left (inr cut) = cut.made ∙ none_applied old.state.namespaces

    -- everything is unchanged
    pub unbegun : IsRefused does old.state.namespaces stopped new.state.namespaces ⊎ IsCut namespace does old.state.namespaces stopped new.state.namespaces
        → new.state.views ≡ old.state.views → StandBy {B = Counted} namespace does old (Err stopped) new.marks → new ≡ old
    unbegun ends forms stand =
        let left = namespaces_left ends in
        let still = still_marked namespace (take stopped.done (changes_of does)) (lists_of old.state.namespaces) old.state.views old.marks new.marks none_changed stand in
        λ i. record { state = record { namespaces = left i; views = forms i }; marks = still i }

module _ (namespace : List ℕ) (statement : Statement) (old : Marked) where
  abbrev does : Result Effect Refusal
  does = done_to (collection_of namespace old.state.namespaces) statement

  pub cuts_nothing : Cuts namespace statement old (record { refusal = WantOfMemory; done = 0 }) old
  cuts_nothing = record {
    cut = record { so = refl; fewer = inl refl; made = sym (none_applied namespace does (record { refusal = WantOfMemory; done = 0 }) refl old.state.namespaces) };
    views = refl;
    marks = stands_before {B = Counted} namespace does old (Err (record { refusal = WantOfMemory; done = 0 })) (record { refusal = WantOfMemory; done = 0 }) refl refl;
  }

  pub still_uncut : (stopped : Stopped) (new : Marked) → stopped.done ≡ 0 → Cuts namespace statement old stopped new → new ≡ old
  still_uncut stopped new none cuts = unbegun namespace does stopped none old new (inr cuts.cut) cuts.views cuts.marks

  -- after another statement that stopped before its first change
  pub cuts_after : (first : Stopped) (mid : Marked) (stopped : Stopped) (new : Marked) → first.done ≡ 0
      → IsRefused does old.state.namespaces first mid.state.namespaces ⊎ IsCut namespace does old.state.namespaces first mid.state.namespaces → mid.state.views ≡ old.state.views
      → StandBy {B = Counted} namespace does old (Err first) mid.marks → Cuts namespace statement mid stopped new → Cuts namespace statement old stopped new
  cuts_after first mid stopped new none ends forms stand cuts = subst (λ (before : Marked). Cuts namespace statement before stopped new) (unbegun namespace does first none old mid ends forms stand) cuts

  -- ---- after some of its changes, which are its first ones

  pub cuts_first : (some : List Change) (done : ℕ) (new : Marked) → AreFirst some (changes_of does) → done ≤ length some → new.state.namespaces ≡ apply namespace (take done some) old.state.namespaces → new.state.views ≡ old.state.views
      → AreMarkedBy namespace (take done some) (lists_of old.state.namespaces) old.state.views old.marks new.marks → Cuts namespace statement old (record { refusal = WantOfMemory; done = done }) new
  cuts_first some done new first within made forms stand =
      let same = first_made some (changes_of does) first done within in
      record {
        cut = record { so = refl; fewer = first_fewer some (changes_of does) first done within; made = made ∙ ap (λ (cs : List Change). apply namespace cs old.state.namespaces) same };
        views = forms;
        marks = subst (λ (cs : List Change). AreMarkedBy namespace cs (lists_of old.state.namespaces) old.state.views old.marks new.marks) same stand;
      }
