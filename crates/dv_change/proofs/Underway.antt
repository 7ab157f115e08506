-- Changes that an operator receives, one after the other.
use Rattle.std.proofs.Common.{◌≡◌, ◌≤◌, ◌∙◌, ap, sym, subst, refl, List, [], ◌∷◌, ◌++◌, ◌+◌, ℕ, length, arith, append_assoc, append-nil, length-append}
use Rattle.std.specs.Prelude.{suc}
use Rattle.std.specs.List.{AllByRecursion}
use Rattle.dv_change.specs.declared.change.Change.{Change}
use Rattle.dv_change.specs.declared.taking.Taken.{Taken}
use Rattle.dv_change.specs.Changes.{Positioned, with_change, with_changes}
use Rattle.dv_change.specs.Inner.Changes.{IsExactChange, IsPositioned}
use Rattle.dv_change.specs.Difference.{diff}
use Rattle.dv_change.specs.Inner.DiffLaws.{apply-diff, positioned-changed}
use Rattle.dv_change.specs.Inner.Fed.{IsFed, IsFilled, IsUnderway}
use Rattle.dv_change.specs.Raised.{raised}
use Rattle.dv_change.specs.Inner.RowLaws.{positioned-none}
use Rattle.dv_change.specs.Inner.Told.{told_along, with_old}
use Rattle.dv_change.specs.Inner.ToldLaws.{told-both}
use Rattle.dv_change.specs.Work.{handed}
use Rattle.dv_change.proofs.Linking.{apply-handed, exact-handed, raised-twice}

pub raised-none : (n : ℕ) → n ≡ raised n 0
raised-none n = omega arith

one-more-tick : (d r h : ℕ) → 1 + d + (r + h) ≡ suc r + (d + h)
one-more-tick d r h = omega arith

module _ (m : Positioned → Positioned) (keeps : (rows : Positioned) → IsPositioned rows → IsPositioned (m rows)) (holds held_after : Positioned → Type 0) (are_in_order : (rows : Positioned) → holds rows → IsPositioned rows) where
  -- what one change does to it
  abbrev pub TakesOne : Taken → (now after_now : List Taken) → (after after_all : ℕ) → Type 0
  TakesOne taken now after_now after after_all =
      (rows : Positioned) (change : Change) → holds rows → taken ≡ with_old rows change → IsExactChange change
      → held_after (with_change rows change) × (after_now ≡ now ++ told_along (m rows) (diff (m rows) (m (with_change rows change)))) × (after_all ≡ raised after (1 + length (diff (m rows) (m (with_change rows change)))))

  module _ (taken : Taken) (items : List Taken) (left : Positioned) (changes : List Change) (before now after_now : List Taken) (first after after_all : ℕ) (law : TakesOne taken now after_now after after_all) where
    next : (rows : Positioned) (rest : List Change) → taken ∷ items ≡ told_along rows rest → AllByRecursion IsExactChange rest → holds rows → with_changes rows rest ≡ with_changes left changes
        → now ++ told_along (m rows) (handed m rows rest) ≡ before ++ told_along (m left) (handed m left changes)
        → raised after (length rest + length (handed m rows rest)) ≡ raised first (length changes + length (handed m left changes))
        → first ≤ after
        → IsUnderway m held_after items left changes before after_now first after_all
    next rows [] are exact held all out ticks fewer = absurd cc
    next rows (change ∷ rest) are exact held all out ticks fewer =
        let one : taken ≡ with_old rows change = cc in
        let others : items ≡ told_along (with_change rows change) rest = cc in
        let done = law rows change held one exact.0 in
        let later = with_change rows change in
        let owed = diff (m rows) (m later) in
        let in_order = are_in_order rows held in
        let leads : with_changes (m rows) owed ≡ m later = apply-diff (m rows) (m later) (keeps rows in_order) (keeps later (positioned-changed rows change in_order exact.0)) in
        record {
          rows = later;
          rest = rest;
          are = others;
          exact = exact.1;
          held = done.0;
          all = all;
          out =
              ap (λ o. o ++ told_along (m later) (handed m later rest)) done.1
              ∙ append_assoc now (told_along (m rows) owed) (told_along (m later) (handed m later rest))
              ∙ ap (λ ts. now ++ ts) (ap (λ r. told_along (m rows) owed ++ told_along r (handed m later rest)) (sym leads) ∙ sym (told-both (m rows) owed (handed m later rest)))
              ∙ out;
          ticks =
              ap (λ n. raised n (length rest + length (handed m later rest))) done.2
              ∙ raised-twice after (1 + length owed) (length rest + length (handed m later rest))
              ∙ ap (raised after) (one-more-tick (length owed) (length rest) (length (handed m later rest)) ∙ ap (λ n. suc (length rest) + n) (sym (length-append owed (handed m later rest))))
              ∙ ticks;
          no_fewer = let count = done.2 in omega (arith, fewer, count);
        }

    pub underway-next : IsUnderway m holds (taken ∷ items) left changes before now first after → IsUnderway m held_after items left changes before after_now first after_all
    underway-next u = next u.rows u.rest u.are u.exact u.held u.all u.out u.ticks u.no_fewer

module _ (m : Positioned → Positioned) (holds : Positioned → Type 0) (left : Positioned) (changes : List Change) (before now : List Taken) (first after : ℕ) where
  pub underway-first : (items : List Taken) → holds left → AllByRecursion IsExactChange changes → items ≡ told_along left changes → now ≡ before → after ≡ first → IsUnderway m holds items left changes before now first after
  underway-first items held exact are same count = record {
    rows = left;
    rest = changes;
    are = are;
    exact = exact;
    held = held;
    all = refl;
    out = ap (λ ts. ts ++ told_along (m left) (handed m left changes)) same;
    ticks = ap (λ n. raised n (length changes + length (handed m left changes))) count;
    no_fewer = omega (arith, count);
  }

  ended : (rows : Positioned) (rest : List Change) → [] ≡ told_along rows rest → holds rows → with_changes rows rest ≡ with_changes left changes
      → now ++ told_along (m rows) (handed m rows rest) ≡ before ++ told_along (m left) (handed m left changes)
      → raised after (length rest + length (handed m rows rest)) ≡ raised first (length changes + length (handed m left changes))
      → IsFed m holds left changes before now first after
  ended rows [] are held all out ticks = record {
    held = subst holds all held;
    out = sym (append-nil now) ∙ out;
    ticks = raised-none after ∙ ticks;
  }
  ended rows (change ∷ rest) are held all out ticks = absurd cc

  pub underway-end : IsUnderway m holds [] left changes before now first after → IsFed m holds left changes before now first after
  underway-end u = ended u.rows u.rest u.are u.held u.all u.out u.ticks

-- the only change, received by an operator that has taken in these rows
module _ (m : Positioned → Positioned) (held_after : Positioned → Type 0) (taken : Taken) (left : Positioned) (before now : List Taken) (first after : ℕ)
    (law : (change : Change) → taken ≡ with_old left change → IsExactChange change
    → held_after (with_change left change) × (now ≡ before ++ told_along (m left) (diff (m left) (m (with_change left change)))) × (after ≡ raised first (1 + length (diff (m left) (m (with_change left change)))))) where
  only : (change : Change) (rest : List Change) → taken ≡ with_old left change → [] ≡ told_along (with_change left change) rest → IsExactChange change → IsFed m held_after left (change ∷ rest) before now first after
  only change [] one none exact =
      let done = law change one exact in
      let owed = diff (m left) (m (with_change left change)) in
      record {
        held = done.0;
        out = done.1 ∙ ap (λ ds. before ++ told_along (m left) ds) (sym (append-nil owed));
        ticks = done.2 ∙ ap (λ ds. raised first (1 + length ds)) (sym (append-nil owed));
      }
  only change (other ∷ rest) one none exact = absurd cc

  pub fed-only : (changes : List Change) → taken ∷ [] ≡ told_along left changes → AllByRecursion IsExactChange changes → IsFed m held_after left changes before now first after
  fed-only [] are exact = absurd cc
  fed-only (change ∷ rest) are exact =
      let one : taken ≡ with_old left change = cc in
      let none : [] ≡ told_along (with_change left change) rest = cc in
      only change rest one none exact.0

pub nothing-left : {T : Type 0} (items : List T) → length items ≡ 0 → items ≡ []
nothing-left [] e = refl
nothing-left (item ∷ items) e = absurd cc

-- the changes that it returns for its first rows lead from no rows to its result
pub fed-filled : (m : Positioned → Positioned) (holds : Positioned → Type 0) → ((rows : Positioned) → IsPositioned rows → IsPositioned (m rows)) → m [] ≡ [] → (changes : List Change) (before now : List Taken) (first after : ℕ) → before ≡ [] → AllByRecursion IsExactChange changes → IsFed m holds [] changes before now first after → IsFilled m holds changes now
fed-filled m holds keeps empty changes before now first after none exact fed =
    let outs = handed m [] changes in
    record {
      held = fed.held;
      outs = outs;
      exact = exact-handed m keeps [] changes positioned-none exact;
      told = fed.out ∙ (λ i. none i ++ told_along (empty i) outs);
      leads = ap (λ (rows : Positioned). with_changes rows outs) (sym empty) ∙ apply-handed m keeps [] changes positioned-none exact;
    }
