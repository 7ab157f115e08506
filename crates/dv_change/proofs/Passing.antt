-- Changes that operators receive, one operator after the other.
use Rattle.std.proofs.Common.{◌≡◌, ◌∙◌, ap, sym, subst, refl, List, [], ◌∷◌, ◌+◌, ℕ, Option, arith, length}
use Rattle.std.specs.Prelude.{◌<◌, ◌-◌, Bool, true, if◌then◌else◌, nat_lt}
use Rattle.std.specs.List.{AllByRecursion}
use Rattle.std.proofs.lemmas.Bool.{lt-ltb}
use Rattle.dv_change.specs.declared.change.Change.{Change}
use Rattle.dv_change.specs.declared.input.Input.TheVariants.{Named}
use Rattle.dv_change.specs.declared.taking.Taken.{Taken}
use Rattle.dv_change.specs.Changes.{Positioned, with_changes}
use Rattle.dv_change.specs.Difference.{diff}
use Rattle.dv_change.specs.Inner.Changes.{IsExactChange, IsPositioned}
use Rattle.dv_change.specs.Inner.DiffLaws.{apply-diff, exact-diff}
use Rattle.dv_change.specs.Inner.Fed.{AreFresh, AreHeld, AreKept, ChainFills, ChainStays, ComesIn, IsFed, IsFilled, IsPassed, IsPassedIn, rows_named}
use Rattle.dv_change.specs.Inner.Told.{ComesTo, StaysTaken, list_at, told_along, with_old}
use Rattle.dv_change.specs.Inputs.{input_changed_at}
use Rattle.dv_change.specs.Raised.{raised}
use Rattle.dv_change.specs.Work.{Transform, handed, owed_by, stage_rows, through_forms, work}
use Rattle.dv_change.proofs.Linking.{apply-handed, exact-handed, raised-twice}

plus-none : (n : ℕ) → n ≡ n + 0
plus-none n = omega arith

module _ {O : Type 0} (makes : O → List Positioned → Positioned → Positioned) (holds : O → List Positioned → Positioned → Type 0) where
  -- the first operator holds what it held, and so do those after it
  module _ (o after : O) (behind behind_after : List O) (same : makes after ≡ makes o) (first : StaysTaken (holds o) (holds after)) (rest : ChainStays makes holds behind behind_after) where
    pub stays-more : (operators : List O) → operators ≡ o ∷ behind → ChainStays makes holds operators (after ∷ behind_after)
    stays-more operators is [] rows held = absurd (subst (λ (os : List O). AreHeld makes holds os [] rows) is held)
    stays-more operators is (form ∷ forms) rows held =
        let all = subst (λ (os : List O). AreHeld makes holds os (form ∷ forms) rows) is held in
        (same ∙ all.0, first form.named rows all.1, rest forms (stage_rows form rows) all.2)

  -- operators that hold what they held, before they are filled and afterwards
  pub filled-packed : (old first filled packed : List O) (all made : List Taken) → ChainStays makes holds old first → ChainFills makes holds first filled all made → ChainStays makes holds filled packed → ChainFills makes holds old packed all made
  filled-packed old first filled packed all made before fills stays = λ forms changes held exact are.
      let f = fills forms changes (before forms [] held) exact are in
      record { held = stays forms (with_changes [] changes) f.held; outs = f.outs; exact = f.exact; told = f.told; leads = f.leads }

module _ {O : Type 0} (makes : O → List Positioned → Positioned → Positioned) (holds : O → List Positioned → Positioned → Type 0)
    (positioned : (o : O) (others : List Positioned) (left : Positioned) → holds o others left → IsPositioned left × AllByRecursion (λ rows. IsPositioned rows) others)
    (ordered : (o : O) (others : List Positioned) (rows : Positioned) → IsPositioned rows → IsPositioned (makes o others rows)) where
  module _ (kept : Option Positioned) (o after : O) (behind behind_after : List O) (items told before now : List Taken) (first mid last : ℕ) (same : makes after ≡ makes o)
      (fed : (others : List Positioned) (left : Positioned) (changes : List Change) → holds o others left → AllByRecursion IsExactChange changes → items ≡ told_along left changes → IsFed (makes o others) (holds after others) left changes [] told first mid)
      (passed : (forms : List Transform) (rows : Positioned) (changes : List Change) → AreHeld makes holds behind forms rows → AllByRecursion IsExactChange changes → told ≡ told_along rows changes → AreKept kept (through_forms forms rows) → IsPassed makes holds behind_after forms rows changes before now mid last) where
    more : (forms : List Transform) (rows : Positioned) (changes : List Change) → AreHeld makes holds (o ∷ behind) forms rows → AllByRecursion IsExactChange changes → items ≡ told_along rows changes → AreKept kept (through_forms forms rows)
        → IsPassed makes holds (after ∷ behind_after) forms rows changes before now first last
    more [] rows changes held exact are is = absurd held
    more (form ∷ forms) rows changes held exact are is =
        let f = form.makes form.named in
        let in_order = (positioned o form.named rows held.1).0 in
        let one : IsFed f (holds after form.named) rows changes [] told first mid = subst (λ (k : List Positioned → Positioned → Positioned). IsFed (k form.named) (holds after form.named) rows changes [] told first mid) held.0 (fed form.named rows changes held.1 exact are) in
        let keeps : (r : Positioned) → IsPositioned r → IsPositioned (f r) = subst (λ (k : List Positioned → Positioned → Positioned). (r : Positioned) → IsPositioned r → IsPositioned (k form.named r)) held.0 (ordered o form.named) in
        let rest = passed forms (f rows) (handed f rows changes) held.2 (exact-handed f keeps rows changes in_order exact) one.out is in
        let leads = apply-handed f keeps rows changes in_order exact in
        record {
          held = (same ∙ held.0, one.held, subst (λ (r : Positioned). AreHeld makes holds behind_after forms r) leads rest.held);
          out = rest.out;
          ticks = rest.ticks ∙ ap (λ n. raised n (work forms (f rows) (handed f rows changes))) one.ticks ∙ raised-twice first (length changes + length (handed f rows changes)) (work forms (f rows) (handed f rows changes));
          leads = rest.leads ∙ ap (through_forms forms) leads;
        }

    pub passed-more : (operators : List O) → operators ≡ o ∷ behind → (forms : List Transform) (rows : Positioned) (changes : List Change) → AreHeld makes holds operators forms rows → AllByRecursion IsExactChange changes → items ≡ told_along rows changes → AreKept kept (through_forms forms rows)
        → IsPassed makes holds (after ∷ behind_after) forms rows changes before now first last
    passed-more operators is forms rows changes held exact are same_rows = more forms rows changes (subst (λ (os : List O). AreHeld makes holds os forms rows) is held) exact are same_rows

  -- the last operator by itself, which receives changes
  module _ (kept : Option Positioned) (o after : O) (items before now : List Taken) (first last : ℕ) (same : makes after ≡ makes o)
      (fed : (others : List Positioned) (left : Positioned) (changes : List Change) → holds o others left → AllByRecursion IsExactChange changes → items ≡ told_along left changes → AreKept kept (makes o others left) → IsFed (makes o others) (holds after others) left changes before now first last) where
    alone : (forms : List Transform) (rows : Positioned) (changes : List Change) → AreHeld makes holds (o ∷ []) forms rows → AllByRecursion IsExactChange changes → items ≡ told_along rows changes → AreKept kept (through_forms forms rows)
        → IsPassed makes holds (after ∷ []) forms rows changes before now first last
    alone [] rows changes held exact are is = absurd held
    alone (form ∷ []) rows changes held exact are is =
        let f = form.makes form.named in
        let one : IsFed f (holds after form.named) rows changes before now first last = subst (λ (k : List Positioned → Positioned → Positioned). IsFed (k form.named) (holds after form.named) rows changes before now first last) held.0
        (fed form.named rows changes held.1 exact are (subst (λ (r : Positioned). AreKept kept r) (ap (λ (k : List Positioned → Positioned → Positioned). k form.named rows) (sym held.0)) is)) in
        let keeps : (r : Positioned) → IsPositioned r → IsPositioned (f r) = subst (λ (k : List Positioned → Positioned → Positioned). (r : Positioned) → IsPositioned r → IsPositioned (k form.named r)) held.0 (ordered o form.named) in
        record {
          held = (same ∙ held.0, one.held, tt);
          out = one.out;
          ticks = one.ticks ∙ ap (raised first) (plus-none (length changes + length (handed f rows changes)));
          leads = apply-handed f keeps rows changes (positioned o form.named rows held.1).0 exact;
        }
    alone (form ∷ other ∷ forms) rows changes held exact are is = absurd held.2

    pub passed-alone : (operators : List O) → operators ≡ o ∷ [] → (forms : List Transform) (rows : Positioned) (changes : List Change) → AreHeld makes holds operators forms rows → AllByRecursion IsExactChange changes → items ≡ told_along rows changes → AreKept kept (through_forms forms rows)
        → IsPassed makes holds (after ∷ []) forms rows changes before now first last
    passed-alone operators is forms rows changes held exact are same_rows = alone forms rows changes (subst (λ (os : List O). AreHeld makes holds os forms rows) is held) exact are same_rows

  -- ---- a change of a list that the first operator reads

  module _ (kept_rows : Option Positioned) (i : ℕ) (change : Change) (taken : Taken) (exact : IsExactChange change) (o after : O) (behind behind_after : List O) (told before now : List Taken) (first mid last : ℕ) (named : ℕ) (same : makes after ≡ makes o) (counted : (others : List Positioned) (left : Positioned) → holds o others left → named ≡ length others) where
    pub named-here : i < named
        → ((others : List Positioned) (left : Positioned) (c : Change) → holds o others left → ComesTo (Named i) taken c others left → holds after (input_changed_at i c others) left)
        → ((others : List Positioned) (left : Positioned) (c : Change) → holds o others left → ComesTo (Named i) taken c others left → told ≡ told_along (makes o others left) (owed_by (Named i) c (makes o) others left))
        → ((others : List Positioned) (left : Positioned) (c : Change) → holds o others left → ComesTo (Named i) taken c others left → mid ≡ raised first (1 + length (owed_by (Named i) c (makes o) others left)))
        → ((forms : List Transform) (rows : Positioned) (changes : List Change) → AreHeld makes holds behind forms rows → AllByRecursion IsExactChange changes → told ≡ told_along rows changes → AreKept kept_rows (through_forms forms rows) → IsPassed makes holds behind_after forms rows changes before now mid last)
        → (forms : List Transform) (rows : Positioned) → AreHeld makes holds (o ∷ behind) forms rows → ComesIn (Named i) taken change forms rows → AreKept kept_rows (through_forms forms rows)
        → IsPassedIn makes holds (Named i) change (after ∷ behind_after) forms rows before now first last
    named-here low keeps tells counts passed [] rows held comes is = absurd held
    named-here low keeps tells counts passed (form ∷ forms) rows held comes is =
        let count = counted form.named rows held.1 in
        let here : nat_lt i (length form.named) ≡ true = lt-ltb i (length form.named) (subst (λ (n : ℕ). i < n) count low) in
        let one : ComesTo (Named i) taken change form.named rows = record { there = subst (λ (n : ℕ). i < n) count low; told = comes.told ∙ ap (λ (b : Bool). with_old (if b then list_at i form.named else rows_named (i - length form.named) forms) change) here; exact = exact } in
        let f = form.makes in
        let kept = keeps form.named rows change held.1 one in
        let ordered_f : (others : List Positioned) (r : Positioned) → IsPositioned r → IsPositioned (f others r) = subst (λ (k : List Positioned → Positioned → Positioned). (others : List Positioned) (r : Positioned) → IsPositioned r → IsPositioned (k others r)) held.0 (ordered o) in
        let in_order = (positioned o form.named rows held.1).0 in
        let olds = f form.named rows in
        let news = f (input_changed_at i change form.named) rows in
        let old_order = ordered_f form.named rows in_order in
        let new_order = ordered_f (input_changed_at i change form.named) rows in_order in
        let all = diff olds news in
        let telling : told ≡ told_along olds all = tells form.named rows change held.1 one ∙ ap (λ (k : List Positioned → Positioned → Positioned). told_along (k form.named rows) (owed_by (Named i) change k form.named rows)) held.0 in
        let counting : mid ≡ raised first (1 + length all) = counts form.named rows change held.1 one ∙ ap (λ (k : List Positioned → Positioned → Positioned). raised first (1 + length (owed_by (Named i) change k form.named rows))) held.0 in
        let rest = passed forms olds all held.2 (exact-diff olds news old_order new_order) telling is in
        let leads : with_changes olds all ≡ news = apply-diff olds news old_order new_order in
        record {
          held = rw here (same ∙ held.0, kept, subst (λ (r : Positioned). AreHeld makes holds behind_after forms r) leads rest.held);
          out = rw here rest.out;
          ticks = rw here (rest.ticks ∙ ap (λ n. raised n (work forms olds all)) counting ∙ raised-twice first (1 + length all) (work forms olds all));
          leads = rw here (rest.leads ∙ ap (through_forms forms) leads);
        }

  -- ---- rows for operators that have taken in none

  module _ (empty : (o : O) (others : List Positioned) → makes o others [] ≡ []) where
    -- an operator's result for no rows has no rows
    pub nothing_made : (o : O) (form : Transform) → makes o ≡ form.makes → stage_rows form [] ≡ []
    nothing_made o form same = ap (λ (k : List Positioned → Positioned → Positioned). k form.named []) (sym same) ∙ empty o form.named

    pub nothing_through : (operators : List O) (forms : List Transform) → AreHeld makes holds operators forms [] → through_forms forms [] ≡ []
    nothing_through [] [] held = refl
    nothing_through [] (form ∷ forms) held = absurd held
    nothing_through (o ∷ operators) [] held = absurd held
    nothing_through (o ∷ operators) (form ∷ forms) held =
        let none = nothing_made o form held.0 in
        ap (through_forms forms) none ∙ nothing_through operators forms (subst (λ (r : Positioned). AreHeld makes holds operators forms r) none held.2)

    module _ (o after : O) (behind behind_after : List O) (items made last : List Taken) (same : makes after ≡ makes o)
        (filled : (others : List Positioned) (changes : List Change) → holds o others [] → AllByRecursion IsExactChange changes → items ≡ told_along [] changes → IsFilled (makes o others) (holds after others) changes made)
        (rest : (forms : List Transform) (changes : List Change) → AreHeld makes holds behind forms [] → AllByRecursion IsExactChange changes → made ≡ told_along [] changes → IsFilled (through_forms forms) (AreHeld makes holds behind_after forms) changes last) where
      through : (forms : List Transform) (changes : List Change) → AreHeld makes holds (o ∷ behind) forms [] → AllByRecursion IsExactChange changes → items ≡ told_along [] changes
          → IsFilled (through_forms forms) (AreHeld makes holds (after ∷ behind_after) forms) changes last
      through [] changes held exact are = absurd held
      through (form ∷ forms) changes held exact are =
          let one = filled form.named changes held.1 exact are in
          let none = nothing_made o form held.0 in
          let all = rest forms one.outs (subst (λ (r : Positioned). AreHeld makes holds behind forms r) none held.2) one.exact one.told in
          let rows = with_changes [] changes in
          let makes_of : makes o form.named rows ≡ stage_rows form rows = ap (λ (k : List Positioned → Positioned → Positioned). k form.named rows) held.0 in
          let leads : with_changes [] one.outs ≡ stage_rows form rows = one.leads ∙ makes_of in
          record {
            held = (same ∙ held.0, one.held, subst (λ (r : Positioned). AreHeld makes holds behind_after forms r) leads all.held);
            outs = all.outs;
            exact = all.exact;
            told = all.told;
            leads = all.leads ∙ ap (through_forms forms) leads;
          }

      pub filled-through : (operators : List O) → operators ≡ o ∷ behind → (forms : List Transform) (changes : List Change) → AreHeld makes holds operators forms [] → AllByRecursion IsExactChange changes → items ≡ told_along [] changes
          → IsFilled (through_forms forms) (AreHeld makes holds (after ∷ behind_after) forms) changes last
      filled-through operators is forms changes held exact are = through forms changes (subst (λ (os : List O). AreHeld makes holds os forms []) is held) exact are

    -- operators that have taken in no rows
    pub fresh-held : (operators : List O) (forms : List Transform) → AreFresh makes holds operators forms → AreHeld makes holds operators forms []
    fresh-held [] [] fresh = tt
    fresh-held [] (form ∷ forms) fresh = absurd fresh
    fresh-held (o ∷ operators) [] fresh = absurd fresh
    fresh-held (o ∷ operators) (form ∷ forms) fresh = (fresh.0, fresh.1, subst (λ (r : Positioned). AreHeld makes holds operators forms r) (sym (nothing_made o form fresh.0)) (fresh-held operators forms fresh.2))
