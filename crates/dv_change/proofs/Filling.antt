-- First rows that operators take in one after the other, each through all of them.
use Rattle.std.proofs.Common.{◌≡◌, ◌∙◌, ap, refl, sym, subst, List, [], ◌∷◌, ◌++◌, ℕ, None}
use Rattle.std.specs.List.{AllByRecursion}
use Rattle.dv_change.specs.declared.change.Change.{Change}
use Rattle.dv_change.specs.declared.taking.Taken.{Taken}
use Rattle.dv_change.specs.Changes.{Positioned, with_change, with_changes}
use Rattle.dv_change.specs.Inner.Changes.{IsExactChange, IsPositioned}
use Rattle.dv_change.specs.Inner.DiffLaws.{exact-both, with_changes-both}
use Rattle.dv_change.specs.Inner.Fed.{AreFilling, AreHeld, ChainTakes, IsFilled}
use Rattle.dv_change.specs.Inner.Told.{told_along, with_old}
use Rattle.dv_change.specs.Inner.ToldLaws.{told-both}
use Rattle.dv_change.specs.Work.{Transform, handed, pass, through_forms}
use Rattle.dv_change.proofs.Linking.{exact-handed}
use Rattle.dv_change.proofs.Passing.{nothing_through}

module _ {O : Type 0} (makes : O → List Positioned → Positioned → Positioned) (holds : O → List Positioned → Positioned → Type 0)
    (positioned : (o : O) (others : List Positioned) (left : Positioned) → holds o others left → IsPositioned left × AllByRecursion (λ rows. IsPositioned rows) others)
    (ordered : (o : O) (others : List Positioned) (rows : Positioned) → IsPositioned rows → IsPositioned (makes o others rows)) where
  -- the changes that the last operator returns for exact changes are exact
  exact-pass : (operators : List O) (forms : List Transform) (rows : Positioned) (changes : List Change) → AreHeld makes holds operators forms rows → AllByRecursion IsExactChange changes → AllByRecursion IsExactChange (pass forms rows changes)
  exact-pass [] [] rows changes held exact = exact
  exact-pass [] (form ∷ forms) rows changes held exact = absurd held
  exact-pass (o ∷ operators) [] rows changes held exact = absurd held
  exact-pass (o ∷ operators) (form ∷ forms) rows changes held exact =
      let f = form.makes form.named in
      let keeps : (r : Positioned) → IsPositioned r → IsPositioned (f r) = subst (λ (k : List Positioned → Positioned → Positioned). (r : Positioned) → IsPositioned r → IsPositioned (k form.named r)) held.0 (ordered o form.named) in
      exact-pass operators forms (f rows) (handed f rows changes) held.2 (exact-handed f keeps rows changes (positioned o form.named rows held.1).0 exact)

  module _ (forms : List Transform) (changes : List Change) where
    pub filling-first : ((o : O) (others : List Positioned) → makes o others [] ≡ []) → (operators : List O) (items made : List Taken) → AreHeld makes holds operators forms [] → AllByRecursion IsExactChange changes → items ≡ told_along [] changes → made ≡ []
        → AreFilling makes holds operators forms items changes made
    filling-first empty operators items made held exact are none = record {
      rows = [];
      rest = changes;
      are = are;
      exact = exact;
      held = held;
      all = refl;
      outs = [];
      exactly = tt;
      told = none;
      leads = sym (nothing_through makes holds positioned ordered empty operators forms held);
    }

    module _ (operators after : List O) (taken : Taken) (items made now : List Taken) (first last : ℕ) (takes : ChainTakes makes holds None operators after (taken ∷ []) made now first last) where
      next : (u : AreFilling makes holds operators forms (taken ∷ items) changes made) (rest : List Change) → u.rest ≡ rest → AreFilling makes holds after forms items changes now
      next u [] is = let are : taken ∷ items ≡ told_along u.rows [] = u.are ∙ ap (told_along u.rows) is in absurd cc
      next u (change ∷ rest) is =
          let are : taken ∷ items ≡ told_along u.rows (change ∷ rest) = u.are ∙ ap (told_along u.rows) is in
          let told : taken ≡ with_old u.rows change = cc in
          let others : items ≡ told_along (with_change u.rows change) rest = cc in
          let exact = subst (λ (cs : List Change). AllByRecursion IsExactChange cs) is u.exact in
          let passed = takes forms u.rows (change ∷ []) u.held (exact.0, tt) (ap (λ t. t ∷ []) told) tt in
          let more = pass forms u.rows (change ∷ []) in
          record {
            rows = with_change u.rows change;
            rest = rest;
            are = others;
            exact = exact.1;
            held = passed.held;
            all = ap (with_changes u.rows) (sym is) ∙ u.all;
            outs = u.outs ++ more;
            exactly = exact-both u.outs more u.exactly (exact-pass operators forms u.rows (change ∷ []) u.held (exact.0, tt));
            told = passed.out ∙ ap (λ ts. ts ++ told_along (through_forms forms u.rows) more) u.told ∙ ap (λ r. told_along [] u.outs ++ told_along r more) (sym u.leads) ∙ sym (told-both [] u.outs more);
            leads = with_changes-both [] u.outs more ∙ ap (λ r. with_changes r more) u.leads ∙ passed.leads;
          }

      pub filling-next : AreFilling makes holds operators forms (taken ∷ items) changes made → AreFilling makes holds after forms items changes now
      filling-next u = next u u.rest refl

    module _ (operators : List O) (made : List Taken) where
      ended : (u : AreFilling makes holds operators forms [] changes made) (rest : List Change) → u.rest ≡ rest → IsFilled (through_forms forms) (AreHeld makes holds operators forms) changes made
      ended u [] is =
          let all : u.rows ≡ with_changes [] changes = ap (with_changes u.rows) (sym is) ∙ u.all in
          record {
            held = subst (λ (r : Positioned). AreHeld makes holds operators forms r) all u.held;
            outs = u.outs;
            exact = u.exactly;
            told = u.told;
            leads = u.leads ∙ ap (through_forms forms) all;
          }
      ended u (change ∷ rest) is = let are : [] ≡ told_along u.rows (change ∷ rest) = u.are ∙ ap (told_along u.rows) is in absurd cc

      pub filling-end : AreFilling makes holds operators forms [] changes made → IsFilled (through_forms forms) (AreHeld makes holds operators forms) changes made
      filling-end u = ended u u.rest refl
