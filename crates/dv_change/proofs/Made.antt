-- The result of operators after a change, after their first rows, and before any row.
use Rattle.std.proofs.Common.{◌≡◌, ◌∙◌, ◌++◌, ap, refl, sym, subst, List, [], Some}
use Rattle.std.specs.List.{AllByRecursion}
use Rattle.dv_change.specs.declared.change.Change.{Change}
use Rattle.dv_change.specs.declared.change.Change.TheVariants.{Put, Gone}
use Rattle.dv_change.specs.declared.input.Input.{Input}
use Rattle.dv_change.specs.declared.input.Input.TheVariants.{Left, Named}
use Rattle.dv_change.specs.declared.taking.Taken.{Taken}
use Rattle.dv_change.specs.declared.told_rows.ToldRows.{ToldRows}
use Rattle.dv_change.specs.Changes.{Positioned, with_changes}
use Rattle.dv_change.specs.Inner.Changes.{IsExactChange, IsPositioned, position_changed}
use Rattle.dv_change.specs.Inner.DiffLaws.{positioned-changed, positioned-changes}
use Rattle.dv_change.specs.Inner.Fed.{AreFresh, AreHeld, ChainFills, ChainTakesIn, ComesIn, IsPassedIn}
use Rattle.dv_change.specs.Inner.RowLaws.{positioned-none}
use Rattle.dv_change.specs.Inner.Told.{changes_told, input_rows, told_along, with_old}
use Rattle.dv_change.specs.Inner.ToldLaws.{changes-told}
use Rattle.dv_change.specs.Inner.ToldRows.{HaveMade, TakesTold}
use Rattle.dv_change.specs.Inner.Work.{lists_of}
use Rattle.dv_change.specs.Inputs.{HasInput, left_after}
use Rattle.dv_change.specs.Positions.{IsExact}
use Rattle.dv_change.specs.Work.{Transform, pass_in, through_forms}
use Rattle.dv_change.proofs.Flat.{rows-at, there-counted}
use Rattle.dv_change.proofs.Passing.{fresh-held, nothing_through}

exact-change : (c : Change) → IsExact (position_changed c) → IsExactChange c
exact-change (Put pos row) exact = exact
exact-change (Gone pos) exact = exact

-- a change of one of the lists of stages is a change of an input of the stages
comes-in : (input : Input) (taken : Taken) (change : Change) (forms : List Transform) (left : Positioned) → IsExact taken.pos → HasInput input (lists_of forms) → taken ≡ with_old (input_rows input (lists_of forms) left) change → ComesIn input taken change forms left
comes-in input taken change forms left exact has told = record {
  there = there-counted input forms (lists_of forms) refl has;
  told = told ∙ ap (λ (rows : Positioned). with_old rows change) (rows-at input forms (lists_of forms) left refl);
  exact = exact-change change (subst IsExact (ap (λ (t : Taken). t.pos) told) exact);
}

still-positioned : (input : Input) (change : Change) (left : Positioned) → IsPositioned left → IsExactChange change → IsPositioned (left_after input change left)
still-positioned Left change left are exact = positioned-changed left change are exact
still-positioned (Named i) change left are exact = are

module _ {O : Type 0} (makes : O → List Positioned → Positioned → Positioned) (holds : O → List Positioned → Positioned → Type 0) where
  -- after a change that went through the operators, whose outcome was applied and returned
  pub takes_told : (input : Input) (taken : Taken) (old new : ToldRows O) (nothing out before now : List Taken) → IsExact taken.pos → ChainTakesIn makes holds (Some old.rows.entries) input taken old.operators new.operators nothing out old.ticks new.ticks → nothing ≡ []
      → new.rows.entries ≡ with_changes old.rows.entries (changes_told out) → now ≡ before ++ out → TakesTold makes holds input taken old new before now
  takes_told input taken old new nothing out before now exact passed none rows telling forms left change made has told =
      let comes = comes-in input taken change forms left exact has told in
      let through = subst (λ (ts : List Taken). IsPassedIn makes holds input change new.operators forms left ts out old.ticks new.ticks) none (passed forms left change made.held comes made.made) in
      let changes = pass_in input change forms left in
      let outs : changes_told out ≡ changes = ap changes_told through.out ∙ changes-told (through_forms forms left) changes in
      let leads : new.rows.entries ≡ with_changes old.rows.entries changes = rows ∙ ap (with_changes old.rows.entries) outs in
      record {
        made = record {
          held = through.held;
          positioned = still-positioned input change left made.positioned comes.exact;
          made = leads ∙ ap (λ (r : Positioned). with_changes r changes) made.made ∙ through.leads;
        };
        told = telling ∙ ap (λ (ts : List Taken). before ++ ts) (through.out ∙ ap (λ (r : Positioned). told_along r changes) (sym made.made));
        ticks = through.ticks;
        leads = leads;
      }

  module _ (positioned : (o : O) (others : List Positioned) (left : Positioned) → holds o others left → IsPositioned left × AllByRecursion (λ rows. IsPositioned rows) others)
      (ordered : (o : O) (others : List Positioned) (rows : Positioned) → IsPositioned rows → IsPositioned (makes o others rows)) (empty : (o : O) (others : List Positioned) → makes o others [] ≡ []) where
    -- before any row
    pub made_first : (operators fresh : List O) (outs : Positioned) (forms : List Transform) → operators ≡ fresh → outs ≡ [] → AreFresh makes holds fresh forms → HaveMade makes holds operators outs forms []
    made_first operators fresh outs forms same none are =
        let held = fresh-held makes holds positioned ordered empty fresh forms are in
        record {
          held = subst (λ (os : List O). AreHeld makes holds os forms []) (sym same) held;
          positioned = positioned-none;
          made = none ∙ sym (nothing_through makes holds positioned ordered empty fresh forms held);
        }

    -- after the first rows, whose outcome was applied
    pub made_filled : (all made : List Taken) (old new : List O) (outs now : Positioned) → ChainFills makes holds old new all made → now ≡ with_changes outs (changes_told made) → (forms : List Transform) (changes : List Change) → HaveMade makes holds old outs forms []
        → AllByRecursion IsExactChange changes → all ≡ told_along [] changes → HaveMade makes holds new now forms (with_changes [] changes)
    made_filled all made old new outs now fills rows forms changes first exact told =
        let filled = fills forms changes first.held exact told in
        let nothing : outs ≡ [] = first.made ∙ nothing_through makes holds positioned ordered empty old forms first.held in
        record {
          held = filled.held;
          positioned = positioned-changes [] changes positioned-none exact;
          made = rows ∙ (λ i. with_changes (nothing i) (changes_told made)) ∙ ap (with_changes []) (ap changes_told filled.told ∙ changes-told [] filled.outs) ∙ filled.leads;
        }
