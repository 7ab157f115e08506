-- Views and collections that are made, and removed.
use Rattle.std.proofs.Common.{◌≡◌, ◌⊎◌, inl, inr, ◌||◌, not, ℕ, Bool, true, false, if◌then◌else◌, List, [], ◌∷◌, ◌++◌, map, Option, Some, None, Result, Ok, Err, refl, sym, ap, subst, ◌∙◌}
use Rattle.std.proofs.lemmas.Slice.Eq.{bytes_eq-Decides}
use Rattle.std.specs.List.{list_any}
use Rattle.std.specs.Str.{bytes_eq}
use Rattle.std.proofs.lemmas.List.{map-append}
use Rattle.dv_refusal.specs.declared.refusal.Refusal.{Refusal}
use Rattle.dv_refusal.specs.declared.refusal.Refusal.TheVariants.{WantOfMemory}
use Rattle.dv_pipe.specs.declared.stage.Stage.{Stage}
use Rattle.dv_views.specs.Forms.{ViewForm, fault_of_new, names_read, needed}
use Rattle.dv_views.specs.Inner.Made.{IsCreated}
use Rattle.dv_views.specs.Views.{View}
use Rattle.dv_views.specs.Inner.Views.{AreRight, ArePartlyRefreshed, IsRefusedFor, Views, view_form, views_without}
use Rattle.dv_views.specs.declared.fault.ViewFault.{ViewFault}
use Rattle.dv_views.specs.Inner.FormLaws.{same_forms}
use Rattle.dv_catalog.specs.Inner.CatalogParts.{IsKept, mark_of, marked_of, marks_of, state_of}
use Rattle.dv_catalog.specs.Marks.{ArePartlyRead, Mark, Marks, live, marks_read}
use Rattle.dv_catalog.specs.Inner.Parts.{StandMade}
use Rattle.dv_catalog.specs.State.{Namespaces, State, has_name, is_collection, is_view, lists_of, without_view}
use Rattle.dv_catalog.specs.Views.{view_refusal, with_view, with_view_by, with_views}
use Rattle.dv_catalog.proofs.Refreshed.{fresh_mark, partly_marks, refreshed_marks}

-- ---- kept, if the views' forms stay

pub kept_forms : (namespaces : Namespaces) (before after : Views) → map view_form after ≡ map view_form before → AreRight (lists_of namespaces) after → IsKept namespaces before → IsKept namespaces after
kept_forms namespaces before after forms right kept = record {
  right = right;
  apart = λ name view. kept.apart name (subst (λ (fs : List ViewForm). is_view name fs ≡ true) forms view);
}

-- ---- a new view

marks_more : (vs : Views) (v : View) → marks_of (vs ++ v ∷ []) ≡ marks_of vs ++ mark_of v.mark ∷ []
marks_more [] v = refl
marks_more (w ∷ vs) v = ap (λ (rest : List Mark). mark_of w.mark ∷ rest) (marks_more vs v)

view_more : (name : List ℕ) (form : ViewForm) (forms : List ViewForm) → is_view name (forms ++ form ∷ []) ≡ true → (is_view name forms ≡ true) ⊎ (bytes_eq name form.name ≡ true)
view_more name form [] e = by_name (bytes_eq name form.name) e
  where
    by_name : (b : Bool) → b || false ≡ true → (false ≡ true) ⊎ (b ≡ true)
    by_name true e = inr refl
    by_name false e = absurd cc
view_more name form (w ∷ forms) e = by_name (view_more name form forms) (bytes_eq name w.name) e
  where
    by_name : (is_view name (forms ++ form ∷ []) ≡ true → (is_view name forms ≡ true) ⊎ (bytes_eq name form.name ≡ true)) → (b : Bool) → b || is_view name (forms ++ form ∷ []) ≡ true
        → (b || is_view name forms ≡ true) ⊎ (bytes_eq name form.name ≡ true)
    by_name rest true e = inl refl
    by_name rest false e = rest e

no_fault : (fault : Option ViewFault) → IsRefusedFor {T = Unit {0}} fault (Ok tt) → fault ≡ None
no_fault None told = refl
no_fault (Some f) told = absurd cc

-- refused for this fault, or because memory ran out
which_fault : (fault : Option ViewFault) (e : ViewFault) → IsRefusedFor {T = Unit {0}} fault (Err e) → (fault ≡ Some e) ⊎ (view_refusal e ≡ WantOfMemory)
which_fault None e told = inr (ap view_refusal told)
which_fault (Some f) e told = let same : e ≡ f = cc in inl (ap Some (sym same))

module _ (name source : List ℕ) (stages : List Stage) (namespaces : Namespaces) (before after : Views) where
  abbrev form : ViewForm
  form = record { name = name; source = source; stages = stages }

  abbrev forms : List ViewForm
  forms = map view_form before

  abbrev made : Option ViewFault → Result State Refusal
  made fault = with_views (state_of namespaces before) (with_view_by form forms fault)

  module _ (created : IsCreated name source stages before after) where
    created_forms : map view_form after ≡ forms ++ form ∷ []
    created_forms =
        ap (map view_form) created.added.last
        ∙ map-append view_form created.refreshed (created.added.view ∷ [])
        ∙ (λ i. same_forms (needed forms (names_read stages source)) before created.refreshed created.read.0 i ++ created.added.form i ∷ [])

    pub kept_new : is_collection name namespaces ≡ false → AreRight (lists_of namespaces) after → IsKept namespaces before → IsKept namespaces after
    kept_new none right kept = record {
      right = right;
      apart = λ n view. by_view n (view_more n form forms (subst (λ (fs : List ViewForm). is_view n fs ≡ true) created_forms view));
    }
      where
        by_view : (n : List ℕ) → (is_view n forms ≡ true) ⊎ (bytes_eq n name ≡ true) → is_collection n namespaces ≡ false
        by_view n (inl view) = kept.apart n view
        by_view n (inr e) = subst (λ (m : List ℕ). is_collection m namespaces ≡ false) (sym ((bytes_eq-Decides n name).0 e)) none

    pub view_made : IsRefusedFor {T = Unit {0}} (fault_of_new forms name source stages) (Ok tt) → with_views (state_of namespaces before) (with_view form forms) ≡ Ok (state_of namespaces after)
    view_made told = ap made (no_fault (fault_of_new forms name source stages) told) ∙ (λ i. Ok (record { namespaces = namespaces; views = sym created_forms i }))

    pub created_marks : marks_of after ≡ marks_read (names_read stages source) forms (marks_of before) ++ live 0 ∷ []
    created_marks =
        ap marks_of created.added.last
        ∙ marks_more created.refreshed created.added.view
        ∙ (λ i. refreshed_marks (needed forms (names_read stages source)) before created.refreshed created.read.0 created.read.1 i ++ fresh_mark created.added.view.mark created.added.fresh i ∷ [])

  -- if the view is refused
  module _ (e : ViewFault) (told : IsRefusedFor {T = Unit {0}} (fault_of_new forms name source stages) (Err e)) where
    pub view_refused : (with_views (state_of namespaces before) (with_view form forms) ≡ Err (view_refusal e)) ⊎ (view_refusal e ≡ WantOfMemory)
    view_refused = by_fault (which_fault (fault_of_new forms name source stages) e told)
      where
        by_fault : (fault_of_new forms name source stages ≡ Some e) ⊎ (view_refusal e ≡ WantOfMemory) → (with_views (state_of namespaces before) (with_view form forms) ≡ Err (view_refusal e)) ⊎ (view_refusal e ≡ WantOfMemory)
        by_fault (inl is) = inl (ap made is)
        by_fault (inr want) = inr want

    pub refused_marks : (B : Type 0) (marks : Marks) → ArePartlyRefreshed (needed forms (names_read stages source)) before after → (((fault_of_new forms name source stages ≡ None) → ⊥) → after ≡ before)
        → StandMade {B = B} (names_read stages source) marks (marked_of namespaces before) (Err (view_refusal e)) (marks_of after)
    refused_marks B marks partly kept = by_fault (which_fault (fault_of_new forms name source stages) e told)
      where
        by_fault : (fault_of_new forms name source stages ≡ Some e) ⊎ (view_refusal e ≡ WantOfMemory)
            → ((view_refusal e ≡ WantOfMemory) × ArePartlyRead (names_read stages source) forms (marks_of before) (marks_of after)) ⊎ (marks_of after ≡ marks_of before)
        by_fault (inl is) = inr (ap marks_of (kept (λ none. cc)))
        by_fault (inr want) = inl (want, partly_marks (needed forms (names_read stages source)) before after partly)

-- ---- one view less

kept_form : (b : Bool) (v : View) (vs : Views) → map view_form (if b then v ∷ vs else vs) ≡ (if b then view_form v ∷ map view_form vs else map view_form vs)
kept_form true v vs = refl
kept_form false v vs = refl

pub forms_less : (name : List ℕ) (vs : Views) → map view_form (views_without name vs) ≡ without_view name (map view_form vs)
forms_less name [] = refl
forms_less name (v ∷ vs) =
    kept_form (not (bytes_eq name v.name)) v (views_without name vs) ∙ ap (λ (rest : List ViewForm). if not (bytes_eq name v.name) then view_form v ∷ rest else rest) (forms_less name vs)

view_less : (n name : List ℕ) (forms : List ViewForm) → is_view n (without_view name forms) ≡ true → is_view n forms ≡ true
view_less n name [] e = e
view_less n name (v ∷ forms) e = by_name (view_less n name forms) (not (bytes_eq name v.name)) (bytes_eq n v.name) refl e
  where
    by_name : (is_view n (without_view name forms) ≡ true → is_view n forms ≡ true) → (a b : Bool) → bytes_eq n v.name ≡ b → list_any (has_name n) (if a then v ∷ without_view name forms else without_view name forms) ≡ true → b || is_view n forms ≡ true
    by_name rest a true is e = refl
    by_name rest true false is e = rest (rw is at e)
    by_name rest false false is e = rest e

pub kept_less : (namespaces : Namespaces) (name : List ℕ) (vs : Views) → AreRight (lists_of namespaces) (views_without name vs) → IsKept namespaces vs → IsKept namespaces (views_without name vs)
kept_less namespaces name vs right kept = record {
  right = right;
  apart = λ n view. kept.apart n (view_less n name (map view_form vs) (subst (λ (fs : List ViewForm). is_view n fs ≡ true) (forms_less name vs) view));
}

pub less_state : (namespaces : Namespaces) (name : List ℕ) (vs : Views) → state_of namespaces (views_without name vs) ≡ record { namespaces = namespaces; views = without_view name (map view_form vs) }
less_state namespaces name vs = λ i. record { namespaces = namespaces; views = forms_less name vs i }
