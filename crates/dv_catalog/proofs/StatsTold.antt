-- What is returned for the state of a view.
use Rattle.std.proofs.Common.{◌≡◌, ℕ, Bool, true, false, if◌then◌else◌, List, [], ◌∷◌, map, length, Option, Some, None, refl, sym, ap, ◌∙◌}
use Rattle.std.specs.Option.{option_and_then, option_map}
use Rattle.dv_value.specs.Tree.{Field}
use Rattle.dv_change.specs.Changes.{forget}
use Rattle.dv_views.specs.Views.{View}
use Rattle.dv_views.specs.Inner.Views.{Views, view_form, is_view_named, kept_rows, rows_shown, view_under}
use Rattle.dv_views.specs.Views as views
use Rattle.dv_views.specs.Inner.Views as views_inner
use Rattle.dv_views.specs.declared.state.ViewState.{ViewState}
use Rattle.dv_catalog.specs.Inner.CatalogParts.{mark_of, marked_of, marks_of, state_of}
use Rattle.dv_catalog.specs.Marks.{Mark, Stats, mark_named, rows_by, stats_by, stats_of, stored_of}
use Rattle.dv_catalog.specs.State.{Namespaces, rows_of}
use Rattle.dv_catalog.specs.Inner.StatsView.{live_shown}

marked_one : (b : Bool) (v : View) (there : Option View) → (if b then Some (mark_of v.mark) else option_map (λ (w : View). mark_of w.mark) there) ≡ option_map (λ (w : View). mark_of w.mark) (if b then Some v else there)
marked_one true v there = refl
marked_one false v there = refl

pub mark_shown : (name : List ℕ) (vs : Views) → mark_named name (map view_form vs) (marks_of vs) ≡ option_map (λ v. mark_of v.mark) (view_under name vs)
mark_shown name [] = refl
mark_shown name (v ∷ vs) =
    ap (λ (there : Option Mark). if is_view_named name v then Some (mark_of v.mark) else there) (mark_shown name vs) ∙ marked_one (is_view_named name v) v (view_under name vs)

no_mark : (there : Option View) → option_map (λ v. views_inner.state_of_mark v.mark) there ≡ None → option_map (λ v. mark_of v.mark) there ≡ None
no_mark None is = refl
no_mark (Some v) is = absurd cc

abbrev stats_in : views.ViewMark → Stats
stats_in m = record { is_live = live_shown (views_inner.state_of_mark m); rows = views_inner.mark_rows m; ticks = views_inner.mark_ticks m }

stats_shown : (m : views.ViewMark) (those : List (List Field)) → ((rows : List (List Field)) → kept_rows m ≡ Some rows → rows ≡ those) → stats_in m ≡ stats_by those (mark_of m)
stats_shown (views.live kept) those right = λ i. record { is_live = true; rows = length (right (forget kept.rows) refl i); ticks = kept.ticks }
stats_shown views.stale those right = refl

stored_shown : (m : views.ViewMark) (those : List (List Field)) → ((rows : List (List Field)) → kept_rows m ≡ Some rows → rows ≡ those) → kept_rows m ≡ rows_by those (mark_of m)
stored_shown (views.live kept) those right = ap Some (right (forget kept.rows) refl)
stored_shown views.stale those right = refl

module _ (name : List ℕ) (namespaces : Namespaces) (vs : Views) where
  abbrev those : List (List Field)
  those = rows_of name (state_of namespaces vs)

  pub no_stats : option_map (λ v. views_inner.state_of_mark v.mark) (view_under name vs) ≡ None → stats_of name (marked_of namespaces vs) ≡ None
  no_stats none = ap (option_map (stats_by those)) (mark_shown name vs ∙ no_mark (view_under name vs) none)

  -- if the rows that are shown are right
  pub stats_are : ((rows : List (List Field)) → rows_shown name vs ≡ Some rows → rows ≡ those) → (there : Option View) → view_under name vs ≡ there → (how : ViewState) (count ticks : ℕ)
      → Some how ≡ option_map (λ v. views_inner.state_of_mark v.mark) there → Some count ≡ option_map (λ v. views_inner.mark_rows v.mark) there → Some ticks ≡ option_map (λ v. views_inner.mark_ticks v.mark) there
      → Some (record { is_live = live_shown how; rows = count; ticks = ticks }) ≡ stats_of name (marked_of namespaces vs)
  stats_are right None named how count ticks a b d = absurd cc
  stats_are right (Some v) named how count ticks a b d =
      let so : how ≡ views_inner.state_of_mark v.mark = cc in
      let many : count ≡ views_inner.mark_rows v.mark = cc in
      let counted : ticks ≡ views_inner.mark_ticks v.mark = cc in
      (λ i. Some (record { is_live = live_shown (so i); rows = many i; ticks = counted i }))
      ∙ ap Some (stats_shown v.mark those (λ rows is. right rows (ap (option_and_then (λ (w : View). kept_rows w.mark)) named ∙ is)))
      ∙ sym (ap (option_map (stats_by those)) (mark_shown name vs ∙ ap (option_map (λ (w : View). mark_of w.mark)) named))

  -- if the rows that are shown are right
  pub stored_are : ((rows : List (List Field)) → rows_shown name vs ≡ Some rows → rows ≡ those) → (there : Option View) → view_under name vs ≡ there → rows_shown name vs ≡ stored_of name (marked_of namespaces vs)
  stored_are right None named =
      ap (option_and_then (λ (w : View). kept_rows w.mark)) named
      ∙ sym (ap (option_and_then (rows_by those)) (mark_shown name vs ∙ ap (option_map (λ (w : View). mark_of w.mark)) named))
  stored_are right (Some v) named =
      ap (option_and_then (λ (w : View). kept_rows w.mark)) named
      ∙ stored_shown v.mark those (λ rows is. right rows (ap (option_and_then (λ (w : View). kept_rows w.mark)) named ∙ is))
      ∙ sym (ap (option_and_then (rows_by those)) (mark_shown name vs ∙ ap (option_map (λ (w : View). mark_of w.mark)) named))
