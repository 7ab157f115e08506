-- With all views, the rows under a view's name are those of its pipeline.
use Rattle.std.proofs.Common.{◌≡◌, ◌||◌, ℕ, Bool, true, false, List, [], ◌∷◌, map, fold, Option, Some, None, cond, refl, ap, sym, subst, ◌∙◌}
use Rattle.std.specs.Prelude.{⊤}
use Rattle.std.specs.Bool.{if◌then◌else◌}
use Rattle.std.specs.List.{AllByRecursion, IsDistinct, list_any}
use Rattle.std.specs.Option.{option_and_then}
use Rattle.std.specs.Str.{bytes_eq}
use Rattle.std.proofs.lemmas.Slice.Eq.{bytes_eq-Decides}
use Rattle.std.proofs.lemmas.Bool.{or_parts}
use Rattle.dv_change.specs.Changes.{Positioned, forget}
use Rattle.dv_pipe.specs.Sources.{Row}
use Rattle.dv_pipe.specs.Stages.{Lists, evaluated}
use Rattle.dv_pipe.specs.declared.stage.Stage.{Stage}
use Rattle.dv_views.specs.Forms.{ViewForm, outs_of, places_over, rows_over, with_places, with_rows}
use Rattle.dv_views.specs.Placed.{ListPlaces, list_places}
use Rattle.dv_views.specs.Views.{ViewMark, live, stale, View, inputs_from}
use Rattle.dv_views.specs.Inner.Views.{AreKept, AreNamedApart, AreRight, AreRightOver, Views, distance, distances_of, view_form, is_view_named, kept_rows, no_distance, rows_shown, view_under, with_distance}

-- ---- what later views leave

-- what is under a name that no later view has is unchanged
module _ {V X : Type 0} (named : V → List ℕ) (made : V → (List ℕ → X) → X) where
  pub untouched : (vs : List V) (below : List ℕ → X) (name : List ℕ) → list_any (λ v. bytes_eq name (named v)) vs ≡ false → fold (λ below v name. if bytes_eq name (named v) then made v below else below name) below vs name ≡ below name
  untouched [] below name away = refl
  untouched (v ∷ vs) below name away =
      let both = or_parts (bytes_eq name (named v)) (list_any (λ v. bytes_eq name (named v)) vs) away in
      untouched vs (λ name. if bytes_eq name (named v) then made v below else below name) name both.1 ∙ ap (λ (b : Bool). if b then made v below else below name) both.0

pub rows_untouched : (vs : List ViewForm) (lists : Lists) (name : List ℕ) → list_any (λ v. bytes_eq name v.name) vs ≡ false → rows_over vs lists name ≡ lists name
rows_untouched vs lists name away = untouched (λ (v : ViewForm). v.name) (λ v lists. evaluated v.stages v.source lists) vs lists name away

pub places_untouched : (vs : List ViewForm) (places : ListPlaces) (name : List ℕ) → list_any (λ v. bytes_eq name v.name) vs ≡ false → places_over vs places name ≡ places name
places_untouched vs places name away = untouched (λ (v : ViewForm). v.name) (λ v places. outs_of v.stages v.source places) vs places name away

pub no_rows : (name : List ℕ) (lists : Lists) (views : List ViewForm) → list_any (λ v. bytes_eq name v.name) views ≡ false → rows_over views lists name ≡ lists name
no_rows name lists views away = rows_untouched views lists name away

-- ---- names apart

later-apart : (name : List ℕ) (v : View) (vs : Views) → bytes_eq name v.name ≡ true → AllByRecursion (λ other. bytes_eq v.name other ≡ false) (map (λ (w : View). w.name) vs) → list_any (λ (w : ViewForm). bytes_eq name w.name) (map view_form vs) ≡ false
later-apart name v [] is apart = refl
later-apart name v (w ∷ ws) is apart =
    let other : bytes_eq name w.name ≡ false = ap (λ (n : List ℕ). bytes_eq n w.name) ((bytes_eq-Decides name v.name).0 is) ∙ apart.0 in
    ap (λ (b : Bool). b || list_any (λ (w : ViewForm). bytes_eq name w.name) (map view_form ws)) other ∙ later-apart name v ws is apart.1

pub later_apart : (name : List ℕ) (v : View) (vs : Views) → is_view_named name v ≡ true → AreNamedApart (v ∷ vs) → list_any (λ (w : ViewForm). bytes_eq name w.name) (map view_form vs) ≡ false
unfolding IsDistinct
later_apart name v vs is apart = later-apart name v vs is apart.0

pub others_apart : (v : View) (vs : Views) → AreNamedApart (v ∷ vs) → AreNamedApart vs
unfolding IsDistinct
others_apart v vs apart = apart.1

-- ---- the rows under a view's name

-- a live view keeps these rows at their positions, and shows these
abbrev pub IsShownAt : ViewMark → Positioned → List Row → Type 0
IsShownAt (live kept) outs rows = (outs ≡ kept.rows) × (forget kept.rows ≡ rows)
IsShownAt stale outs rows = ⊤

shown-kept : (m : ViewMark) (stages : List Stage) (source : List ℕ) (places : ListPlaces) (outs : Positioned) (lists rows : List Row) → AreKept stages m (inputs_from stages source places) lists → outs ≡ outs_of stages source places → rows ≡ lists → IsShownAt m outs rows
shown-kept (live kept) stages source places outs lists rows right made is = (made ∙ sym right.0.made.made, right.1 ∙ sym is)
shown-kept stale stages source places outs lists rows right made is = tt

pub shown_at : (name : List ℕ) (places : ListPlaces) (lists : Lists) (vs : Views) (v : View) → AreNamedApart vs → AreRightOver places lists vs → view_under name vs ≡ Some v
    → IsShownAt v.mark (places_over (map view_form vs) places name) (rows_over (map view_form vs) lists name)
shown_at name places lists [] v apart right is = absurd cc
shown_at name places lists (u ∷ us) v apart right is = by (is_view_named name u) refl is (shown_at name (with_places (view_form u) places) (with_rows (view_form u) lists) us v (others_apart u us apart) right.1)
  where
    here : u ≡ v → is_view_named name u ≡ true → IsShownAt v.mark (places_over (map view_form (u ∷ us)) places name) (rows_over (map view_form (u ∷ us)) lists name)
    here same has =
        let away = later_apart name u us has apart in
        subst (λ (w : View). IsShownAt w.mark (places_over (map view_form (u ∷ us)) places name) (rows_over (map view_form (u ∷ us)) lists name)) same
        (shown-kept u.mark u.stages u.source places (places_over (map view_form (u ∷ us)) places name) (evaluated u.stages u.source lists) (rows_over (map view_form (u ∷ us)) lists name) right.0
        (places_untouched (map view_form us) (with_places (view_form u) places) name away ∙ ap (λ (b : Bool). if b then outs_of u.stages u.source places else places name) has)
        (rows_untouched (map view_form us) (with_rows (view_form u) lists) name away ∙ ap (λ (b : Bool). if b then evaluated u.stages u.source lists else lists name) has))

    by : (b : Bool) → is_view_named name u ≡ b → cond b (Some u) (view_under name us) ≡ Some v
        → (view_under name us ≡ Some v → IsShownAt v.mark (places_over (map view_form (u ∷ us)) places name) (rows_over (map view_form (u ∷ us)) lists name))
        → IsShownAt v.mark (places_over (map view_form (u ∷ us)) places name) (rows_over (map view_form (u ∷ us)) lists name)
    by true has is rest = here (let same : u ≡ v = cc in same) has
    by false has is rest = rest is

-- ---- no view

not-named : (name : List ℕ) (vs : Views) → view_under name vs ≡ None → list_any (λ (w : ViewForm). bytes_eq name w.name) (map view_form vs) ≡ false
not-named name [] is = refl
not-named name (v ∷ vs) is = by (is_view_named name v) is (not-named name vs)
  where
    by : (b : Bool) → cond b (Some v) (view_under name vs) ≡ None → (view_under name vs ≡ None → list_any (λ (w : ViewForm). bytes_eq name w.name) (map view_form vs) ≡ false) → b || list_any (λ (w : ViewForm). bytes_eq name w.name) (map view_form vs) ≡ false
    by true is rest = absurd cc
    by false is rest = rest is

pub no_view : (name : List ℕ) (places : ListPlaces) (lists : Lists) (vs : Views) → view_under name vs ≡ None → (places_over (map view_form vs) places name ≡ places name) × (rows_over (map view_form vs) lists name ≡ lists name)
no_view name places lists vs is = (places_untouched (map view_form vs) places name (not-named name vs is), rows_untouched (map view_form vs) lists name (not-named name vs is))

-- ---- how far a name is from being live

abbrev pub distance_named : Option View → ℕ
distance_named None = 0
distance_named (Some v) = distance v.mark

-- the same, by the distance of a name that is no view's
abbrev pub distance_over : ℕ → Option View → ℕ
distance_over other None = other
distance_over other (Some v) = distance v.mark

distances-untouched : (vs : Views) (below : List ℕ → ℕ) (name : List ℕ) → list_any (λ (w : ViewForm). bytes_eq name w.name) (map view_form vs) ≡ false → fold (λ below v. with_distance v below) below vs name ≡ below name
distances-untouched [] below name away = refl
distances-untouched (v ∷ vs) below name away =
    let both = or_parts (bytes_eq name v.name) (list_any (λ (w : ViewForm). bytes_eq name w.name) (map view_form vs)) away in
    distances-untouched vs (with_distance v below) name both.1 ∙ ap (λ (b : Bool). if b then distance v.mark else below name) both.0

distance-over : (vs : Views) (below : List ℕ → ℕ) (name : List ℕ) → AreNamedApart vs → fold (λ below v. with_distance v below) below vs name ≡ distance_over (below name) (view_under name vs)
distance-over [] below name apart = refl
distance-over (v ∷ vs) below name apart = by (is_view_named name v) refl (distance-over vs (with_distance v below) name (others_apart v vs apart))
  where
    by : (b : Bool) → is_view_named name v ≡ b → fold (λ below v. with_distance v below) (with_distance v below) vs name ≡ distance_over (with_distance v below name) (view_under name vs)
        → fold (λ below v. with_distance v below) (with_distance v below) vs name ≡ distance_over (below name) (cond b (Some v) (view_under name vs))
    by true has rest = distances-untouched vs (with_distance v below) name (later_apart name v vs has apart) ∙ ap (λ (b : Bool). if b then distance v.mark else below name) has
    by false has rest = rest ∙ ap (λ (b : Bool). distance_over (if b then distance v.mark else below name) (view_under name vs)) has

distance-named : (o : Option View) → distance_over 0 o ≡ distance_named o
distance-named None = refl
distance-named (Some v) = refl

pub distance_at : (name : List ℕ) (vs : Views) → AreNamedApart vs → distances_of vs name ≡ distance_named (view_under name vs)
distance_at name vs apart = distance-over vs no_distance name apart ∙ distance-named (view_under name vs)

-- ---- the rows that are shown

mark-shown : (m : ViewMark) (outs : Positioned) (rows shown : List Row) → IsShownAt m outs rows → kept_rows m ≡ Some shown → shown ≡ rows
mark-shown (live kept) outs rows shown right is = (let same : shown ≡ forget kept.rows = cc in same) ∙ right.1
mark-shown stale outs rows shown right is = absurd cc

pub right_shown : (name : List ℕ) (lists : Lists) (views : Views) (rows : List Row) → AreNamedApart views → AreRight lists views → rows_shown name views ≡ Some rows → rows ≡ rows_over (map view_form views) lists name
right_shown name lists views rows apart right shown = by (view_under name views) refl shown
  where
    by : (o : Option View) → view_under name views ≡ o → option_and_then (λ v. kept_rows v.mark) o ≡ Some rows → rows ≡ rows_over (map view_form views) lists name
    by None is shown = absurd cc
    by (Some v) is shown =
        mark-shown v.mark (places_over (map view_form views) (list_places lists) name) (rows_over (map view_form views) lists name) rows (shown_at name (list_places lists) lists views v apart right is) shown
