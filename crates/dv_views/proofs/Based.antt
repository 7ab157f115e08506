-- If the rows that a view is based on are at their `_id`s, so are the rows of the view.
use Rattle.std.proofs.Common.{◌≡◌, ◌<◌, ◌||◌, ℕ, zero, suc, Bool, true, false, List, [], ◌∷◌, map, take, length, Option, Some, None, cond, slice_get, refl, ap, sym, subst, ◌∙◌, arith}
use Rattle.std.specs.Bool.{if◌then◌else◌}
use Rattle.std.specs.List.{AllByRecursion, IsDistinct, list_any}
use Rattle.std.specs.Map.{values_of}
use Rattle.std.specs.Option.{IfSome, option_map}
use Rattle.std.specs.Str.{bytes_eq}
use Rattle.std.specs.String.{string_bytes}
use Rattle.std.proofs.lemmas.Slice.Eq.{bytes_eq-Decides}
use Rattle.dv_change.specs.declared.told_rows.ToldRows.{ToldRows}
use Rattle.dv_change.specs.Changes.{Positioned}
use Rattle.dv_pipe.specs.Sources.{Row}
use Rattle.dv_pipe.specs.Stages.{Lists, evaluated}
use Rattle.dv_views.specs.declared.stage_operator.StageOperator.{StageOperator}
use Rattle.dv_views.specs.Inner.Based.{IsBasedOn}
use Rattle.dv_views.specs.Inner.Body.{Body}
use Rattle.dv_views.specs.Inner.ById.{AreAtIds, at_ids_through}
use Rattle.dv_views.specs.Forms.{ViewForm, outs_of, places_over, rows_over, with_places, with_rows}
use Rattle.dv_views.specs.Inner.Keeping.{kept_seen}
use Rattle.dv_views.specs.Inner.Older.{Entries, is_called, place_of_name, views, views_before}
use Rattle.dv_views.specs.Placed.{ListPlaces, lookups_of}
use Rattle.dv_views.specs.Inner.Seen.{entry_view}
use Rattle.dv_views.specs.Views.{View, ViewMark, live, inputs_from}
use Rattle.dv_views.specs.Inner.Views.{AreKept, AreNamedApart, AreRightOver, view_form}
use Rattle.dv_views.proofs.Before.{no_view_before, place_within}
use Rattle.dv_views.proofs.ById.{through_at_ids}
use Rattle.dv_views.proofs.Shown.{no_view, places_untouched}

-- ---- the rows under the name of an older view

module _ {Y : Type 0} (name : List ℕ) where
  none-later : (n : List ℕ) (m : ℕ) (es : Entries Y) → bytes_eq name n ≡ true → AllByRecursion (λ other. bytes_eq n other ≡ false) (map (λ (v : View). v.name) (views es)) → list_any (λ (v : ViewForm). bytes_eq name v.name) (map view_form (views (take m es))) ≡ false
  none-later n zero es is apart = refl
  none-later n (suc m) [] is apart = refl
  none-later n (suc m) (e ∷ es) is apart =
      let away : bytes_eq name (string_bytes e.0) ≡ false = ap (λ (k : List ℕ). bytes_eq k (string_bytes e.0)) ((bytes_eq-Decides name n).0 is) ∙ apart.0 in
      ap (λ (b : Bool). b || list_any (λ (v : ViewForm). bytes_eq name v.name) (map view_form (views (take m es)))) away ∙ none-later n m es is apart.1

  pub place_early : (n i : ℕ) (es : Entries Y) → place_of_name name (take n es) ≡ Some i → i < n
  place_early zero i es is = absurd cc
  place_early (suc n) i [] is = absurd cc
  place_early (suc n) i (e ∷ es) is = by (is_called name e.0) i (place_of_name name (take n es)) is (λ j. place_early n j es)
    where
      by : (t : Bool) (i : ℕ) (p : Option ℕ) → cond t (Some 0) (option_map suc p) ≡ Some i → ((j : ℕ) → p ≡ Some j → j < n) → i < suc n
      by true zero p is rest = omega arith
      by true (suc i) p is rest = absurd cc
      by false i None is rest = absurd cc
      by false zero (Some j) is rest = omega arith
      by false (suc i) (Some j) is rest = let next : j ≡ i = cc in let h : i < n = rest i (ap Some next) in omega arith

  -- they are the rows of the view's pipeline over what is older than the view
  placed-by : (n i : ℕ) (es : Entries Y) (b : Body) (places : ListPlaces) → AreNamedApart (views es) → place_of_name name (take n es) ≡ Some i → slice_get (values_of es) i ≡ Some b
      → places_over (map view_form (views (take n es))) places name ≡ outs_of b.stages b.source (places_over (map view_form (views (take i es))) places)
  unfolding IsDistinct
  placed-by zero i es b places apart is there = absurd cc
  placed-by (suc n) i [] b places apart is there = absurd cc
  placed-by (suc n) i (e ∷ es) b places apart is there =
      by (is_called name e.0) refl i (place_of_name name (take n es)) is there (λ j. placed-by n j es b (with_places (view_form (entry_view e)) places) apart.1)
    where
      below : ListPlaces
      below = with_places (view_form (entry_view e)) places

      by : (t : Bool) → is_called name e.0 ≡ t → (i : ℕ) (p : Option ℕ) → cond t (Some 0) (option_map suc p) ≡ Some i → slice_get (e.1 ∷ values_of es) i ≡ Some b
          → ((j : ℕ) → p ≡ Some j → slice_get (values_of es) j ≡ Some b → places_over (map view_form (views (take n es))) below name ≡ outs_of b.stages b.source (places_over (map view_form (views (take j es))) below))
          → places_over (map view_form (views (take n es))) below name ≡ outs_of b.stages b.source (places_over (map view_form (views (take i (e ∷ es)))) places)
      by true same zero p is there rest =
          let here : e.1 ≡ b = cc in
          places_untouched (map view_form (views (take n es))) below name (none-later (string_bytes e.0) n es same apart.0)
          ∙ ap (λ (c : Bool). if c then outs_of e.1.stages e.1.source places else places name) same
          ∙ ap (λ (c : Body). outs_of c.stages c.source places) here
      by true same (suc i) p is there rest = absurd cc
      by false same i None is there rest = absurd cc
      by false same zero (Some j) is there rest = absurd cc
      by false same (suc i) (Some j) is there rest = let next : j ≡ i = cc in rest i (ap Some next) there

pub some_then : {T : Type 0} {P Q : T → Type 0} (r : Option T) → IfSome r P → ((x : T) → P x → Q x) → IfSome r Q
some_then None holds more = tt
some_then (Some x) holds more = more x holds

-- ---- what a view is based on

module _ {Y : Type 0} where
  there-at : (n : ℕ) (es : Entries Y) → n < length es → (b : Body) × (slice_get (values_of es) n ≡ Some b)
  there-at n [] h = absurd (omega (arith, h))
  there-at zero (e ∷ es) h = (e.1, refl)
  there-at (suc n) (e ∷ es) h = there-at n es (omega (arith, h))

  module _ (es : Entries Y) (place : ℕ) (v : Body) (there : slice_get (values_of es) place ≡ Some v) where
    module _ (places : ListPlaces) where
      abbrev below : ListPlaces
      below = places_over (map view_form (views_before place es)) places

      of-view : AreAtIds (outs_of v.stages v.source below) → (b : Body) → slice_get (values_of es) place ≡ Some b → AreAtIds (outs_of b.stages b.source below)
      of-view are b here = let same : v ≡ b = cc in subst (λ (c : Body). AreAtIds (outs_of c.stages c.source below)) same are

      made-at-ids : (before : Bool) → (before ≡ true → AreAtIds (below v.source)) → at_ids_through before v.stages ≡ true → AreAtIds (outs_of v.stages v.source below)
      made-at-ids before are is = through_at_ids v.stages (map below (lookups_of v.stages v.source)) (below v.source) before are is

    pub based_anyhow : (base : List ℕ) → at_ids_through false v.stages ≡ true → IsBasedOn base place es
    based_anyhow base is = λ places own b here. of-view places (made-at-ids places false (λ no. absurd cc) is) b here

    pub based_on_source : at_ids_through true v.stages ≡ true → place_of_name v.source (take place es) ≡ None → IsBasedOn v.source place es
    based_on_source is none = λ places own b here.
        let under : below places v.source ≡ places v.source = (no_view v.source places (λ name. []) (views_before place es) (no_view_before v.source (take place es) none)).0 in
        of-view places (made-at-ids places true (λ _. subst (λ (rows : Positioned). AreAtIds rows) (sym under) own) is) b here

    pub based_below : (base : List ℕ) (found : ℕ) → AreNamedApart (views es) → at_ids_through true v.stages ≡ true → place_of_name v.source (take place es) ≡ Some found → IsBasedOn base found es → IsBasedOn base place es
    based_below base found apart is named rest = λ places own b here.
        let w = there-at found es (place_within v.source place found es named) in
        let under = placed-by v.source place found es w.0 places apart named w.1 in
        of-view places (made-at-ids places true (λ _. subst (λ (rows : Positioned). AreAtIds rows) (sym under) (rest places own w.0 w.1)) is) b here

  -- ---- what a right view at a place has taken in

  pub right_at : (i : ℕ) (es : Entries Y) (b : Body) (places : ListPlaces) (lists : Lists) → AreRightOver places lists (views es) → slice_get (values_of es) i ≡ Some b
      → AreKept b.stages b.mark (inputs_from b.stages b.source (places_over (map view_form (views (take i es))) places)) (evaluated b.stages b.source (rows_over (map view_form (views (take i es))) lists))
  right_at i [] b places lists right there = absurd cc
  right_at zero (e ∷ es) b places lists right there =
      let here : e.1 ≡ b = cc in subst (λ (c : Body). AreKept c.stages c.mark (inputs_from c.stages c.source places) (evaluated c.stages c.source lists)) here right.0
  right_at (suc i) (e ∷ es) b places lists right there = right_at i es b (with_places (view_form (entry_view e)) places) (with_rows (view_form (entry_view e)) lists) right.1 there

-- ---- the rows in memory

pub entries_at_ids : (b : Body) (rows : ToldRows StageOperator) (places : ListPlaces) (shown : List Row) → AreKept b.stages b.mark (inputs_from b.stages b.source places) shown → b.mark ≡ live (kept_seen rows) → AreAtIds (outs_of b.stages b.source places) → AreAtIds rows.rows.entries
entries_at_ids b rows places shown kept is are =
    let right : AreKept b.stages (live (kept_seen rows)) (inputs_from b.stages b.source places) shown = subst (λ (m : ViewMark). AreKept b.stages m (inputs_from b.stages b.source places) shown) is kept in
    subst (λ (es : Positioned). AreAtIds es) (sym right.0.made.made) are
