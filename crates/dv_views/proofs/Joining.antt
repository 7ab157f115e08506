-- A view that was just made, after others or among them.
use Rattle.std.proofs.Common.{◌≡◌, ◌≤◌, ◌||◌, ℕ, zero, suc, Bool, true, false, List, [], ◌∷◌, ◌++◌, map, take, fold, Option, Some, None, refl, ap, sym, subst, ◌∙◌, arith}
use Rattle.std.specs.Bool.{if◌then◌else◌}
use Rattle.std.specs.List.{AllByRecursion}
use Rattle.std.specs.Str.{bytes_eq}
use Rattle.std.proofs.lemmas.Slice.Eq.{bytes_eq-Decides}
use Rattle.dv_change.specs.Changes.{forget}
use Rattle.dv_pipe.specs.Stages.{Lists, evaluated}
use Rattle.dv_pipe.specs.declared.stage.Stage.{Stage}
use Rattle.dv_views.specs.Forms.{ViewForm, is_name_among, names_read, places_over, rows_over, with_places, with_rows}
use Rattle.dv_views.specs.Inner.Ground.{IsBuilt, IsLive, IsLiveView, outs_below, outs_of_mark, outs_of_view}
use Rattle.dv_views.specs.Inner.Made.{AreAlike}
use Rattle.dv_views.specs.Placed.{ListPlaces, list_places, positioned}
use Rattle.dv_views.specs.Inner.Holding.{HasMade}
use Rattle.dv_views.specs.Views.{ViewMark, Inputs, View, live, stale, inputs_from}
use Rattle.dv_views.specs.Inner.Views.{AreKept, AreNamedApart, AreOverLive, AreRight, AreRightOver, IsJustMade, IsRight, Views, distance, distances_of, view_form, is_stale, no_distance, reads, view_under, with_distance}
use Rattle.dv_views.proofs.Agree.{FromScratch, agree}
use Rattle.dv_views.proofs.Right.{UnreadDoesNotMatter, itself, or-left, read_among, same_taken}
use Rattle.dv_views.proofs.Shown.{IsShownAt, distance_at, distance_named, no_view, shown_at}

-- what holds of each of some names holds of one that is among them
pub each_among : (P : List ℕ → Type 0) (names : List (List ℕ)) (name : List ℕ) → AllByRecursion P names → is_name_among name names ≡ true → P name
each_among P [] name all among = absurd cc
each_among P (n ∷ names) name all among = by (bytes_eq name n) refl among (each_among P names name all.1)
  where
    by : (b : Bool) → bytes_eq name n ≡ b → b || is_name_among name names ≡ true → (is_name_among name names ≡ true → P name) → P name
    by true is among rest = subst P (sym ((bytes_eq-Decides name n).0 is)) all.0
    by false is among rest = rest among

-- ---- the rows under a name that is read

module _ (scratch : FromScratch) (unread : UnreadDoesNotMatter) (lists others : Lists) (older : Views) (apart : AreNamedApart older) (right : AreRight lists older) where
  abbrev places : ListPlaces
  places = places_over (map view_form older) (list_places lists)

  abbrev rows : Lists
  rows = rows_over (map view_form older) lists

  live-outs : (name : List ℕ) (o : Option View) → view_under name older ≡ o → others name ≡ lists name → IsLiveView o → outs_of_view o (others name) ≡ places name
  live-outs name None is alike lives = ap positioned alike ∙ sym (no_view name (list_places lists) lists older is).0
  live-outs name (Some v) is alike lives = by v.mark (shown_at name (list_places lists) lists older v apart right is) lives
    where
      by : (m : ViewMark) → IsShownAt m (places name) (rows name) → IsLive m → outs_of_mark m ≡ places name
      by (live k) shown lives = sym shown.0
      by stale shown lives = absurd lives

  module _ (stages : List Stage) (source : List ℕ) (alike : AreAlike (names_read stages source) others lists) (over : AreOverLive no_distance older) where
    near : AllByRecursion (λ n. IsLiveView (view_under n older)) (names_read stages source) → (name : List ℕ) → is_name_among name (names_read stages source) ≡ true → distances_of older name ≡ 0
    near lives name among = distance_at name older apart ∙ by (view_under name older) (each_among (λ n. IsLiveView (view_under n older)) (names_read stages source) name lives among)
      where
        at : (m : ViewMark) → IsLive m → distance m ≡ 0
        at (live k) lives = refl
        at stale lives = absurd lives

        by : (o : Option View) → IsLiveView o → distance_named o ≡ 0
        by None lives = refl
        by (Some v) lives = at v.mark lives

    pub right_built : (mark : ViewMark) → IsBuilt stages source older others mark → AreKept stages mark (inputs_from stages source places) (evaluated stages source rows)
    right_built (live k) built =
        let same : inputs_from stages source (outs_below older others) ≡ inputs_from stages source places =
        same_taken source (outs_below older others) places stages (λ name read.
        let among = sym (read_among stages source name) ∙ read in
        live-outs name (view_under name older) refl (alike name among) (each_among (λ n. IsLiveView (view_under n older)) (names_read stages source) name built.2 among)) in
        let made : HasMade stages k (inputs_from stages source places) = subst (λ (t : Inputs). HasMade stages k t) same built.0 in
        let own = agree scratch lists older over right source (near built.2 source (or-left (bytes_eq source source) _ (itself source))) in (
          made,
          ap forget made.made.made
              ∙ scratch stages source places rows made.made.positioned own.0 (λ name among. (agree scratch lists older over right name (near built.2 name among)).1),
        )
    right_built stale built = absurd built

-- ---- how far from being live

module _ (older : Views) (apart : AreNamedApart older) (lists : Lists) (stages : List Stage) (source : List ℕ) where
  pub over_built : (mark : ViewMark) → IsBuilt stages source older lists mark → (name : List ℕ) → is_name_among name (names_read stages source) ≡ true → distances_of older name ≤ distance mark
  over_built mark built name among = subst (λ (n : ℕ). n ≤ distance mark) (sym (distance_at name older apart)) (by mark built (view_under name older) refl)
    where
      at-live : (m : ViewMark) → IsLive m → distance m ≤ 0
      at-live (live k) lives = omega arith
      at-live stale lives = absurd lives

      of-live : (o : Option View) → IsLiveView o → distance_named o ≤ 0
      of-live None lives = omega arith
      of-live (Some v) lives = at-live v.mark lives

      by : (m : ViewMark) → IsBuilt stages source older lists m → (o : Option View) → view_under name older ≡ o → distance_named o ≤ distance m
      by (live k) built o is = of-live o (subst (λ (p : Option View). IsLiveView p) is (each_among (λ n. IsLiveView (view_under n older)) (names_read stages source) name built.2 among))
      by stale built o is = absurd built

pub fresh_built : (stages : List Stage) (source : List ℕ) (older : Views) (lists : Lists) (mark : ViewMark) → IsBuilt stages source older lists mark → IsJustMade mark
fresh_built stages source older lists (live k) built = record { live = refl; ticks = built.1 }
fresh_built stages source older lists stale built = absurd built

-- ---- a view after the others

pub over_append : (distances : List ℕ → ℕ) (vs : Views) (w : View) → AreOverLive distances vs → ((name : List ℕ) → reads w name ≡ true → fold (λ below v. with_distance v below) distances vs name ≤ distance w.mark) → AreOverLive distances (vs ++ w ∷ [])
over_append distances [] w over last = (last, tt)
over_append distances (v ∷ vs) w over last = (over.0, over_append (with_distance v distances) vs w over.1 last)

-- ---- a view among them, in place of one of its form

-- the views, with another one at a place
abbrev pub set_view : ℕ → View → Views → Views
set_view n w [] = []
set_view zero w (v ∷ vs) = w ∷ vs
set_view (suc n) w (v ∷ vs) = v ∷ set_view n w vs

-- if what views read is nearer to being live, it is still no farther from that than the views are
over_lower : (near far : List ℕ → ℕ) (vs : Views) → ((name : List ℕ) → near name ≤ far name) → AreOverLive far vs → AreOverLive near vs
over_lower near far [] below over = tt
over_lower near far (v ∷ vs) below over = (
  λ name read. let a = below name in let b = over.0 name read in omega (arith, a, b),
  over_lower (with_distance v near) (with_distance v far) vs (λ name. by (bytes_eq name v.name) name (below name)) over.1,
)
  where
    by : (b : Bool) (name : List ℕ) → near name ≤ far name → (if b then distance v.mark else near name) ≤ (if b then distance v.mark else far name)
    by true name below = omega arith
    by false name below = below

at-most : (m : ViewMark) → distance m ≤ 1
at-most (live k) = omega arith
at-most stale = omega arith

farthest : (m : ViewMark) → is_stale m ≡ true → distance m ≡ 1
farthest (live k) is = absurd cc
farthest stale is = refl

module _ (w : View) where
  -- the view at a place is stale and has this view's form
  abbrev pub Replaces : ℕ → Views → Type 0
  Replaces n [] = ⊥
  Replaces zero (v ∷ vs) = (view_form w ≡ view_form v) × (is_stale v.mark ≡ true)
  Replaces (suc n) (v ∷ vs) = Replaces n vs

  pub right_set : (n : ℕ) (below : ListPlaces) (lists : Lists) (vs : Views) → Replaces n vs → AreRightOver below lists vs → IsRight (places_over (map view_form (take n vs)) below) (rows_over (map view_form (take n vs)) lists) w
      → AreRightOver below lists (set_view n w vs)
  right_set n below lists [] in_place right own = absurd in_place
  right_set zero below lists (v ∷ vs) in_place right own = (own, subst (λ (f : ViewForm). AreRightOver (with_places f below) (with_rows f lists) vs) (sym in_place.0) right.1)
  right_set (suc n) below lists (v ∷ vs) in_place right own = (right.0, right_set n (with_places (view_form v) below) (with_rows (view_form v) lists) vs in_place right.1 own)

  pub over_set : (n : ℕ) (distances : List ℕ → ℕ) (vs : Views) → Replaces n vs → AreOverLive distances vs → ((name : List ℕ) → reads w name ≡ true → fold (λ below v. with_distance v below) distances (take n vs) name ≤ distance w.mark)
      → AreOverLive distances (set_view n w vs)
  over_set n distances [] in_place over own = absurd in_place
  over_set zero distances (v ∷ vs) in_place over own = (own, over_lower (with_distance w distances) (with_distance v distances) vs lower over.1)
    where
      called : w.name ≡ v.name
      called = ap (λ f. f.name) in_place.0

      near : distance w.mark ≤ distance v.mark
      near = let a = at-most w.mark in let b = farthest v.mark in_place.1 in omega (arith, a, b)

      by : (b : Bool) (name : List ℕ) → (if b then distance w.mark else distances name) ≤ (if b then distance v.mark else distances name)
      by true name = near
      by false name = omega arith

      lower : (name : List ℕ) → with_distance w distances name ≤ with_distance v distances name
      lower name = subst (λ (n : List ℕ). (if bytes_eq name n then distance w.mark else distances name) ≤ (if bytes_eq name v.name then distance v.mark else distances name)) (sym called) (by (bytes_eq name v.name) name)
  over_set (suc n) distances (v ∷ vs) in_place over own = (over.0, over_set n (with_distance v distances) vs in_place over.1 own)
