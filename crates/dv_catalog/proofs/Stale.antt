-- Whether views of some names are stale.
use Rattle.std.proofs.Common.{◌≡◌, ◌||◌, ℕ, Bool, true, false, if◌then◌else◌, List, [], ◌∷◌, codes, map, Some, refl, sym, ap, subst, ◌∙◌}
use Rattle.std.proofs.lemmas.Slice.Eq.{bytes_eq-Decides}
use Rattle.std.specs.List.{AllByRecursion, IsDistinct}
use Rattle.std.specs.Str.{bytes_eq}
use Rattle.std.proofs.lemmas.Bool.{or_parts}
use Rattle.dv_views.specs.Forms.{is_name_among}
use Rattle.dv_views.specs.Inner.Examples.{over_lists}
use Rattle.dv_views.specs.Views.{View}
use Rattle.dv_views.specs.Inner.Views.{AreNamedApart, Views, view_under}
use Rattle.dv_catalog.specs.Marks.{LiveReadNoStale, live, stale}
use Rattle.dv_catalog.specs.Inner.CatalogParts.{AreLive, is_one_stale, is_stale_view}
use Rattle.dv_value.specs.Inner.ByteLaws.{bytes_eq-symmetric}

none_named_stale : (vs : Views) (names : List (List ℕ)) → is_one_stale names vs ≡ false → (name : List ℕ) → is_name_among name names ≡ true → is_stale_view (view_under name vs) ≡ false
none_named_stale vs [] none name among = absurd cc
none_named_stale vs (other ∷ names) none name among =
    let both = or_parts (is_stale_view (view_under other vs)) (is_one_stale names vs) none in
    by_name (bytes_eq name other) refl both.0 (none_named_stale vs names both.1 name) among
  where
    by_name : (b : Bool) → bytes_eq name other ≡ b → is_stale_view (view_under other vs) ≡ false → (is_name_among name names ≡ true → is_stale_view (view_under name vs) ≡ false) → b || is_name_among name names ≡ true → is_stale_view (view_under name vs) ≡ false
    by_name true same first rest among = subst (λ (n : List ℕ). is_stale_view (view_under n vs) ≡ false) (sym ((bytes_eq-Decides name other).0 same)) first
    by_name false same first rest among = rest among

-- each view is the one that is found under its name
abbrev pub AreFound : Views → Views → Type 0
AreFound all vs = AllByRecursion (λ v. view_under v.name all ≡ Some v) vs

found_behind : (w : View) (all vs : Views) → AllByRecursion (λ name. bytes_eq w.name name ≡ false) (map (λ v. v.name) vs) → AreFound all vs → AreFound (w ∷ all) vs
found_behind w all [] apart found = tt
found_behind w all (v ∷ vs) apart found = (
  ap (λ (b : Bool). if b then Some w else view_under v.name all) (bytes_eq-symmetric v.name w.name ∙ apart.0) ∙ found.0,
  found_behind w all vs apart.1 found.1,
)

-- each view is the one that is found under its name, if no two have the same
pub found_each : (vs : Views) → AreNamedApart vs → AreFound vs vs
unfolding IsDistinct
found_each [] apart = tt
found_each (v ∷ vs) apart = (
  ap (λ (b : Bool). if b then Some v else view_under v.name vs) ((bytes_eq-Decides v.name v.name).1 refl),
  found_behind v vs vs apart.0 (found_each vs apart.1),
)

pub live_each : (names : List (List ℕ)) (vs : Views) → AreNamedApart vs → is_one_stale names vs ≡ false → AreLive names vs
live_each names vs apart none = each vs (found_each vs apart)
  where
    each : (ws : Views) → AreFound vs ws → AreLive names ws
    each [] found = tt
    each (w ∷ ws) found = ((λ among. sym (ap is_stale_view found.0) ∙ none_named_stale vs names none w.name among), each ws found.1)

-- one name after the other
pub stale_on : (vs : Views) (name : List ℕ) (rest : List (List ℕ)) (all : Bool) → is_one_stale (name ∷ rest) vs ≡ all → (b : Bool) → b ≡ is_stale_view (view_under name vs) → b || is_one_stale rest vs ≡ all
stale_on vs name rest all so_far b is = ap (λ (c : Bool). c || is_one_stale rest vs) is ∙ so_far

-- a live view of a stale one
pub live_over_stale : LiveReadNoStale (over_lists (codes "v") (codes "c") ∷ over_lists (codes "w") (codes "v") ∷ []) (stale ∷ live 0 ∷ []) → ⊥
live_over_stale h = h.1.0 (codes "v") refl refl
