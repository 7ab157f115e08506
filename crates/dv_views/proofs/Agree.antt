-- If no view is stale, the rows at positions are the rows over the lists.
use Rattle.std.proofs.Common.{◌≡◌, ◌≤◌, ℕ, Bool, true, false, List, [], ◌∷◌, map, fold, ◌∙◌, arith}
use Rattle.std.specs.Bool.{if◌then◌else◌}
use Rattle.std.specs.Str.{bytes_eq}
use Rattle.dv_change.specs.Changes.{Positioned, forget}
use Rattle.dv_change.specs.Inner.Changes.{HaveOneLength, IsPositioned}
use Rattle.dv_pipe.specs.Sources.{Row}
use Rattle.dv_pipe.specs.Stages.{Lists, evaluated}
use Rattle.dv_pipe.specs.declared.stage.Stage.{Stage}
use Rattle.dv_views.specs.Forms.{is_name_among, names_read, outs_of, places_over, rows_over, with_places, with_rows}
use Rattle.dv_views.specs.Placed.{ListPlaces, lookups_of, list_places}
use Rattle.dv_views.specs.Views.{ViewMark, live, stale, View, inputs_from}
use Rattle.dv_views.specs.Inner.Views.{AreKept, AreOverLive, AreRight, AreRightOver, IsRight, Views, distance, distances_of, view_form, no_distance, reads, with_distance}
use Rattle.dv_views.proofs.Made.{forgotten}
use Rattle.dv_views.proofs.Right.{itself, or-left, read_among}
use Rattle.dv_views.proofs.Scratch.{even_outs, one_length}

-- what a law says of rows from scratch
abbrev pub FromScratch : Type 0
FromScratch = (stages : List Stage) (source : List ℕ) (places : ListPlaces) (lists : Lists) → IsPositioned (places source) → HaveOneLength (places source) → ((name : List ℕ) → is_name_among name (names_read stages source) ≡ true → forget (places name) ≡ lists name)
    → forget (outs_of stages source places) ≡ evaluated stages source lists

-- rows at positions of one length; without the positions they are the rows of a list
abbrev pub Agrees : Positioned → List Row → Type 0
Agrees rows list = HaveOneLength rows × (forget rows ≡ list)

module _ (scratch : FromScratch) where
  module _ (distances : List ℕ → ℕ) (places : ListPlaces) (lists : Lists) (agreed : (name : List ℕ) → distances name ≡ 0 → Agrees (places name) (lists name)) where
    -- the rows of a live view agree, since those that it reads do
    made-agrees : (m : ViewMark) (stages : List Stage) (source : List ℕ) → AreKept stages m (inputs_from stages source places) (evaluated stages source lists)
        → ((name : List ℕ) → is_name_among name (names_read stages source) ≡ true → distances name ≤ distance m) → distance m ≡ 0 → Agrees (outs_of stages source places) (evaluated stages source lists)
    made-agrees (live kept) stages source right read is =
        let own = agreed source (let near : distances source ≤ 0 = read source (or-left (bytes_eq source source) (is_name_among source (lookups_of stages source)) (itself source)) in omega arith) in
        let are : IsPositioned (places source) = right.0.made.positioned in (
          even_outs stages (map places (lookups_of stages source)) (places source) are own.0,
          scratch stages source places lists are own.0 (λ name among. (agreed name (let near : distances name ≤ 0 = read name among in omega arith)).1),
        )
    made-agrees stale stages source right read is = absurd (omega arith)

    with-agrees : (v : View) → IsRight places lists v → ((name : List ℕ) → reads v name ≡ true → distances name ≤ distance v.mark) → (name : List ℕ) → with_distance v distances name ≡ 0 → Agrees (with_places (view_form v) places name) (with_rows (view_form v) lists name)
    with-agrees v right read name = by (bytes_eq name v.name)
      where
        by : (b : Bool) → (if b then distance v.mark else distances name) ≡ 0 → Agrees (if b then outs_of v.stages v.source places else places name) (if b then evaluated v.stages v.source lists else lists name)
        by true is = made-agrees v.mark v.stages v.source right (λ name among. read name (read_among v.stages v.source name ∙ among)) is
        by false is = agreed name is

  pub agree_over : (distances : List ℕ → ℕ) (places : ListPlaces) (lists : Lists) (vs : Views) → ((name : List ℕ) → distances name ≡ 0 → Agrees (places name) (lists name)) → AreOverLive distances vs → AreRightOver places lists vs
      → (name : List ℕ) → fold (λ below v. with_distance v below) distances vs name ≡ 0 → Agrees (places_over (map view_form vs) places name) (rows_over (map view_form vs) lists name)
  agree_over distances places lists [] agreed over right name is = agreed name is
  agree_over distances places lists (v ∷ vs) agreed over right name is =
      agree_over (with_distance v distances) (with_places (view_form v) places) (with_rows (view_form v) lists) vs (with-agrees distances places lists agreed v right.0 over.0) over.1 right.1 name is

  pub agree : (lists : Lists) (vs : Views) → AreOverLive no_distance vs → AreRight lists vs → (name : List ℕ) → distances_of vs name ≡ 0
      → HaveOneLength (places_over (map view_form vs) (list_places lists) name) × (forget (places_over (map view_form vs) (list_places lists) name) ≡ rows_over (map view_form vs) lists name)
  agree lists vs over right name is = agree_over no_distance (list_places lists) lists vs (λ name _. (one_length (lists name), forgotten (lists name))) over right name is
