-- Views that are added, and the lists over which they are computed.
use Rattle.std.specs.Prelude.{◌≡◌, ℕ, zero, suc, true, false, List, [], ◌∷◌, ◌++◌, map, Option, Some, None, ⊤}
use Rattle.dv_change.specs.Changes.{forget}
use Rattle.dv_pipe.specs.declared.stage.Stage.{Stage}
use Rattle.dv_pipe.specs.Stages.{Lists, evaluated}
use Rattle.dv_views.specs.Forms.{is_name_among, names_read, needed, outs_of}
use Rattle.dv_views.specs.Placed.{ListPlaces}
use Rattle.dv_views.specs.Views.{View}
use Rattle.dv_views.specs.Inner.Views.{AreRefreshed, IsJustMade, IsPartlyRefreshed, Views, view_form, is_stale}

-- lists that hold the same under some names
abbrev pub AreAlike : List (List ℕ) → Lists → Lists → Type 0
AreAlike names lists others = (name : List ℕ) → is_name_among name names ≡ true → lists name ≡ others name

-- the rows that stages return at positions are, without the positions, the rows of the pipeline from scratch, if each name that the
-- stages read has the same rows with positions and without them
abbrev pub AreFromScratch : List Stage → List ℕ → ListPlaces → Lists → Type 0
AreFromScratch stages source places lists = AreAlike (names_read stages source) (λ name. forget (places name)) lists → forget (outs_of stages source places) ≡ evaluated stages source lists

-- the names that are needed for a pipeline over a source
abbrev pub needed_for : Views → List Stage → List ℕ → List (List ℕ)
needed_for views stages source = needed (map view_form views) (names_read stages source)

-- if this held over some lists that are the same under some names as the sources, it still holds over them
abbrev pub StillHolds : {V : Type 0} → (Lists → V → Type 0) → List (List ℕ) → Lists → V → V → Type 0
StillHolds Holds names sources before after = (lists : Lists) → AreAlike names sources lists → Holds lists before → Holds lists after

-- one more view, which was just made
pub record IsAdded (name source : List ℕ) (stages : List Stage) (before after : Views) : Type 0 where
  pub view : View
  pub form : view_form view ≡ record { name = name; source = source; stages = stages }
  pub fresh : IsJustMade view.mark
  pub last : after ≡ before ++ view ∷ []

-- the same, after the stale views that it needs were recomputed
pub record IsCreated (name source : List ℕ) (stages : List Stage) (before after : Views) : Type 0 where
  pub refreshed : Views
  pub read : AreRefreshed (needed_for before stages source) before refreshed
  pub added : IsAdded name source stages refreshed after

-- no view, or one that isn't stale
abbrev pub IsNoStale : Option View → Type 0
IsNoStale None = ⊤
IsNoStale (Some v) = is_stale v.mark ≡ false

-- the view at a place is recomputed if it is stale and has one of these names, and the others are unchanged
abbrev pub IsRefreshedAt : ℕ → List (List ℕ) → Views → Views → Type 0
IsRefreshedAt place names [] after = after ≡ []
IsRefreshedAt place names (v ∷ before) [] = ⊥
IsRefreshedAt zero names (v ∷ before) (w ∷ after) = IsPartlyRefreshed names v w × (is_name_among v.name names ≡ true → is_stale w.mark ≡ false) × (after ≡ before)
IsRefreshedAt (suc place) names (v ∷ before) (w ∷ after) = (w ≡ v) × IsRefreshedAt place names before after
