-- What only bodies and proofs need of `Views`.
use Rattle.std.specs.Prelude.{◌≡◌, ◌≤◌, ◌⊎◌, ℕ, Bool, true, false, not, List, [], ◌∷◌, map, filter, fold, length, Option, Some, None, Err, if◌then◌else◌, IfErr, ⊤}
use Rattle.std.specs.List.{AllByRecursion, AllZip, IsDistinct, find, list_any}
use Rattle.std.specs.Option.{option_and_then}
use Rattle.std.specs.Str.{bytes_eq}
use Rattle.std.specs.declared.result.Result.{Result}
use Rattle.dv_change.specs.Changes.{forget}
use Rattle.dv_coll.specs.Collection.{HasId, IsAscending}
use Rattle.dv_pipe.specs.Sources.{Row}
use Rattle.dv_pipe.specs.Stages.{Lists, evaluated, is_read}
use Rattle.dv_pipe.specs.declared.stage.Stage.{Stage}
use Rattle.dv_views.specs.Forms.{ViewForm, is_name_among, with_places, with_rows}
use Rattle.dv_views.specs.Inner.Holding.{HasMade}
use Rattle.dv_views.specs.Placed.{ListPlaces, list_places}
use Rattle.dv_views.specs.declared.fault.ViewFault.{ViewFault}
use Rattle.dv_views.specs.declared.state.ViewState.{ViewState}
use Rattle.dv_views.specs.declared.state.ViewState.TheVariants as states
use Rattle.dv_views.specs.declared.fault.ViewFault.TheVariants.{NoMemory}
use Rattle.dv_views.specs.Views.{Inputs, ViewMark, live, stale, View, inputs_from}

abbrev pub Views : Type 0
Views = List View

-- a view without what it keeps
abbrev pub view_form : View → ViewForm
view_form v = record { name = v.name; source = v.source; stages = v.stages }

-- what is kept, if anything is, are these rows, which the stages return for what they have taken in
abbrev pub AreKept : List Stage → ViewMark → Inputs → List Row → Type 0
AreKept stages (live kept) taken rows = HasMade stages kept taken × (forget kept.rows ≡ rows)
AreKept stages stale taken rows = ⊤

-- a live view has the rows of its pipeline from scratch, and has taken in what it reads as it is now
abbrev pub IsRight : ListPlaces → Lists → View → Type 0
IsRight places lists v = AreKept v.stages v.mark (inputs_from v.stages v.source places) (evaluated v.stages v.source lists)

-- each view is right over the lists and the rows of the older views
abbrev pub AreRightOver : ListPlaces → Lists → Views → Type 0
AreRightOver places lists [] = ⊤
AreRightOver places lists (v ∷ views) = IsRight places lists v × AreRightOver (with_places (view_form v) places) (with_rows (view_form v) lists) views

abbrev pub AreRight : Lists → Views → Type 0
AreRight lists views = AreRightOver (list_places lists) lists views

-- ---- views by their names

abbrev pub is_view_named : List ℕ → View → Bool
is_view_named name v = bytes_eq name v.name

abbrev pub AreNamedApart : Views → Type 0
AreNamedApart views = IsDistinct bytes_eq (map (λ v. v.name) views)

abbrev pub view_under : List ℕ → Views → Option View
view_under name views = find (is_view_named name) views

abbrev pub has_view : List ℕ → Views → Bool
has_view name views = list_any (is_view_named name) views

abbrev pub views_without : List ℕ → Views → Views
views_without name views = filter (λ v. not (is_view_named name v)) views

-- the rows that a mark shows
abbrev pub kept_rows : ViewMark → Option (List Row)
kept_rows (live kept) = Some (forget kept.rows)
kept_rows stale = None

-- the rows that the view of this name keeps
abbrev pub rows_shown : List ℕ → Views → Option (List Row)
rows_shown name views = option_and_then (λ v. kept_rows v.mark) (view_under name views)

-- how many rows a mark shows; 0 if it is stale
abbrev pub mark_rows : ViewMark → ℕ
mark_rows (live kept) = length (forget kept.rows)
mark_rows stale = 0

-- whether a mark has its rows
abbrev pub state_of_mark : ViewMark → ViewState
state_of_mark (live kept) = states.Live
state_of_mark stale = states.Stale

abbrev pub is_stale : ViewMark → Bool
is_stale (live kept) = false
is_stale stale = true

-- the count of the work that the changes of a view took since it was made; 0 if it is stale
abbrev pub mark_ticks : ViewMark → ℕ
mark_ticks (live kept) = kept.ticks
mark_ticks stale = 0

-- ---- what views read

abbrev pub reads : View → List ℕ → Bool
reads v namespace = is_read v.stages v.source namespace

-- some view reads the namespace
abbrev pub reads_name : Views → List ℕ → Bool
reads_name views namespace = list_any (λ v. reads v namespace) views

-- the lists are the same wherever a view reads
abbrev pub AreSameWhereRead : Views → Lists → Lists → Type 0
AreSameWhereRead views lists others = (name : List ℕ) → reads_name views name ≡ true → lists name ≡ others name

-- how far a view is from being live: 0 if it is live, 1 if it is stale
abbrev pub distance : ViewMark → ℕ
distance (live kept) = 0
distance stale = 1

abbrev pub with_distance : View → (List ℕ → ℕ) → List ℕ → ℕ
with_distance v distances name = if bytes_eq name v.name then distance v.mark else distances name

-- what each view reads is no farther from being live than the view itself, so a live view reads no stale one; a name that is no
-- view's is at 0
abbrev pub AreOverLive : (List ℕ → ℕ) → Views → Type 0
AreOverLive distances [] = ⊤
AreOverLive distances (v ∷ views) = ((name : List ℕ) → reads v name ≡ true → distances name ≤ distance v.mark) × AreOverLive (with_distance v distances) views

abbrev pub no_distance : List ℕ → ℕ
no_distance name = 0

-- how far each name is from being live
abbrev pub distances_of : Views → List ℕ → ℕ
distances_of views = fold (λ below v. with_distance v below) no_distance views

-- refused with the fault, if there is one, and otherwise only because memory runs out
abbrev pub IsRefusedFor : {T : Type 0} → Option ViewFault → Result T ViewFault → Type 0
IsRefusedFor (Some fault) result = result ≡ Err fault
IsRefusedFor None result = IfErr result (λ fault. fault ≡ NoMemory)

-- ---- recomputed views

-- documents that begin with an `_id` of their own, in the order of these
abbrev pub AreInOrder : List Row → Type 0
AreInOrder documents = IsAscending documents × AllByRecursion HasId documents

-- a mark of a view that was just made: it is live, and has counted nothing
pub record IsJustMade (mark : ViewMark) : Type 0 where
  pub live : is_stale mark ≡ false
  pub ticks : mark_ticks mark ≡ 0

-- a view that was stale has its rows now
pub record IsMadeAnew (before after : View) : Type 0 where
  pub stale : is_stale before.mark ≡ true
  pub form : view_form after ≡ view_form before
  pub fresh : IsJustMade after.mark

-- a view is unchanged; or it was stale, has one of these names, and is recomputed
abbrev pub IsPartlyRefreshed : List (List ℕ) → View → View → Type 0
IsPartlyRefreshed names before after = (after ≡ before) ⊎ ((is_name_among before.name names ≡ true) × IsMadeAnew before after)

abbrev pub ArePartlyRefreshed : List (List ℕ) → Views → Views → Type 0
ArePartlyRefreshed names before after = AllZip (IsPartlyRefreshed names) before after

-- the same, and no view of these names is stale afterwards
abbrev pub AreRefreshed : List (List ℕ) → Views → Views → Type 0
AreRefreshed names before after = ArePartlyRefreshed names before after × AllByRecursion (λ v. is_name_among v.name names ≡ true → is_stale v.mark ≡ false) after
