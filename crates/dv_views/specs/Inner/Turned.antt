-- A view in memory after a change that views pass on: definitions for bodies.
use Rattle.std.specs.Prelude.{◌≡◌, ◌⊎◌, ℕ, suc, Bool, true, false, List, [], ◌∷◌, ◌++◌, fold, map, Option, Some, None, is_some, if◌then◌else◌, ⊤}
use Rattle.std.specs.List.{AllByRecursion, list_any}
use Rattle.std.specs.Str.{bytes_eq}
use Rattle.dv_change.specs.declared.input.Input.{Input}
use Rattle.dv_change.specs.declared.input.Input.TheVariants.{Left, Named}
use Rattle.dv_change.specs.declared.taking.Taken as taking
use Rattle.dv_change.specs.Changes.{with_changes}
use Rattle.dv_change.specs.Inner.Told.{input_rows, told_along, with_old}
use Rattle.dv_change.specs.Inputs.{HasInput}
use Rattle.dv_change.specs.Raised.{raised}
use Rattle.dv_pipe.specs.declared.stage.Stage.{Stage}
use Rattle.dv_views.specs.Flow.{Arrival, handed_by, inputs_after, work_by}
use Rattle.dv_views.specs.Forms.{is_name_among, names_read}
use Rattle.dv_views.specs.Inner.Holding.{HasMade}
use Rattle.dv_views.specs.Inner.Views.{Views, view_form, is_stale, no_distance, with_distance}
use Rattle.dv_views.specs.Placed.{lookups_of}
use Rattle.dv_views.specs.Views.{Kept, ViewMark, Inputs, View, live, stale}

-- ---- changes in memory

-- the changes of each namespace, each with the row that was at its position before; none if the change doesn't reach it
abbrev pub Known : Type 0
Known = List ℕ → Option (List taking.Taken)

-- the changes of one namespace alone
abbrev pub known_at : List ℕ → List taking.Taken → Known
known_at namespace all name = if bytes_eq namespace name then Some all else None

-- with the changes of one more name
abbrev pub with_known : List ℕ → Option (List taking.Taken) → Known → Known
with_known name all known other = if bytes_eq other name then all else known other

-- whether the change reaches what a pipeline reads
abbrev pub comes_to : List Stage → List ℕ → Known → Bool
comes_to stages source known = list_any (λ name. is_some (known name)) (names_read stages source)

-- a change of one input of a view
pub record Come : Type 0 where
  pub input : Input
  pub taken : taking.Taken

abbrev pub coming : Input → Option (List taking.Taken) → List Come
coming input None = []
coming input (Some all) = map (λ taken. record { input = input; taken = taken }) all

-- the changes of the lists that are read by `$lookup`, which are numbered from i
abbrev pub coming_to_lists : ℕ → List (List ℕ) → Known → List Come
coming_to_lists i [] known = []
coming_to_lists i (name ∷ names) known = coming (Named i) (known name) ++ coming_to_lists (suc i) names known

-- the changes of a source, and of the lists that are read by `$lookup`
abbrev pub coming_under : List ℕ → List (List ℕ) → Known → List Come
coming_under source lookups known = coming Left (known source) ++ coming_to_lists 0 lookups known

-- the changes of all that a pipeline reads
abbrev pub coming_to : List Stage → List ℕ → Known → List Come
coming_to stages source known = coming_under source (lookups_of stages source) known

-- ---- a view after changes

-- the inputs after changes, one after the other
abbrev pub taken_by : Inputs → List Arrival → Inputs
taken_by t all = fold (λ t a. inputs_after a.input a.change t) t all

-- the changes, each with the row that was there before
abbrev pub come_along : List Arrival → Inputs → List Come
come_along [] t = []
come_along (a ∷ all) t = record { input = a.input; taken = with_old (input_rows a.input t.named t.left) a.change } ∷ come_along all (inputs_after a.input a.change t)

-- what is kept after changes of these inputs, and the changes of its rows, appended to those that were passed on before
pub record HasTurned (stages : List Stage) (t : Inputs) (all : List Arrival) (before : Kept) (first : List taking.Taken) (after : Kept) (now : List taking.Taken) : Type 0 where
  pub made : HasMade stages after (taken_by t all)
  pub tells : now ≡ first ++ told_along before.rows (handed_by stages all t)
  pub ticks : after.ticks ≡ raised before.ticks (work_by stages all t)
  pub leads : after.rows ≡ with_changes before.rows (handed_by stages all t)

-- whatever was taken in before, changes that come with the rows that were there before are taken in, one after the other
abbrev pub Turns : List Come → Kept → List taking.Taken → Kept → List taking.Taken → Type 0
Turns come before first after now =
    (stages : List Stage) (t : Inputs) (all : List Arrival) → HasMade stages before t → AllByRecursion (λ a. HasInput a.input t.named) all → come ≡ come_along all t → HasTurned stages t all before first after now

-- a live view that takes in its changes, stays live, and passes on the changes of its rows
pub record KeepsOn (come : List Come) (before after : ViewMark) (now : Option (List taking.Taken)) : Type 0 where
  pub old : Kept
  pub new : Kept
  pub all : List taking.Taken
  pub was : before ≡ live old
  pub is : after ≡ live new
  pub tells : now ≡ Some all
  pub turns : Turns come old [] new all

-- a view that a change reaches does this, or is stale afterwards
abbrev pub IsTurned : List Come → ViewMark → ViewMark → Option (List taking.Taken) → Type 0
IsTurned come before after now = (after ≡ stale) ⊎ KeepsOn come before after now

-- a view, and the changes that it passes on
pub record Telling : Type 0 where
  pub view : View
  pub told : Option (List taking.Taken)

-- a view after a change, by the changes of each name, and by how far each name is from being live
pub record IsTakenBy (come : Known) (distances : List ℕ → ℕ) (before : View) (after : Telling) : Type 0 where
  pub form : view_form after.view ≡ view_form before
  pub tells : is_some after.told ≡ comes_to before.stages before.source come
  pub unread : comes_to before.stages before.source come ≡ false → after.view ≡ before
  pub turned : comes_to before.stages before.source come ≡ true → IsTurned (coming_to before.stages before.source come) before.mark after.view.mark after.told
  pub live : comes_to before.stages before.source come ≡ true → is_stale after.view.mark ≡ false → (name : List ℕ) → is_name_among name (names_read before.stages before.source) ≡ true → distances name ≡ 0

-- views, one by one
abbrev pub AreTakenBy : Known → (List ℕ → ℕ) → Views → List Telling → Type 0
AreTakenBy known distances [] [] = ⊤
AreTakenBy known distances [] (w ∷ after) = ⊥
AreTakenBy known distances (v ∷ before) [] = ⊥
AreTakenBy known distances (v ∷ before) (w ∷ after) = IsTakenBy known distances v w × AreTakenBy (with_known v.name w.told known) (with_distance w.view distances) before after

-- views after a change, whatever changes each passed on
pub record HaveTaken (known : Known) (before after : Views) : Type 0 where
  pub tellings : List Telling
  pub views : map (λ t. t.view) tellings ≡ after
  pub taken : AreTakenBy known no_distance before tellings

-- views after a change of which only the namespace is known
abbrev pub HaveLost : List ℕ → Views → Views → Type 0
HaveLost namespace before after = (all : List taking.Taken) → HaveTaken (known_at namespace all) before after
