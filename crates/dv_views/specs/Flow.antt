-- How one change of a collection flows through the views, in creation order: the changes of each namespace, and the work that it takes.
use Rattle.std.specs.Prelude.{ℕ, suc, ◌+◌, ◌||◌, Bool, false, List, [], ◌∷◌, ◌++◌, map, Option, Some, None, is_some, if◌then◌else◌}
use Rattle.std.specs.List.{list_any}
use Rattle.std.specs.Str.{bytes_eq}
use Rattle.dv_change.specs.declared.change.Change.{Change}
use Rattle.dv_change.specs.declared.input.Input.{Input}
use Rattle.dv_change.specs.declared.input.Input.TheVariants.{Left, Named}
use Rattle.dv_change.specs.Inputs.{left_after, others_after}
use Rattle.dv_change.specs.Work.{pass_in, work_in}
use Rattle.dv_pipe.specs.declared.stage.Stage.{Stage}
use Rattle.dv_pipe.specs.Stages.{Lists}
use Rattle.dv_views.specs.Changed.{with_changed}
use Rattle.dv_views.specs.Forms.{ViewForm, names_read, with_places}
use Rattle.dv_views.specs.Placed.{ListPlaces, forms, lookups_of, list_places}
use Rattle.dv_views.specs.Views.{Inputs, inputs_from}

-- ---- what enters a view

-- the changes of each namespace, one after the other; none if the change doesn't reach it
abbrev pub Told : Type 0
Told = List ℕ → Option (List Change)

-- the changes of one namespace alone
abbrev pub told_at : List ℕ → List Change → Told
told_at namespace changes name = if bytes_eq namespace name then Some changes else None

-- a change of one input of a view
pub record Arrival : Type 0 where
  pub input : Input
  pub change : Change

-- the changes that enter an input, if its namespace is reached
abbrev pub arriving : Input → Option (List Change) → List Arrival
arriving input None = []
arriving input (Some changes) = map (λ change. record { input = input; change = change }) changes

-- the changes that enter the lists that a pipeline reads by `$lookup`, which are numbered from i
abbrev pub arriving_at_lists : ℕ → List (List ℕ) → Told → List Arrival
arriving_at_lists i [] told = []
arriving_at_lists i (name ∷ names) told = arriving (Named i) (told name) ++ arriving_at_lists (suc i) names told

-- the changes that enter a pipeline, one after the other: first those of its source, then those of each list that it reads, in their
-- order
abbrev pub arrivals : List Stage → List ℕ → Told → List Arrival
arrivals stages source told = arriving Left (told source) ++ arriving_at_lists 0 (lookups_of stages source) told

-- whether the change reaches a pipeline: it reaches what the pipeline reads, even if it changes nothing there
abbrev pub is_reached : List Stage → List ℕ → Told → Bool
is_reached stages source told = list_any (λ name. is_some (told name)) (names_read stages source)

-- ---- what a view returns

-- the inputs after a change of one of them
abbrev pub inputs_after : Input → Change → Inputs → Inputs
inputs_after input change t = record { left = left_after input change t.left; named = others_after input change t.named }

-- the work of a change of one input: each stage counts 1 for each change that it takes in, and 1 for each that it returns
abbrev pub work_of : List Stage → Input → Change → Inputs → ℕ
work_of stages input change t = work_in input change (forms stages t.named) t.left

-- the changes that the stages return for the changes that enter, one after the other
abbrev pub handed_by : List Stage → List Arrival → Inputs → List Change
handed_by stages [] t = []
handed_by stages (a ∷ all) t = pass_in a.input a.change (forms stages t.named) t.left ++ handed_by stages all (inputs_after a.input a.change t)

-- the work of the changes that enter, one after the other
abbrev pub work_by : List Stage → List Arrival → Inputs → ℕ
work_by stages [] t = 0
work_by stages (a ∷ all) t = work_of stages a.input a.change t + work_by stages all (inputs_after a.input a.change t)

-- ---- from one view to the next

-- the rows of each namespace before the change, and the changes of each namespace
pub record Flow : Type 0 where
  pub places : ListPlaces
  pub told : Told

-- the changes that a pipeline over a source returns; none if it isn't reached
abbrev pub flow_told : List Stage → List ℕ → Flow → Option (List Change)
flow_told stages source flow = if is_reached stages source flow.told then Some (handed_by stages (arrivals stages source flow.told) (inputs_from stages source flow.places)) else None

-- the changes of each namespace, with those of one more name
abbrev pub flow_with_told : List ℕ → Option (List Change) → Told → Told
flow_with_told name changes told other = if bytes_eq other name then changes else told other

-- the flow after one more view
abbrev pub flow_through : Flow → ViewForm → Flow
flow_through flow v = record { places = with_places v flow.places; told = flow_with_told v.name (flow_told v.stages v.source flow) flow.told }

-- ---- the share of each view

-- whether changes reach a view, and their work in it
pub record Share : Type 0 where
  pub reached : Bool
  pub work : ℕ

-- no change reaches the view
abbrev pub nothing : Share
nothing = record { reached = false; work = 0 }

-- two shares of one view together
abbrev pub shares_together : Share → Share → Share
shares_together a b = record { reached = a.reached || b.reached; work = a.work + b.work }

-- the shares of each view in two lists, together
abbrev pub all_together : List Share → List Share → List Share
all_together [] others = []
all_together (a ∷ some) [] = []
all_together (a ∷ some) (b ∷ others) = shares_together a b ∷ all_together some others

-- the share of each view in one change, in creation order
abbrev pub shares_of : Flow → List ViewForm → List Share
shares_of flow [] = []
shares_of flow (v ∷ views) =
    record { reached = is_reached v.stages v.source flow.told; work = work_by v.stages (arrivals v.stages v.source flow.told) (inputs_from v.stages v.source flow.places) }
    ∷ shares_of (flow_through flow v) views

-- the share of each view in changes of one namespace; each change flows through all views before the next
unfoldable pub shares : List ℕ → List Change → Lists → List ViewForm → List Share
shares namespace [] lists views = map (λ v. nothing) views
shares namespace (change ∷ changes) lists views =
    all_together (shares_of (record { places = list_places lists; told = told_at namespace (change ∷ []) }) views) (shares namespace changes (with_changed namespace (change ∷ []) lists) views)
