-- A stage that receives changes: what it returns, what it may have taken in, and what holds of that.
use Rattle.std.specs.Prelude.{◌≡◌, ℕ, zero, suc, List, [], ◌∷◌, refl, ⊤}
use Rattle.std.specs.List.{AllByRecursion, AllZip}
use Rattle.dv_change.specs.Changes.{Positioned}
use Rattle.dv_change.specs.Inner.Changes.{HaveOneLength, IsPositioned}
use Rattle.dv_change.specs.Inner.Told.{no_lists}
use Rattle.dv_flow.specs.Inner.Limiting.{HoldsLimit, IsCut, limit_empty, limit_even, limit_ordered, positioned_held}
use Rattle.dv_flow.specs.Inner.Matching.{match_even, match_ordered}
use Rattle.dv_flow.specs.Inner.Projecting.{project_even, project_ordered}
use Rattle.dv_flow.specs.Inner.Rows.{HoldsRows}
use Rattle.dv_flow.specs.Inner.Sorting.{sort_empty, sort_even, sort_ordered}
use Rattle.dv_flow.specs.Inner.Unwinding.{unwind_empty, unwind_even, unwind_ordered}
use Rattle.dv_flow.specs.Placed.{front_at, matched_at, shown_at, sorted_at, unwound_at}
use Rattle.dv_group.specs.Inner.Grouped.{group_empty, group_even, group_ordered}
use Rattle.dv_group.specs.Inner.Held.{HoldsGroups}
use Rattle.dv_group.specs.Inner.Members.{AreLiveGroups}
use Rattle.dv_group.specs.Placed.{grouped_at}
use Rattle.dv_join.specs.Inner.Placed.{looked_up_even, looked_up_ordered}
use Rattle.dv_join.specs.Inner.Turning.{HoldsJoin, join_positioned}
use Rattle.dv_join.specs.Placed.{looked_up_at}
use Rattle.dv_join.specs.Turning.{first_input}
use Rattle.dv_pipe.specs.declared.stage.Stage.{Stage}
use Rattle.dv_views.specs.Placed.{lists_in, stage_at}
use Rattle.dv_views.specs.declared.stage_operator.StageOperator.{StageOperator}
use Rattle.dv_views.specs.declared.stage_operator.StageOperator.TheVariants.{Match, Project, Unwind, Sort, Limit, Group, Lookup}

-- what it returns for the lists that it reads by `$lookup` and for rows
abbrev pub stage_makes : StageOperator → List Positioned → Positioned → Positioned
stage_makes (Match o) others rows = matched_at o.stage rows
stage_makes (Project o) others rows = shown_at o.stage rows
stage_makes (Unwind o) others rows = unwound_at o.stage rows
stage_makes (Sort o) others rows = sorted_at o.stage rows
stage_makes (Limit o) others rows = front_at o.count rows
stage_makes (Group o) others rows = grouped_at o.group rows
stage_makes (Lookup o) others rows = looked_up_at o.lookup rows (first_input others)

-- it isn't spent
abbrev pub IsSoundStage : StageOperator → Type 0
IsSoundStage (Match o) = ⊤
IsSoundStage (Project o) = ⊤
IsSoundStage (Unwind o) = ⊤
IsSoundStage (Sort o) = ⊤
IsSoundStage (Limit o) = IsCut o
IsSoundStage (Group o) = AreLiveGroups o.group o.groups.entries
IsSoundStage (Lookup o) = ⊤

-- it may have taken in these lists and these rows
abbrev pub HoldsStage : StageOperator → List Positioned → Positioned → Type 0
HoldsStage (Match o) others left = HoldsRows o others left
HoldsStage (Project o) others left = HoldsRows o others left
HoldsStage (Unwind o) others left = HoldsRows o others left
HoldsStage (Sort o) others left = HoldsRows o others left
HoldsStage (Limit o) others left = HoldsLimit o others left
HoldsStage (Group o) others left = HoldsGroups o others left
HoldsStage (Lookup o) others left = HoldsJoin o others left

pub stage_positioned : (o : StageOperator) (others : List Positioned) (left : Positioned) → HoldsStage o others left → IsPositioned left × AllByRecursion (λ (rows : Positioned). IsPositioned rows) others
stage_positioned (Match o) others left held = (held.positioned, no_lists others held.none)
stage_positioned (Project o) others left held = (held.positioned, no_lists others held.none)
stage_positioned (Unwind o) others left held = (held.positioned, no_lists others held.none)
stage_positioned (Sort o) others left held = (held.positioned, no_lists others held.none)
stage_positioned (Limit o) others left held = (positioned_held o others left held, no_lists others held.none)
stage_positioned (Group o) others left held = (held.positioned, no_lists others held.none)
stage_positioned (Lookup o) others left held = (held.left, join_positioned o others left held)

pub stage_ordered : (o : StageOperator) (others : List Positioned) (rows : Positioned) → IsPositioned rows → IsPositioned (stage_makes o others rows)
stage_ordered (Match o) others rows are = match_ordered o.stage rows are
stage_ordered (Project o) others rows are = project_ordered o.stage rows are
stage_ordered (Unwind o) others rows are = unwind_ordered o.stage rows are
stage_ordered (Sort o) others rows are = sort_ordered o.stage rows are
stage_ordered (Limit o) others rows are = limit_ordered o.count rows are
stage_ordered (Group o) others rows are = group_ordered o.group rows are
stage_ordered (Lookup o) others rows are = looked_up_ordered o.lookup (first_input others) rows are

pub stage_even : (o : StageOperator) (others : List Positioned) (rows : Positioned) → IsPositioned rows → HaveOneLength rows → HaveOneLength (stage_makes o others rows)
stage_even (Match o) others rows are one = match_even o.stage rows are one
stage_even (Project o) others rows are one = project_even o.stage rows are one
stage_even (Unwind o) others rows are one = unwind_even o.stage rows are one
stage_even (Sort o) others rows are one = sort_even o.stage rows are one
stage_even (Limit o) others rows are one = limit_even o.count rows one
stage_even (Group o) others rows are one = group_even o.group rows are one
stage_even (Lookup o) others rows are one = looked_up_even o.lookup (first_input others) rows one

pub stage_empty : (o : StageOperator) (others : List Positioned) → stage_makes o others [] ≡ []
stage_empty (Match o) others = refl
stage_empty (Project o) others = refl
stage_empty (Unwind o) others = unwind_empty o.stage
stage_empty (Sort o) others = sort_empty o.stage
stage_empty (Limit o) others = limit_empty o.count
stage_empty (Group o) others = group_empty o.group
stage_empty (Lookup o) others = refl

-- ---- stages that have taken in nothing

-- this many empty lists, for the lists that a stage reads by `$lookup`
abbrev pub empty_lists : ℕ → List Positioned
empty_lists zero = []
empty_lists (suc n) = [] ∷ empty_lists n

abbrev pub lists_at_first : Stage → List Positioned
lists_at_first s = empty_lists (lists_in s)

pub record IsFreshStage (s : Stage) (o : StageOperator) : Type 0 where
  pub makes : stage_makes o ≡ stage_at s
  pub sound : IsSoundStage o
  pub holds : HoldsStage o (lists_at_first s) []

-- each operator is that of its stage, and has taken in nothing
abbrev pub AreFresh : List Stage → List StageOperator → Type 0
AreFresh stages operators = AllZip IsFreshStage stages operators
