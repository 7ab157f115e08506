-- What a plan in memory stands for: the place of an index and the condition that bounds its keys, or none, for a scan. And the form
-- of an index that isn't made yet.
use Rattle.std.specs.Prelude.{ℕ, Bool, Option, Some, None}
use Rattle.dv_value.specs.View.{tree}
use Rattle.dv_match.specs.Filter.{Condition, equal, among, in_range}
use Rattle.dv_keyed.specs.Choice.{is_point, is_bound}
use Rattle.dv_keyed.specs.Index.{IndexForm}
use Rattle.dv_keyed.specs.declared.index.NewIndex.{NewIndex}
use Rattle.dv_keyed.specs.declared.plan.Bounds.{Bounds}
use Rattle.dv_keyed.specs.declared.plan.Bounds.TheVariants as bounds
use Rattle.dv_keyed.specs.declared.plan.Plan.{Plan}
use Rattle.dv_keyed.specs.declared.plan.Plan.TheVariants as plans
use Rattle.dv_keyed.specs.declared.plan.ConditionKind.{ConditionKind}
use Rattle.dv_keyed.specs.declared.plan.ConditionKind.TheVariants as kinds

abbrev pub bounds_seen : Bounds → Condition
bounds_seen (bounds.Equal v) = equal (tree v.now)
bounds_seen (bounds.Among vs) = among vs.now
bounds_seen (bounds.Within r v) = in_range r (tree v.now)

abbrev pub plan_seen : Plan → Option (ℕ × Condition)
plan_seen plans.Scan = None
plan_seen (plans.Index place b) = Some (place, bounds_seen b)

abbrev pub has_kind : ConditionKind → Condition → Bool
has_kind kinds.Point = is_point
has_kind kinds.Bound = is_bound

abbrev pub form_of_new : NewIndex → IndexForm
form_of_new x = record { name = x.name; path = x.path; unique = x.unique }
