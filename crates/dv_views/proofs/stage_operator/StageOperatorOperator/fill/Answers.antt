-- What the operator inside returns for the first rows is what the enum returns.
use Rattle.std.proofs.Common.{◌≡◌, IfOk, List, [], sym, subst}
use Rattle.std.specs.Prelude.{Result}
use Rattle.std.specs.List.{AllByRecursion}
use Rattle.dv_change.specs.declared.change.Change.{Change}
use Rattle.dv_change.specs.declared.taking.Taken.{Taken}
use Rattle.dv_change.specs.Changes.{Positioned}
use Rattle.dv_change.specs.Inner.Changes.{IsExactChange}
use Rattle.dv_change.specs.Inner.Fed.{IsFilled}
use Rattle.dv_change.specs.Inner.Told.{told_along}
use Rattle.dv_views.specs.declared.stage_operator.StageOperator.{StageOperator}
use Rattle.dv_views.specs.declared.stage_operator.StageOperator.TheVariants.{Match, Project, Unwind, Sort, Limit, Group, Lookup}
use Rattle.dv_views.specs.Inner.Operating.{HoldsStage, stage_makes}
use Rattle.dv_views.proofs.stage_operator.StageOperatorOperator.fill.Goals as goal

module _ {A E : Type 0} (r : Result A E) (items : A → List Taken) (all : List Taken) where
  abbrev Fills : StageOperator → StageOperator → Type 0
  Fills after before =
      IfOk r (λ made. (others : List Positioned) (changes : List Change) → HoldsStage before others [] → AllByRecursion IsExactChange changes → all ≡ told_along [] changes → IsFilled (stage_makes before others) (HoldsStage after others) changes (items made))

pub returns-in-Match-clause-filled : goal.returns-in-Match-clause-filled
returns-in-Match-clause-filled c = subst (Fills c.fill.result (λ made. made.items) c.args.all.items (Match c.fill.new.self)) (sym c.in-Match.is) c.fill.ensures.filled

pub returns-in-Project-clause-filled : goal.returns-in-Project-clause-filled
returns-in-Project-clause-filled c = subst (Fills c.fill-in-Project.result (λ made. made.items) c.args.all.items (Project c.fill-in-Project.new.self)) (sym c.in-Project.is) c.fill-in-Project.ensures.filled

pub returns-in-Unwind-clause-filled : goal.returns-in-Unwind-clause-filled
returns-in-Unwind-clause-filled c = subst (Fills c.fill-in-Unwind.result (λ made. made.items) c.args.all.items (Unwind c.fill-in-Unwind.new.self)) (sym c.in-Unwind.is) c.fill-in-Unwind.ensures.filled

pub returns-in-Sort-clause-filled : goal.returns-in-Sort-clause-filled
returns-in-Sort-clause-filled c = subst (Fills c.fill-in-Sort.result (λ made. made.items) c.args.all.items (Sort c.fill-in-Sort.new.self)) (sym c.in-Sort.is) c.fill-in-Sort.ensures.filled

pub returns-in-Limit-clause-filled : goal.returns-in-Limit-clause-filled
returns-in-Limit-clause-filled c = subst (Fills c.fill-in-Limit.result (λ made. made.items) c.args.all.items (Limit c.fill-in-Limit.new.self)) (sym c.in-Limit.is) c.fill-in-Limit.ensures.filled

pub returns-in-Group-clause-filled : goal.returns-in-Group-clause-filled
returns-in-Group-clause-filled c = subst (Fills c.fill-in-Group.result (λ made. made.items) c.args.all.items (Group c.fill-in-Group.new.self)) (sym c.in-Group.is) c.fill-in-Group.ensures.filled

pub returns-in-Lookup-clause-filled : goal.returns-in-Lookup-clause-filled
returns-in-Lookup-clause-filled c = subst (Fills c.fill-in-Lookup.result (λ made. made.items) c.args.all.items (Lookup c.fill-in-Lookup.new.self)) (sym c.in-Lookup.is) c.fill-in-Lookup.ensures.filled
