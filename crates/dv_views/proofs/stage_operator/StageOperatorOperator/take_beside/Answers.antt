-- What the operator inside ensures, given the rows that are kept, is ensured of the enum.
use Rattle.std.proofs.Common.{◌≡◌, ◌+◌, ◌++◌, ℕ, List, length, subst, sym}
use Rattle.std.specs.Prelude.{OnOk, Result}
use Rattle.dv_change.specs.declared.change.Change.{Change}
use Rattle.dv_change.specs.declared.input.Input.{Input}
use Rattle.dv_change.specs.declared.taking.Taken.{Taken}
use Rattle.dv_change.specs.Changes.{Positioned}
use Rattle.dv_change.specs.Inner.Told.{ComesTo, told_along}
use Rattle.dv_change.specs.Raised.{raised}
use Rattle.dv_change.specs.Work.{owed_by}
use Rattle.dv_views.specs.declared.stage_operator.StageOperator.{StageOperator}
use Rattle.dv_views.specs.declared.stage_operator.StageOperator.TheVariants.{Project, Lookup}
use Rattle.dv_views.specs.Inner.Operating.{HoldsStage, stage_makes}
use Rattle.dv_views.proofs.Staged.{Holds, Makes}
use Rattle.dv_views.proofs.stage_operator.StageOperatorOperator.take_beside.Goals as goal

module _ {A E : Type 0} (r : Result A E) (input : Input) (taken : Taken) (made : Positioned) where
  abbrev Tells : List Taken → List Taken → StageOperator → Type 0
  Tells now first before =
      OnOk r ((others : List Positioned) (left : Positioned) (change : Change) → HoldsStage before others left → ComesTo input taken change others left → made ≡ stage_makes before others left → now ≡ first ++ told_along (stage_makes before others left) (owed_by input change (stage_makes before) others left))

  abbrev Counts : ℕ → ℕ → StageOperator → Type 0
  Counts now first before =
      OnOk r ((others : List Positioned) (left : Positioned) (change : Change) → HoldsStage before others left → ComesTo input taken change others left → made ≡ stage_makes before others left → now ≡ raised first (1 + length (owed_by input change (stage_makes before) others left)))

pub returns-in-Project-clause-makes : goal.returns-in-Project-clause-makes
returns-in-Project-clause-makes c = subst (Makes c.take_beside.result (Project c.take_beside.new.self)) (sym c.in-Project.is) c.take_beside.ensures.makes

pub returns-in-Project-clause-holds : goal.returns-in-Project-clause-holds
returns-in-Project-clause-holds c = subst (Holds c.take_beside.result c.args.input c.args.taken (Project c.take_beside.new.self)) (sym c.in-Project.is) c.take_beside.ensures.holds

pub returns-in-Project-clause-out : goal.returns-in-Project-clause-out
returns-in-Project-clause-out c = subst (Tells c.take_beside.result c.args.input c.args.taken c.args.made.now.entries c.take_beside.new.out.items c.args.out.now.items) (sym c.in-Project.is) c.take_beside.ensures.out

pub returns-in-Project-clause-ticks : goal.returns-in-Project-clause-ticks
returns-in-Project-clause-ticks c = subst (Counts c.take_beside.result c.args.input c.args.taken c.args.made.now.entries c.take_beside.new.ticks c.args.ticks.now) (sym c.in-Project.is) c.take_beside.ensures.ticks

pub returns-in-Lookup-clause-makes : goal.returns-in-Lookup-clause-makes
returns-in-Lookup-clause-makes c = subst (Makes c.take_beside-in-Lookup.result (Lookup c.take_beside-in-Lookup.new.self)) (sym c.in-Lookup.is) c.take_beside-in-Lookup.ensures.makes

pub returns-in-Lookup-clause-holds : goal.returns-in-Lookup-clause-holds
returns-in-Lookup-clause-holds c = subst (Holds c.take_beside-in-Lookup.result c.args.input c.args.taken (Lookup c.take_beside-in-Lookup.new.self)) (sym c.in-Lookup.is) c.take_beside-in-Lookup.ensures.holds

pub returns-in-Lookup-clause-out : goal.returns-in-Lookup-clause-out
returns-in-Lookup-clause-out c = subst (Tells c.take_beside-in-Lookup.result c.args.input c.args.taken c.args.made.now.entries c.take_beside-in-Lookup.new.out.items c.args.out.now.items) (sym c.in-Lookup.is) c.take_beside-in-Lookup.ensures.out

pub returns-in-Lookup-clause-ticks : goal.returns-in-Lookup-clause-ticks
returns-in-Lookup-clause-ticks c = subst (Counts c.take_beside-in-Lookup.result c.args.input c.args.taken c.args.made.now.entries c.take_beside-in-Lookup.new.ticks c.args.ticks.now) (sym c.in-Lookup.is) c.take_beside-in-Lookup.ensures.ticks
