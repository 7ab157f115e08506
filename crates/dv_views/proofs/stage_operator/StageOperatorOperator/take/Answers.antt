-- What the operator inside ensures is ensured of the enum.
use Rattle.std.proofs.Common.{◌≡◌, ◌+◌, ◌++◌, ℕ, List, length, subst, sym}
use Rattle.std.specs.Prelude.{OnOk, Result}
use Rattle.dv_change.specs.declared.change.Change.{Change}
use Rattle.dv_change.specs.declared.input.Input.{Input}
use Rattle.dv_change.specs.declared.taking.Taken.{Taken}
use Rattle.dv_change.specs.Changes.{Positioned}
use Rattle.dv_change.specs.Inner.Told.{ComesTo, told_along}
use Rattle.dv_change.specs.Raised.{raised}
use Rattle.dv_change.specs.Work.{owed_by}
use Rattle.dv_views.specs.declared.stage_operator.StageOperator.{StageOperator}
use Rattle.dv_views.specs.declared.stage_operator.StageOperator.TheVariants.{Match, Project, Unwind, Sort, Limit, Group, Lookup}
use Rattle.dv_views.specs.Inner.Operating.{HoldsStage, stage_makes}
use Rattle.dv_views.proofs.Staged.{Holds, Makes}
use Rattle.dv_views.proofs.stage_operator.StageOperatorOperator.take.Goals as goal

module _ {A E : Type 0} (r : Result A E) (input : Input) (taken : Taken) where
  abbrev Tells : List Taken → List Taken → StageOperator → Type 0
  Tells now first before =
      OnOk r ((others : List Positioned) (left : Positioned) (change : Change) → HoldsStage before others left → ComesTo input taken change others left → now ≡ first ++ told_along (stage_makes before others left) (owed_by input change (stage_makes before) others left))

  abbrev Counts : ℕ → ℕ → StageOperator → Type 0
  Counts now first before =
      OnOk r ((others : List Positioned) (left : Positioned) (change : Change) → HoldsStage before others left → ComesTo input taken change others left → now ≡ raised first (1 + length (owed_by input change (stage_makes before) others left)))

pub returns-in-Match-clause-makes : goal.returns-in-Match-clause-makes
returns-in-Match-clause-makes c = subst (Makes c.take.result (Match c.take.new.self)) (sym c.in-Match.is) c.take.ensures.makes

pub returns-in-Match-clause-holds : goal.returns-in-Match-clause-holds
returns-in-Match-clause-holds c = subst (Holds c.take.result c.args.input c.args.taken (Match c.take.new.self)) (sym c.in-Match.is) c.take.ensures.holds

pub returns-in-Match-clause-out : goal.returns-in-Match-clause-out
returns-in-Match-clause-out c = subst (Tells c.take.result c.args.input c.args.taken c.take.new.out.items c.args.out.now.items) (sym c.in-Match.is) c.take.ensures.out

pub returns-in-Match-clause-ticks : goal.returns-in-Match-clause-ticks
returns-in-Match-clause-ticks c = subst (Counts c.take.result c.args.input c.args.taken c.take.new.ticks c.args.ticks.now) (sym c.in-Match.is) c.take.ensures.ticks

pub returns-in-Project-clause-makes : goal.returns-in-Project-clause-makes
returns-in-Project-clause-makes c = subst (Makes c.take-in-Project.result (Project c.take-in-Project.new.self)) (sym c.in-Project.is) c.take-in-Project.ensures.makes

pub returns-in-Project-clause-holds : goal.returns-in-Project-clause-holds
returns-in-Project-clause-holds c = subst (Holds c.take-in-Project.result c.args.input c.args.taken (Project c.take-in-Project.new.self)) (sym c.in-Project.is) c.take-in-Project.ensures.holds

pub returns-in-Project-clause-out : goal.returns-in-Project-clause-out
returns-in-Project-clause-out c = subst (Tells c.take-in-Project.result c.args.input c.args.taken c.take-in-Project.new.out.items c.args.out.now.items) (sym c.in-Project.is) c.take-in-Project.ensures.out

pub returns-in-Project-clause-ticks : goal.returns-in-Project-clause-ticks
returns-in-Project-clause-ticks c = subst (Counts c.take-in-Project.result c.args.input c.args.taken c.take-in-Project.new.ticks c.args.ticks.now) (sym c.in-Project.is) c.take-in-Project.ensures.ticks

pub returns-in-Unwind-clause-makes : goal.returns-in-Unwind-clause-makes
returns-in-Unwind-clause-makes c = subst (Makes c.take-in-Unwind.result (Unwind c.take-in-Unwind.new.self)) (sym c.in-Unwind.is) c.take-in-Unwind.ensures.makes

pub returns-in-Unwind-clause-holds : goal.returns-in-Unwind-clause-holds
returns-in-Unwind-clause-holds c = subst (Holds c.take-in-Unwind.result c.args.input c.args.taken (Unwind c.take-in-Unwind.new.self)) (sym c.in-Unwind.is) c.take-in-Unwind.ensures.holds

pub returns-in-Unwind-clause-out : goal.returns-in-Unwind-clause-out
returns-in-Unwind-clause-out c = subst (Tells c.take-in-Unwind.result c.args.input c.args.taken c.take-in-Unwind.new.out.items c.args.out.now.items) (sym c.in-Unwind.is) c.take-in-Unwind.ensures.out

pub returns-in-Unwind-clause-ticks : goal.returns-in-Unwind-clause-ticks
returns-in-Unwind-clause-ticks c = subst (Counts c.take-in-Unwind.result c.args.input c.args.taken c.take-in-Unwind.new.ticks c.args.ticks.now) (sym c.in-Unwind.is) c.take-in-Unwind.ensures.ticks

pub returns-in-Sort-clause-makes : goal.returns-in-Sort-clause-makes
returns-in-Sort-clause-makes c = subst (Makes c.take-in-Sort.result (Sort c.take-in-Sort.new.self)) (sym c.in-Sort.is) c.take-in-Sort.ensures.makes

pub returns-in-Sort-clause-holds : goal.returns-in-Sort-clause-holds
returns-in-Sort-clause-holds c = subst (Holds c.take-in-Sort.result c.args.input c.args.taken (Sort c.take-in-Sort.new.self)) (sym c.in-Sort.is) c.take-in-Sort.ensures.holds

pub returns-in-Sort-clause-out : goal.returns-in-Sort-clause-out
returns-in-Sort-clause-out c = subst (Tells c.take-in-Sort.result c.args.input c.args.taken c.take-in-Sort.new.out.items c.args.out.now.items) (sym c.in-Sort.is) c.take-in-Sort.ensures.out

pub returns-in-Sort-clause-ticks : goal.returns-in-Sort-clause-ticks
returns-in-Sort-clause-ticks c = subst (Counts c.take-in-Sort.result c.args.input c.args.taken c.take-in-Sort.new.ticks c.args.ticks.now) (sym c.in-Sort.is) c.take-in-Sort.ensures.ticks

pub returns-in-Limit-clause-makes : goal.returns-in-Limit-clause-makes
returns-in-Limit-clause-makes c = subst (Makes c.take-in-Limit.result (Limit c.take-in-Limit.new.self)) (sym c.in-Limit.is) c.take-in-Limit.ensures.makes

pub returns-in-Limit-clause-holds : goal.returns-in-Limit-clause-holds
returns-in-Limit-clause-holds c = subst (Holds c.take-in-Limit.result c.args.input c.args.taken (Limit c.take-in-Limit.new.self)) (sym c.in-Limit.is) c.take-in-Limit.ensures.holds

pub returns-in-Limit-clause-out : goal.returns-in-Limit-clause-out
returns-in-Limit-clause-out c = subst (Tells c.take-in-Limit.result c.args.input c.args.taken c.take-in-Limit.new.out.items c.args.out.now.items) (sym c.in-Limit.is) c.take-in-Limit.ensures.out

pub returns-in-Limit-clause-ticks : goal.returns-in-Limit-clause-ticks
returns-in-Limit-clause-ticks c = subst (Counts c.take-in-Limit.result c.args.input c.args.taken c.take-in-Limit.new.ticks c.args.ticks.now) (sym c.in-Limit.is) c.take-in-Limit.ensures.ticks

pub returns-in-Group-clause-makes : goal.returns-in-Group-clause-makes
returns-in-Group-clause-makes c = subst (Makes c.take-in-Group.result (Group c.take-in-Group.new.self)) (sym c.in-Group.is) c.take-in-Group.ensures.makes

pub returns-in-Group-clause-holds : goal.returns-in-Group-clause-holds
returns-in-Group-clause-holds c = subst (Holds c.take-in-Group.result c.args.input c.args.taken (Group c.take-in-Group.new.self)) (sym c.in-Group.is) c.take-in-Group.ensures.holds

pub returns-in-Group-clause-out : goal.returns-in-Group-clause-out
returns-in-Group-clause-out c = subst (Tells c.take-in-Group.result c.args.input c.args.taken c.take-in-Group.new.out.items c.args.out.now.items) (sym c.in-Group.is) c.take-in-Group.ensures.out

pub returns-in-Group-clause-ticks : goal.returns-in-Group-clause-ticks
returns-in-Group-clause-ticks c = subst (Counts c.take-in-Group.result c.args.input c.args.taken c.take-in-Group.new.ticks c.args.ticks.now) (sym c.in-Group.is) c.take-in-Group.ensures.ticks

pub returns-in-Lookup-clause-makes : goal.returns-in-Lookup-clause-makes
returns-in-Lookup-clause-makes c = subst (Makes c.take-in-Lookup.result (Lookup c.take-in-Lookup.new.self)) (sym c.in-Lookup.is) c.take-in-Lookup.ensures.makes

pub returns-in-Lookup-clause-holds : goal.returns-in-Lookup-clause-holds
returns-in-Lookup-clause-holds c = subst (Holds c.take-in-Lookup.result c.args.input c.args.taken (Lookup c.take-in-Lookup.new.self)) (sym c.in-Lookup.is) c.take-in-Lookup.ensures.holds

pub returns-in-Lookup-clause-out : goal.returns-in-Lookup-clause-out
returns-in-Lookup-clause-out c = subst (Tells c.take-in-Lookup.result c.args.input c.args.taken c.take-in-Lookup.new.out.items c.args.out.now.items) (sym c.in-Lookup.is) c.take-in-Lookup.ensures.out

pub returns-in-Lookup-clause-ticks : goal.returns-in-Lookup-clause-ticks
returns-in-Lookup-clause-ticks c = subst (Counts c.take-in-Lookup.result c.args.input c.args.taken c.take-in-Lookup.new.ticks c.args.ticks.now) (sym c.in-Lookup.is) c.take-in-Lookup.ensures.ticks
