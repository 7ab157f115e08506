-- The rows of operators that receive the old row with each change.
use Rattle.std.specs.Prelude.{◌≡◌, ◌++◌, List, []}
use Rattle.std.specs.List.{AllByRecursion}
use Rattle.dv_change.specs.declared.change.Change.{Change}
use Rattle.dv_change.specs.declared.input.Input.{Input}
use Rattle.dv_change.specs.declared.taking.Taken.{Taken}
use Rattle.dv_change.specs.declared.told_rows.ToldRows.{ToldRows}
use Rattle.dv_change.specs.Changes.{Positioned, with_changes}
use Rattle.dv_change.specs.Inner.Changes.{IsExactChange, IsPositioned}
use Rattle.dv_change.specs.Inner.Fed.{AreFresh, AreHeld}
use Rattle.dv_change.specs.Inner.Told.{input_rows, told_along, with_old}
use Rattle.dv_change.specs.Inner.Work.{forms_after, lists_of}
use Rattle.dv_change.specs.Inputs.{HasInput, left_after}
use Rattle.dv_change.specs.Raised.{raised}
use Rattle.dv_change.specs.Work.{Transform, pass_in, through_forms, work_in}

-- the operators aren't spent, and the rows that come out of them are in order
pub record AreSound {O : Type 0} (is_sound : O → Type 0) (rows : ToldRows O) : Type 0 where
  pub operators : AllByRecursion is_sound rows.operators
  pub positioned : IsPositioned rows.rows.entries

-- for operators: their results for the lists that they read by `$lookup` and for rows, and which of these they have taken in
module _ {O : Type 0} (makes : O → List Positioned → Positioned → Positioned) (holds : O → List Positioned → Positioned → Type 0) where
  -- the operators are of these forms and have taken in these rows, which are in order; `outs` is their result
  pub record HaveMade (operators : List O) (outs : Positioned) (forms : List Transform) (left : Positioned) : Type 0 where
    pub held : AreHeld makes holds operators forms left
    pub positioned : IsPositioned left
    pub made : outs ≡ through_forms forms left

  -- the same for operators with the rows that come out of them
  abbrev pub HasMade : ToldRows O → List Transform → Positioned → Type 0
  HasMade rows forms left = HaveMade rows.operators rows.rows.entries forms left

  -- no rows come out of fresh operators
  abbrev pub StartsToldRows : List O → ToldRows O → Type 0
  StartsToldRows operators rows = (forms : List Transform) → AreFresh makes holds operators forms → HasMade rows forms []

  -- a change of an input went through the operators, and the changes of the rows that come out of them are returned and counted
  pub record HasTaken (input : Input) (change : Change) (forms : List Transform) (left : Positioned) (old new : ToldRows O) (before now : List Taken) : Type 0 where
    pub made : HasMade new (forms_after input change forms) (left_after input change left)
    pub told : now ≡ before ++ told_along old.rows.entries (pass_in input change forms left)
    pub ticks : new.ticks ≡ raised old.ticks (work_in input change forms left)
    pub leads : new.rows.entries ≡ with_changes old.rows.entries (pass_in input change forms left)

  -- whatever was taken in, a change that comes with what was at its position goes through the operators
  abbrev pub TakesTold : Input → Taken → ToldRows O → ToldRows O → List Taken → List Taken → Type 0
  TakesTold input taken old new before now = (forms : List Transform) (left : Positioned) (change : Change) → HasMade old forms left → HasInput input (lists_of forms) → taken ≡ with_old (input_rows input (lists_of forms) left) change → HasTaken input change forms left old new before now

  -- whatever lists were taken in, with no rows, the changes insert the first rows
  abbrev pub FillsTold : List Taken → ToldRows O → ToldRows O → Type 0
  FillsTold all old new = (forms : List Transform) (changes : List Change) → HasMade old forms [] → AllByRecursion IsExactChange changes → all ≡ told_along [] changes → HasMade new forms (with_changes [] changes)
