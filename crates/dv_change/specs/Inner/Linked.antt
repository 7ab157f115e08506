-- Operators one after the other, each of which has taken in the result of the one before it.
use Rattle.std.specs.Prelude.{◌≡◌, ℕ, List, [], ◌∷◌, ⊤, map}
use Rattle.std.specs.List.{AllByRecursion}
use Rattle.dv_change.specs.declared.change.Change.{Change}
use Rattle.dv_change.specs.declared.input.Input.{Input}
use Rattle.dv_change.specs.Changes.{Positioned, with_changes}
use Rattle.dv_change.specs.Inputs.{left_after}
use Rattle.dv_change.specs.Work.{Transform, handed, pass, pass_in, stage_rows, through_forms, work, work_in}
use Rattle.dv_change.specs.Inner.Turning.{Turning}
use Rattle.dv_change.specs.Inner.Work.{forms_after, stage_work}

-- for operators: how each of them is a stage
module _ {T : Type 0} (turning : Turning T) where
  -- an operator's result for the rows that it has taken in
  abbrev pub made : T → Positioned
  made t = stage_rows (turning.form t) (turning.left t)

  -- the changes that it returns for changes of these rows, and the work for them
  abbrev pub changes_of_one : List Change → T → List Change
  changes_of_one changes t = handed (stage_rows (turning.form t)) (turning.left t) changes

  abbrev pub work_of_one : List Change → T → ℕ
  work_of_one changes t = stage_work (stage_rows (turning.form t)) (turning.left t) changes

  -- their stages
  abbrev pub forms_of : List T → List Transform
  forms_of ts = map turning.form ts

  -- the rows that the first one has taken in
  abbrev pub first_left : List T → Positioned
  first_left [] = []
  first_left (t ∷ ts) = turning.left t

  -- none is spent, and each has taken in nothing
  abbrev pub HaveTakenNothing : List T → Type 0
  HaveTakenNothing ts = AllByRecursion (λ t. turning.sound t × (turning.left t ≡ [])) ts

  -- none is spent, and the first one has taken in these rows, each other one the result of the one before it
  abbrev pub IsLinked : List T → Positioned → Type 0
  IsLinked [] rows = ⊤
  IsLinked (t ∷ ts) rows = turning.sound t × (turning.left t ≡ rows) × IsLinked ts (made t)

  -- none is spent, and each except the first one has taken in the result of the one before it
  abbrev pub AreLinked : List T → Type 0
  AreLinked ts = IsLinked ts (first_left ts)

  -- the result of the last one; if there is none, the rows themselves
  abbrev pub last_outs : List T → Positioned → Positioned
  last_outs [] rows = rows
  last_outs (t ∷ ts) rows = last_outs ts (made t)

  -- the changes that the last one returns for changes of the first one's rows, and the work for them
  abbrev pub changes_returned : List Change → List T → List Change
  changes_returned changes ts = pass (forms_of ts) (first_left ts) changes

  abbrev pub work_done : List Change → List T → ℕ
  work_done changes ts = work (forms_of ts) (first_left ts) changes

  -- the same for a change of an input
  abbrev pub changes_returned_in : Input → Change → List T → List Change
  changes_returned_in input change ts = pass_in input change (forms_of ts) (first_left ts)

  abbrev pub work_done_in : Input → Change → List T → ℕ
  work_done_in input change ts = work_in input change (forms_of ts) (first_left ts)

  -- the rows that the first one has taken in after a change of an input
  abbrev pub first_left_after : Input → Change → List T → Positioned
  first_left_after input change ts = left_after input change (first_left ts)

  -- what their stages return for rows
  abbrev pub rows_returned : List T → Positioned → Positioned
  rows_returned ts rows = through_forms (forms_of ts) rows

  -- their stages are the same as before
  abbrev pub StagesStay : List T → List T → Type 0
  StagesStay old new = forms_of new ≡ forms_of old

  -- after changes of the first one's rows they are linked again
  abbrev pub StayLinkedAlong : List Change → List T → List T → Type 0
  StayLinkedAlong changes old new = IsLinked new (with_changes (first_left old) changes)

  -- they are also linked after a change of an input
  abbrev pub StayLinked : Input → Change → List T → List T → Type 0
  StayLinked input change old new = IsLinked new (first_left_after input change old)

  -- their stages are the same as before it, except the list that it changes
  abbrev pub StagesFollow : Input → Change → List T → List T → Type 0
  StagesFollow input change old new = forms_of new ≡ forms_after input change (forms_of old)

  -- after it, the last one's result is what their stages return
  abbrev pub MakeAsStages : Input → Change → List T → List T → Type 0
  MakeAsStages input change old new = last_outs new (first_left_after input change old) ≡ rows_returned new (first_left_after input change old)

  -- the changes returned for it lead from what their stages returned before to what these return after it
  abbrev pub LeadOn : Input → Change → List T → List T → Type 0
  LeadOn input change old new = with_changes (rows_returned old (first_left old)) (changes_returned_in input change old) ≡ rows_returned new (first_left_after input change old)
