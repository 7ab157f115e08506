-- The changes that the stages of a pipeline return for a change of an input, and their work, counted in ticks.
use Rattle.std.specs.Prelude.{ℕ, ◌+◌, ◌-◌, List, [], ◌∷◌, ◌++◌, length, if◌then◌else◌, nat_lt}
use Rattle.dv_change.specs.declared.change.Change.{Change}
use Rattle.dv_change.specs.declared.input.Input.{Input}
use Rattle.dv_change.specs.declared.input.Input.TheVariants.{Left, Named}
use Rattle.dv_change.specs.Changes.{Positioned, with_change}
use Rattle.dv_change.specs.Difference.{diff}
use Rattle.dv_change.specs.Inputs.{left_after, others_after}

-- a stage, as a function from the lists that it reads by `$lookup` and its rows to the rows that it returns; with these lists
pub record Transform : Type 0 where
  pub makes : List Positioned → Positioned → Positioned
  pub named : List Positioned

-- the rows that a stage returns
abbrev pub stage_rows : Transform → Positioned → Positioned
stage_rows form rows = form.makes form.named rows

-- the changes of a stage's result for a change of an input: from its result before the change to its result after it
abbrev pub owed_by : Input → Change → (List Positioned → Positioned → Positioned) → List Positioned → Positioned → List Change
owed_by input change makes named rows = diff (makes named rows) (makes (others_after input change named) (left_after input change rows))

-- the changes of the result of a stage with its lists, for a change of an input
abbrev pub owed : Input → Change → Transform → Positioned → List Change
owed input change form rows = owed_by input change form.makes form.named rows

-- the changes that a stage returns for changes of its rows, one after the other; `makes` gives its result
abbrev pub handed : (Positioned → Positioned) → Positioned → List Change → List Change
handed makes rows [] = []
handed makes rows (change ∷ changes) = diff (makes rows) (makes (with_change rows change)) ++ handed makes (with_change rows change) changes

-- the rows that the last stage returns
abbrev pub through_forms : List Transform → Positioned → Positioned
through_forms [] rows = rows
through_forms (form ∷ forms) rows = through_forms forms (stage_rows form rows)

-- the changes that the last stage returns for changes of the first stage's rows, one after the other
abbrev pub pass : List Transform → Positioned → List Change → List Change
pass [] rows changes = changes
pass (form ∷ forms) rows changes = pass forms (stage_rows form rows) (handed (stage_rows form) rows changes)

-- the work for such changes: each stage counts 1 for each change that it takes in, and 1 for each that it returns
abbrev pub work : List Transform → Positioned → List Change → ℕ
work [] rows changes = 0
work (form ∷ forms) rows changes = length changes + length (handed (stage_rows form) rows changes) + work forms (stage_rows form rows) (handed (stage_rows form) rows changes)

-- the changes that the last stage returns for a change of one of the lists, which are numbered through all stages
abbrev pub pass_named : ℕ → Change → List Transform → Positioned → List Change
pass_named i change [] rows = []
pass_named i change (form ∷ forms) rows =
    if nat_lt i (length form.named) then pass forms (stage_rows form rows) (owed (Named i) change form rows) else pass_named (i - length form.named) change forms (stage_rows form rows)

-- the work for a change of one of the lists, which are numbered through all stages
abbrev pub work_named : ℕ → Change → List Transform → Positioned → ℕ
work_named i change [] rows = 0
work_named i change (form ∷ forms) rows =
    if nat_lt i (length form.named) then 1 + length (owed (Named i) change form rows) + work forms (stage_rows form rows) (owed (Named i) change form rows) else work_named (i - length form.named) change forms (stage_rows form rows)

-- the changes that the last stage returns for a change of an input
abbrev pub pass_in : Input → Change → List Transform → Positioned → List Change
pass_in Left change forms rows = pass forms rows (change ∷ [])
pass_in (Named i) change forms rows = pass_named i change forms rows

-- the work for a change of an input
abbrev pub work_in : Input → Change → List Transform → Positioned → ℕ
work_in Left change forms rows = work forms rows (change ∷ [])
work_in (Named i) change forms rows = work_named i change forms rows
