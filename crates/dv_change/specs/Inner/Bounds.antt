-- How many changes of its result a stage returns for a change of its rows.
use Rattle.std.specs.Prelude.{ℕ, ◌≤◌, length}
use Rattle.dv_change.specs.declared.change.Change.{Change}
use Rattle.dv_change.specs.Changes.{Positioned, with_change}
use Rattle.dv_change.specs.Difference.{diff}
use Rattle.dv_change.specs.Inner.Changes.{IsExactChange, IsPositioned}

-- how many changes lead from the result for the rows to the result for them after the change
abbrev pub result_changes : (Positioned → Positioned) → Positioned → Change → ℕ
result_changes makes rows change = length (diff (makes rows) (makes (with_change rows change)))

-- they are within a bound, whatever the rows and the change
abbrev pub ChangesWithin : (Positioned → Change → ℕ) → (Positioned → Positioned) → Type 0
ChangesWithin bound makes = (rows : Positioned) (change : Change) → IsPositioned rows → IsExactChange change → result_changes makes rows change ≤ bound rows change

-- they are at most so many
abbrev pub ChangesAtMost : ℕ → (Positioned → Positioned) → Type 0
ChangesAtMost most makes = ChangesWithin (λ rows change. most) makes
