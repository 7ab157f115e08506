-- Rows that are inserted where there were none: definitions for bodies.
use Rattle.std.specs.Prelude.{◌≡◌, ◌++◌, ℕ, List, [], ◌∷◌, length, map, None, Some}
use Rattle.std.specs.List.{AllByRecursion}
use Rattle.dv_change.specs.declared.change.Change.{Change}
use Rattle.dv_change.specs.declared.change.Change.TheVariants.{Put}
use Rattle.dv_change.specs.declared.taking.Taken as taking
use Rattle.dv_change.specs.Changes.{Positioned, with_changes}
use Rattle.dv_change.specs.Inner.Changes.{IsExactChange, IsPositioned}
use Rattle.dv_change.specs.Inner.Told.{told_along}
use Rattle.dv_pipe.specs.declared.stage.Stage.{Stage}
use Rattle.dv_views.specs.Inner.Holding.{HasMade}
use Rattle.dv_views.specs.Inner.Operating.{empty_lists}
use Rattle.dv_views.specs.Placed.{ListPlaces}
use Rattle.dv_views.specs.Views.{Kept}

-- rows, each put at its position
abbrev pub puts_of : Positioned → List Change
puts_of rows = map (λ e. Put e.0 e.1) rows

-- the same, where no row was there before
abbrev pub firsts_of : Positioned → List taking.Taken
firsts_of rows = map (λ e. record { pos = e.0; old = None; new = Some e.1 }) rows

-- what is kept has taken in these rows of the source, of which none was taken in before
abbrev pub FillsLeft : List taking.Taken → Kept → Kept → Type 0
FillsLeft all before after =
    (stages : List Stage) (named : List Positioned) (puts : List Change) → HasMade stages before (record { left = []; named = named }) → AllByRecursion IsExactChange puts → all ≡ told_along [] puts
    → HasMade stages after (record { left = with_changes [] puts; named = named })

-- what is kept has taken in these rows of the list with this number, of which none was taken in before
abbrev pub FillsList : ℕ → List taking.Taken → Kept → Kept → Type 0
FillsList place firsts before after =
    (stages : List Stage) (front back : List Positioned) (list : Positioned) → place ≡ length front → IsPositioned list → firsts ≡ firsts_of list → HasMade stages before (record { left = []; named = front ++ [] ∷ back })
    → HasMade stages after (record { left = []; named = front ++ list ∷ back })

-- what is kept has taken in the rows under each of these names; nothing was taken in before
abbrev pub FillsLists : ListPlaces → List (List ℕ) → Kept → Kept → Type 0
FillsLists places names before after =
    (stages : List Stage) → HasMade stages before (record { left = []; named = empty_lists (length names) }) → HasMade stages after (record { left = []; named = map places names })
