-- The inputs of a stage: the rows that it takes, and the lists that it reads by `$lookup`.
use Rattle.std.specs.Prelude.{ℕ, ◌<◌, zero, suc, List, [], ◌∷◌, length, ⊤}
use Rattle.dv_change.specs.declared.change.Change.{Change}
use Rattle.dv_change.specs.declared.input.Input.{Input}
use Rattle.dv_change.specs.declared.input.Input.TheVariants.{Left, Named}
use Rattle.dv_change.specs.Changes.{Positioned, with_change}

-- the input exists: the rows always do, a list if there are enough of them
abbrev pub HasInput : Input → List Positioned → Type 0
HasInput Left others = ⊤
HasInput (Named i) others = i < length others

-- the rows after a change of an input
abbrev pub left_after : Input → Change → Positioned → Positioned
left_after Left change left = with_change left change
left_after (Named i) change left = left

-- the lists after a change of the one with this number
abbrev pub input_changed_at : ℕ → Change → List Positioned → List Positioned
input_changed_at i change [] = []
input_changed_at zero change (rows ∷ others) = with_change rows change ∷ others
input_changed_at (suc i) change (rows ∷ others) = rows ∷ input_changed_at i change others

-- the lists after a change of an input
abbrev pub others_after : Input → Change → List Positioned → List Positioned
others_after Left change others = others
others_after (Named i) change others = input_changed_at i change others
