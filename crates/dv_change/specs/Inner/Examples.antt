-- Rows and stages of examples.
use Rattle.std.specs.Prelude.{ℕ, suc, pos, List, [], ◌∷◌, codes, take}
use Rattle.dv_value.specs.Tree.{Field, int32, int64}
use Rattle.dv_order.specs.Key.{KeyTree, value}
use Rattle.dv_change.specs.declared.position.Part.TheVariants.{At}
use Rattle.dv_change.specs.Changes.{Positioned}
use Rattle.dv_change.specs.Positions.{PosTree}
use Rattle.dv_change.specs.Work.{Transform}

-- the key of a number, an int32
abbrev pub number_key : ℕ → KeyTree
number_key n = value (int32 (pos n))

-- the position at a number
abbrev pub place : ℕ → PosTree
place n = At n ∷ []

-- a row with one field, an int32
abbrev pub numbered_row : ℕ → List Field
numbered_row n = (codes "a", int32 (pos n)) ∷ []

-- rows with these numbers, at positions that are counted from `first` on
abbrev pub numbered_rows : ℕ → List ℕ → Positioned
numbered_rows first [] = []
numbered_rows first (n ∷ ns) = (place first, numbered_row n) ∷ numbered_rows (suc first) ns

-- the same number as an int64
abbrev pub wide_number : ℕ → List Field
wide_number n = (codes "a", int64 (pos n)) ∷ []

-- a stage that returns its rows as they are
abbrev pub as_it_comes : Transform
as_it_comes = record { makes = λ named rows. rows; named = [] }

-- a stage that returns the first of its rows
abbrev pub first_alone : Transform
first_alone = record { makes = λ named rows. take 1 rows; named = [] }

abbrev pub first_named : List Positioned → Positioned
first_named [] = []
first_named (rows ∷ others) = rows

-- a stage that returns the rows of the list that it reads by `$lookup`
abbrev pub looked_up_form : Positioned → Transform
looked_up_form rows = record { makes = λ named left. first_named named; named = rows ∷ [] }

-- chains of them; each `$lookup` has an empty list
abbrev pub two_stages : List Transform
two_stages = as_it_comes ∷ first_alone ∷ []

abbrev pub three_stages : List Transform
three_stages = as_it_comes ∷ looked_up_form [] ∷ first_alone ∷ []

abbrev pub two_look_ups : List Transform
two_look_ups = looked_up_form [] ∷ looked_up_form [] ∷ []
