-- A document without some of its fields.
use Rattle.std.specs.Prelude.{ℕ, List, [], ◌∷◌}
use Rattle.dv_value.specs.Names.{without}
use Rattle.dv_value.specs.Tree.{Field}

-- the fields without those that have one of these names
abbrev pub without_each : List (List ℕ) → List Field → List Field
without_each [] fs = fs
without_each (name ∷ names) fs = without_each names (without name fs)
