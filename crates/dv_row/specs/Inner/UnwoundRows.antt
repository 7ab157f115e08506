-- The rows of an $unwind, given what they are made of.
use Rattle.std.specs.Prelude.{◌≡◌, ℕ, Bool, true, false, List, [], ◌∷◌, map, Some, None, slice_get, slice_index_or}
use Rattle.dv_value.specs.View.{tree}
use Rattle.dv_row.specs.Inner.Crossings.{set_on_way}
use Rattle.dv_row.specs.declared.unwound_rows.Origin.{Origin}
use Rattle.dv_row.specs.declared.unwound_rows.Origin.TheVariants.{Nothing, Itself, Emptied, Elements}
use Rattle.dv_row.specs.Parsing.{unwinding}
use Rattle.dv_row.specs.Row.{Row}
use Rattle.dv_row.specs.Unwinding.{unwound}

-- the rows that an $unwind of a path returns for a row: without rows that have no element, and with these
abbrev pub dropping : List (List ℕ) → Row → List Row
dropping path row = unwound (unwinding path false) row

abbrev pub preserving : List (List ℕ) → Row → List Row
preserving path row = unwound (unwinding path true) row

abbrev pub rows_of_origin : Origin → List Row
rows_of_origin Nothing = []
rows_of_origin (Itself row) = row.now ∷ []
rows_of_origin (Emptied way) = set_on_way way None ∷ []
rows_of_origin (Elements way elements) = map (λ v. set_on_way way (Some (tree v))) elements.now

-- each marked row is the same as the one at its place among the others
abbrev pub AreCommon : List Row → List Row → List Bool → Type 0
AreCommon rows others marks = (i : ℕ) → slice_index_or marks i false ≡ true → slice_get rows i ≡ slice_get others i
