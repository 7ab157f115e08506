-- Sums of numbers (MongoDB manual, "$sum (aggregation)"). They have no bound; the encoding of a sum beyond 64 bits is this server's
-- own.
use Rattle.std.specs.Prelude.{ℤ, pos, ◌+ℤ◌, Bool, true, false, not, ◌&&◌, List, [], ◌∷◌, codes, if◌then◌else◌}
use Rattle.std.specs.Fmt.{signed_decimal}
use Rattle.std.specs.List.{list_any}
use Rattle.dv_value.specs.Tree.{Tree, int32, int64, string, document, field, no_fields}
use Rattle.dv_value.specs.Widths.{fits_32, fits_64}

-- what a value adds to a sum: a number itself, any other value 0
abbrev pub addend : Tree → ℤ
addend (int32 n) = n
addend (int64 n) = n
addend v = pos 0

-- the sum of the numbers among the values
abbrev pub total : List Tree → ℤ
total [] = pos 0
total (v ∷ vs) = addend v +ℤ total vs

-- whether the value is an int64
abbrev pub is_int64 : Tree → Bool
is_int64 (int64 n) = true
is_int64 v = false

-- a sum beyond 64 bits: a document with its decimal digits under `$sum128`
abbrev pub digits : ℤ → Tree
digits n = document (field (codes "$sum128") (string (signed_decimal n)) no_fields)

-- a sum as a value: an int32 if it fits and `narrow` is true, otherwise an int64 if it fits, otherwise its decimal digits
unfoldable pub spelled : Bool → ℤ → Tree
spelled narrow n =
    if narrow && fits_32 n then int32 n
    else if fits_64 n then int64 n
    else digits n

-- the sum of the numbers among the values: an int32 if it fits and none of them is an int64
abbrev pub sum_of : List Tree → Tree
sum_of vs = spelled (not (list_any is_int64 vs)) (total vs)
