-- The least and the greatest of values (MongoDB manual, "$min (aggregation)", "$max (aggregation)"). That the first of several equal
-- ones is taken is this server's own.
use Rattle.std.specs.Prelude.{Bool, true, false, not, ◌&&◌, ◌||◌, List, [], ◌∷◌, if◌then◌else◌}
use Rattle.std.specs.Ordering.{is_lt, is_gt}
use Rattle.std.specs.declared.cmp.Ordering.{Ordering}
use Rattle.dv_value.specs.Tree.{Tree, null}
use Rattle.dv_order.specs.Order.{order}
use Rattle.dv_gather.specs.declared.extreme.Extreme.{Extreme}
use Rattle.dv_gather.specs.declared.extreme.Extreme.TheVariants.{Least, Greatest}

-- whether the value is null
abbrev pub is_null : Tree → Bool
is_null null = true
is_null v = false

-- whether a comparison favours the new value: less for the least, greater for the greatest
abbrev pub extreme_stands_so : Extreme → Ordering → Bool
extreme_stands_so Least o = is_lt o
extreme_stands_so Greatest o = is_gt o

-- whether a value replaces the best so far: null never does, nor does an equal value
abbrev pub is_better : Extreme → Tree → Tree → Bool
is_better e v best = not (is_null v) && (is_null best || extreme_stands_so e (order v best))

-- the better of a value and the best so far
abbrev pub better : Extreme → Tree → Tree → Tree
better e v best = if is_better e v best then v else best

-- the best of a first value and these
abbrev pub extreme_from : Extreme → Tree → List Tree → Tree
extreme_from e best [] = best
extreme_from e best (v ∷ vs) = extreme_from e (better e v best) vs

-- the least or the greatest value other than null; null if there is none
abbrev pub extreme_of : Extreme → List Tree → Tree
extreme_of e vs = extreme_from e null vs
