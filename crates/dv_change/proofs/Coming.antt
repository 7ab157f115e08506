-- The rows that are put, one by one.
use Rattle.std.specs.Prelude.{◌≡◌, Bool, true, false, not, cond, List, [], ◌∷◌, ◌++◌, map, filter, if◌then◌else◌, refl}
use Rattle.dv_value.specs.Tree.{Field}
use Rattle.dv_change.specs.Changes.{Positioned, at}
use Rattle.dv_change.specs.Inner.DiffLaws.{row_differs}
use Rattle.dv_change.specs.Inner.Told.{put_if_other, put_told, puts_told}
use Rattle.dv_change.specs.Difference.{stands_as}
use Rattle.dv_change.specs.Positions.{PosTree}

module _ (old : Positioned) where
  one-more : (b : Bool) (e : PosTree × List Field) (es : Positioned) → map (put_told old) (cond b (e ∷ es) es) ≡ (if b then put_told old e ∷ [] else []) ++ map (put_told old) es
  one-more true e es = refl
  one-more false e es = refl

  pub puts_more : (e : PosTree × List Field) (es : Positioned) → puts_told old (e ∷ es) ≡ put_if_other old e.0 e.1 ++ puts_told old es
  puts_more e es = one-more (not (stands_as (at e.0 old) e.1)) e (filter (row_differs old) es)
