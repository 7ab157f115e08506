-- How documents are sorted (MongoDB manual, "cursor.sort()", "$sort (aggregation)"). That documents which the sort doesn't distinguish
-- keep their order is this server's own.
use Rattle.std.specs.Prelude.{ℕ, Bool, true, false, List, [], ◌∷◌, fold, take, Option, Some, None, if◌then◌else◌}
use Rattle.dv_value.specs.Tree.{Field}
use Rattle.dv_path.specs.SortKey.{sort_key, stands_first}
use Rattle.dv_path.specs.SortSpec.{Part}

-- whether d comes before e: the first path whose sort keys differ decides
abbrev pub stands_before : List Part → List Field → List Field → Bool
stands_before [] d e = false
stands_before (p ∷ parts) d e =
    if stands_first p.1 (sort_key d p.0 p.1) (sort_key e p.0 p.1) then true
    else if stands_first p.1 (sort_key e p.0 p.1) (sort_key d p.0 p.1) then false
    else stands_before parts d e

-- ordered rows with one more, inserted in front of the first that it comes before
abbrev pub placed : {X : Type 0} → (X → X → Bool) → X → List X → List X
placed before x [] = x ∷ []
placed before x (y ∷ ys) = if before x y then x ∷ y ∷ ys else y ∷ placed before x ys

-- rows inserted one by one into their order
abbrev pub ordered : {X : Type 0} → (X → X → Bool) → List X → List X
ordered before xs = fold (λ ys x. placed before x ys) [] xs

-- the documents in the order of a sort
unfoldable pub stable : List Part → List (List Field) → List (List Field)
stable parts rows = ordered (stands_before parts) rows

-- the first rows: at most as many as the number, or all if there is no number
abbrev pub front : {X : Type 0} → Option ℕ → List X → List X
front None xs = xs
front (Some most) xs = take most xs
