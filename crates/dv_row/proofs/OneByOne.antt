-- The rows of an array's elements, one by one.
use Rattle.std.proofs.Common.{◌≡◌, ◌∙◌, ap, ap₂, sym, refl, List, [], ◌∷◌, ◌++◌, ℕ, ◌+◌, map, take, Some, slice_get, add-one, append_assoc}
use Rattle.dv_value.specs.View.{tree}
use Rattle.dv_value.specs.declared.value.Value.{Value}
use Rattle.dv_candidates.specs.Candidates.{Candidate}
use Rattle.dv_row.specs.Inner.Crossings.{set_on_way}
use Rattle.dv_row.specs.declared.way.Way.{Way}
use Rattle.dv_row.specs.Row.{Row}
use Rattle.dv_row.specs.Unwinding.{set_through}
use Rattle.dv_row.proofs.Items.{take-here}

-- setting each element where a path leads is the same as setting each at the end of the way
pub each-set : (path : List (List ℕ)) (row : Row) (way : Way) → ((v : Candidate) → set_through path v row ≡ set_on_way way v) → (es : List Value) → map (λ v. set_through path (Some (tree v)) row) es ≡ map (λ v. set_on_way way (Some (tree v))) es
each-set path row way same [] = refl
each-set path row way same (e ∷ es) = ap₂ (λ d ds. d ∷ ds) (same (Some (tree e))) (each-set path row way same es)

-- the next row after others
pub one-more : (before so-far after rows made : List Row) (i : ℕ) (row : Row) → made ≡ rows → slice_get rows i ≡ Some row → so-far ≡ before ++ take i made → after ≡ so-far ++ row ∷ [] → after ≡ before ++ take (i + 1) made
one-more before so-far after rows made i row same there is more =
    more ∙ ap (λ l. l ++ row ∷ []) is ∙ append_assoc before (take i made) (row ∷ []) ∙ ap (λ l. before ++ l) (sym (ap (λ n. take n made) (add-one i) ∙ take-here made i row (ap (λ l. slice_get l i) same ∙ there)))
