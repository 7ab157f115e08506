-- An array with one more value after its elements.
use Rattle.std.proofs.Common.{◌≡◌, ◌∙◌, ap, refl, ℕ, suc, ◌+◌, ◌<◌, ◌≤◌, Bool, true, false, ◌&&◌, List, [], ◌∷◌, ◌++◌, length, decimal, map, max, get_or, sym, arith}
use Rattle.std.proofs.lemmas.Fmt.{length-decimal-le}
use Rattle.dv_value.specs.Spelling.{payload, elements_spelling, levels, elements_levels}
use Rattle.dv_value.specs.Tree.{Tree, array, Elements, no_elements, element, elements_of, list_of_elements}
use Rattle.dv_value.specs.View.{tree}
use Rattle.dv_value.specs.declared.value.Value.{Value}
use Rattle.dv_order.specs.Same.{is_same}
use Rattle.dv_update.proofs.AlikeDown.{length-item}
use Rattle.dv_value.specs.Inner.Spelled.{length-array, length-no_elements}

-- one value in memory
pub one-value : (values : List Value) (vs : List Tree) (value : Value) → 1 ≤ length values → length values < 2 → value ≡ get_or values 0 value → map tree values ≡ vs → vs ≡ tree value ∷ []
one-value [] vs value some few is seen = absurd (omega arith)
one-value (v ∷ []) vs value some few is seen = sym seen ∙ ap (λ x. tree x ∷ []) (sym is)
one-value (v ∷ w ∷ ws) vs value some few is seen = absurd (omega arith)

module _ (v : Tree) where
  abbrev behind : Elements → Elements
  behind ws = elements_of (list_of_elements ws ++ v ∷ [])

  -- the digits of the place are six at most
  items-behind : (i place : ℕ) → length (decimal place) ≤ 6 → (ws : Elements) → i + length (list_of_elements ws) ≡ place
      → length (elements_spelling i (behind ws)) ≤ length (elements_spelling i ws) + (length (payload v) + 8)
  items-behind i place short no_elements at =
      let same : i ≡ place = omega (arith, at) in
      omega (arith, length-item i v no_elements, length-no_elements (suc i), ap (λ n. length (decimal n)) same, short)
  items-behind i place short (element w ws) at =
      omega (arith, length-item i w ws, length-item i w (behind ws), items-behind (suc i) place short ws (omega (arith, at)))

  pub length-behind : (ws : Elements) → length (list_of_elements ws) < 1000000 → length (payload (array (behind ws))) ≤ length (payload (array ws)) + (length (payload v) + 8)
  length-behind ws few =
      let place = length (list_of_elements ws) in
      let short : length (decimal place) ≤ 6 = length-decimal-le 6 place (omega arith) few (omega (arith, few)) in
      omega (arith, length-array ws, length-array (behind ws), items-behind 0 place short ws (omega arith))

  levels-in : (ws : Elements) → elements_levels (behind ws) ≤ max (levels v) (elements_levels ws)
  levels-in no_elements = omega arith
  levels-in (element w ws) = omega (arith, levels-in ws)

  pub levels-behind : (ws : Elements) → levels (array (behind ws)) ≤ max (suc (levels v)) (levels (array ws))
  levels-behind ws = omega (arith, levels-in ws)

  and-false : (b : Bool) → (b && false) ≡ false
  and-false true = refl
  and-false false = refl

  pub other-behind : (ws : Elements) → is_same (array ws) (array (behind ws)) ≡ false
  other-behind no_elements = refl
  other-behind (element w ws) = ap (λ b. is_same w w && b) (other-behind ws) ∙ and-false (is_same w w)
