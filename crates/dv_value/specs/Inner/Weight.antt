-- A value in a document or a list weighs no more than its fields or elements, and so less than the document or the list: the
-- measure of a recursion over documents is `weight` of a value's tree, `fields_weight` or `elements_weight`.
use Rattle.std.specs.Prelude.{◌≡◌, ℕ, zero, suc, ◌≤◌, ◌<◌, List, [], ◌∷◌, length, map, Some, slice_get, slice_index_or}
use Rattle.std.proofs.Common.{ap, refl, arith}
use Rattle.std.proofs.lemmas.Option.{slice_get_read, slice_get-map}
use Rattle.dv_value.specs.declared.value.Value.{Value}
use Rattle.dv_value.specs.Tree.{Tree, Field, fields_of, elements_of}
use Rattle.dv_value.specs.Inner.Tree.{weight, fields_weight, elements_weight}
use Rattle.dv_value.specs.View.{tree}

-- a field's value, as `entry` returns it
pub field_weighs_less : (fs : List Field) (place : ℕ) (name : List ℕ) (value : Tree) → Some (name, value) ≡ slice_get fs place → weight value ≤ fields_weight (fields_of fs)
field_weighs_less [] place name value e = absurd cc
field_weighs_less (f ∷ fs) zero name value e =
    let same : f ≡ (name, value) = cc in
    omega (arith, ap (λ (g : Field). weight g.1) same)
field_weighs_less (f ∷ fs) (suc place) name value e = omega (arith, field_weighs_less fs place name value e)

element_weighs_less : (vs : List Tree) (place : ℕ) (value : Tree) → slice_get vs place ≡ Some value → weight value ≤ elements_weight (elements_of vs)
element_weighs_less [] place value e = absurd cc
element_weighs_less (v ∷ vs) zero value e =
    let same : v ≡ value = cc in
    omega (arith, ap weight same)
element_weighs_less (v ∷ vs) (suc place) value e = omega (arith, element_weighs_less vs place value e)

-- a value in a list, as a loop over `as_slice` reads it
pub value_weighs_less : (values : List Value) (vs : List Tree) (place : ℕ) (value : Value) → map tree values ≡ vs → place < length values → value ≡ slice_index_or values place value
    → weight (tree value) ≤ elements_weight (elements_of vs)
value_weighs_less values vs place value seen within is =
    let here : slice_get values place ≡ Some value = slice_get_read values (length values) place value refl within is in
    element_weighs_less vs place (tree value) (rw (← seen, slice_get-map tree values place, here) refl)
