-- A value in a document or a list weighs less than the document or the list.
use Rattle.std.specs.Prelude.{◌≡◌, ℕ, List, Some, map, slice_get, slice_index_or, length}
use Rattle.std.proofs.Common.{◌≤◌, ◌<◌}
use Rattle.dv_value.specs.Tree.{Tree, Field, fields_of, elements_of}
use Rattle.dv_value.specs.Inner.Tree.{weight, fields_weight, elements_weight}
use Rattle.dv_value.specs.View.{tree}
use Rattle.dv_value.specs.Inner.Weight as weights
use Rattle.dv_value.specs.declared.value.Value.{Value}

pub field_falls : (fs : List Field) (place : ℕ) (name : List ℕ) (value : Tree) → Some (name, value) ≡ slice_get fs place → weight value ≤ fields_weight (fields_of fs)
field_falls = weights.field_weighs_less

pub value_falls : (values : List Value) (vs : List Tree) (place : ℕ) (value : Value) → map tree values ≡ vs → place < length values → value ≡ slice_index_or values place value
    → weight (tree value) ≤ elements_weight (elements_of vs)
value_falls = weights.value_weighs_less
