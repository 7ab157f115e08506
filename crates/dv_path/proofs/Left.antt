-- Elements that are looked at from the front.
use Rattle.std.proofs.Common.{◌≡◌, ap, List, ℕ, ◌+◌, ◌<◌, ◌≤◌, ◌||◌, length, drop, map, slice_index_or, false, drop_of_length-le}
use Rattle.std.proofs.lemmas.List.{length-map}
use Rattle.dv_value.specs.declared.value.Value.{Value}
use Rattle.dv_value.specs.Tree.{Tree, elements_of}
use Rattle.dv_value.specs.View.{tree}
use Rattle.dv_value.specs.Inner.Weight.{value_weighs_less}
use Rattle.dv_value.specs.Inner.ListLaws.{slice_get_seen, drop_item}
use Rattle.dv_path.specs.Names.{is_dotted, are_elements_dotted}

pub are_elements_dotted-drop : (values : List Value) (vs : List Tree) (place : ℕ) (value : Value) → map tree values ≡ vs → place < length values → value ≡ slice_index_or values place value
    → are_elements_dotted (elements_of (drop place vs)) ≡ (is_dotted (tree value) || are_elements_dotted (elements_of (drop (place + 1) vs)))
are_elements_dotted-drop values vs place value seen within is =
    ap (λ (rest : List Tree). are_elements_dotted (elements_of rest)) (drop_item vs place (tree value) (slice_get_seen tree values vs place value seen within is))

pub no_elements_left : (values : List Value) (vs : List Tree) (place : ℕ) → map tree values ≡ vs → length values ≤ place → are_elements_dotted (elements_of (drop place vs)) ≡ false
no_elements_left values vs place seen past = ap (λ (rest : List Tree). are_elements_dotted (elements_of rest)) (drop_of_length-le vs (rw (← seen, length-map) past))

-- for a loop over elements
pub ruleset elements_left = (are_elements_dotted-drop, no_elements_left, value_weighs_less)
