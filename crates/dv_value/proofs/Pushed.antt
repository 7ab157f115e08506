-- One field of a document changed: a new value, and one more element in an array.
use Rattle.std.proofs.Common.{◌≡◌, ℕ, false, List, [], ◌∷◌, map, Some, None, refl, sym, ap, ◌∙◌, arith}
use Rattle.std.specs.Prelude.{slice_set, slice_index_or, if◌then◌else◌}
use Rattle.std.specs.List.{zip}
use Rattle.std.proofs.lemmas.List.{map-set}
use Rattle.dv_value.specs.declared.value.Value.{Value}
use Rattle.dv_value.specs.FieldChange.{with_found_pushed, with_value_pushed}
use Rattle.dv_value.specs.Names.{place_under, value_under, with_value_under, has_name}
use Rattle.dv_value.specs.Inner.Put.{with_value_behind}
use Rattle.dv_value.specs.Tree.{Tree, array, Field}
use Rattle.dv_value.specs.View.{tree}
use Rattle.dv_value.proofs.Changed.{put_missing, value_found, zip-put}

-- ---- a value that is returned is that of a new field

pub given_back : (name : List ℕ) (v w : Tree) (fs gs : List Field) → Some w ≡ (if has_name name fs then None else Some v) → gs ≡ with_value_under name v fs → (has_name name fs ≡ false) × (w ≡ v) × (gs ≡ fs)
given_back name v w fs gs back put = grind (arith, put_missing name v fs)

-- ---- one more element

pub put_same : (name : List ℕ) (v : Tree) (fs : List Field) → value_under name fs ≡ Some v → with_value_under name v fs ≡ fs
put_same name v [] found = refl
put_same name v (f ∷ fs) found = grind (arith, put_same name v fs)

put_element : (name : List ℕ) (v t : Tree) (fs : List Field) → value_under name fs ≡ Some t → with_value_under name (with_value_behind v t) fs ≡ with_found_pushed (Some t) name v fs
put_element name v (array vs) fs found = refl
put_element name v t fs found = put_same name t fs found

module _ (name : List ℕ) (names : List (List ℕ)) (values : List Value) (place : ℕ) (found : Some place ≡ place_under name (zip names (map tree values))) (value new : Value) (there : value ≡ slice_index_or values place value) where
  under : value_under name (zip names (map tree values)) ≡ Some (tree value)
  under = sym (value_found name names values place found value there)

  zip-new : zip names (map tree (slice_set values place new)) ≡ with_value_under name (tree new) (zip names (map tree values))
  zip-new = rw (map-set tree values place new) (zip-put name (tree new) place names (map tree values) (sym found))

  pub zip-pushed : (v : Tree) → tree new ≡ with_value_behind v (tree value) → zip names (map tree (slice_set values place new)) ≡ with_value_pushed name v (zip names (map tree values))
  zip-pushed v pushed = zip-new ∙ ap (λ t. with_value_under name t (zip names (map tree values))) pushed ∙ put_element name v (tree value) (zip names (map tree values)) under ∙ ap (λ o. with_found_pushed o name v (zip names (map tree values))) (sym under)

  pub zip-unpushed : tree new ≡ tree value → zip names (map tree (slice_set values place new)) ≡ zip names (map tree values)
  zip-unpushed same = zip-new ∙ ap (λ t. with_value_under name t (zip names (map tree values))) same ∙ put_same name (tree value) (zip names (map tree values)) under
