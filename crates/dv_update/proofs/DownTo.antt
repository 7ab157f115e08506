-- Documents that are the same down to a level.
use Rattle.std.proofs.Common.{◌≡◌, ◌∙◌, ap, ap₂, sym, refl, List, [], ◌∷◌, ℕ, zero, suc, ◌+◌, ◌||◌, map, Bool, true, false, length, Option, Some, None, slice_get, nat_lt, nat_le, Result, Err, arith, if◌then◌else◌}
use Rattle.std.specs.Option.{option_map}
use Rattle.std.specs.Str.{bytes_eq}
use Rattle.dv_value.specs.Names.{value_under}
use Rattle.dv_value.specs.Tree.{Tree, document, array, null, Field, Fields, fields_of, list_of_fields, Elements, elements_of, list_of_elements}
use Rattle.dv_value.specs.Inner.TreeLaws.{elements_again, fields_again}
use Rattle.dv_candidates.specs.Path.{index_of}
use Rattle.dv_path.specs.Placing.{result_map, with_field, with_element, put_field, put_element, put_behind}
use Rattle.dv_path.specs.Inner.ResultLaws.{map-both}
use Rattle.dv_candidates.specs.declared.fault.PathFault.{PathFault}
use Rattle.dv_candidates.specs.declared.fault.PathFault.TheVariants.{IndexTooLarge}
use Rattle.dv_update.specs.Inner.StandIn.{down_to, fields_down_to}

abbrev pub Path : Type 0
Path = List (List ℕ)

-- one level further down for each component of a path
abbrev pub below : Path → ℕ → ℕ
below [] m = m
below (name ∷ names) m = suc (below names m)

pub below-sum : (names : Path) (m : ℕ) → below names m ≡ length names + m
below-sum [] m = omega arith
below-sum (name ∷ names) m = omega (arith, below-sum names m)

-- ---- fields and elements, all changed in the same way

module _ (n : ℕ) where
  pub value-marked : (name : List ℕ) (fs : List Field) → value_under name (fields_down_to n fs) ≡ option_map (down_to n) (value_under name fs)
  unfolding fields_down_to
  value-marked name [] = refl
  value-marked name (f ∷ fs) = by (bytes_eq name f.0) (value-marked name fs)
    where
      by : (b : Bool) → value_under name (fields_down_to n fs) ≡ option_map (down_to n) (value_under name fs) → (if b then Some (down_to n f.1) else value_under name (fields_down_to n fs)) ≡ option_map (down_to n) (if b then Some f.1 else value_under name fs)
      by true rest = refl
      by false rest = rest

  pub field-marked : (name : List ℕ) (v : Tree) (fs : List Field) → fields_down_to n (with_field name (Some v) fs) ≡ with_field name (Some (down_to n v)) (fields_down_to n fs)
  unfolding fields_down_to
  field-marked name v [] = refl
  field-marked name v (f ∷ fs) = by (bytes_eq name f.0) (field-marked name v fs)
    where
      by : (b : Bool) → fields_down_to n (with_field name (Some v) fs) ≡ with_field name (Some (down_to n v)) (fields_down_to n fs)
          → fields_down_to n (if b then (f.0, v) ∷ fs else f ∷ with_field name (Some v) fs) ≡ (if b then (f.0, down_to n v) ∷ fields_down_to n fs else (f.0, down_to n f.1) ∷ with_field name (Some (down_to n v)) (fields_down_to n fs))
      by true rest = refl
      by false rest = ap (λ gs. let g : Field = (f.0, down_to n f.1) in g ∷ gs) rest

  pub element-there : (vs : List Tree) (i : ℕ) → slice_get (map (down_to n) vs) i ≡ option_map (down_to n) (slice_get vs i)
  element-there [] i = refl
  element-there (v ∷ vs) zero = refl
  element-there (v ∷ vs) (suc i) = element-there vs i

  length-kept : (vs : List Tree) → length (map (down_to n) vs) ≡ length vs
  length-kept [] = refl
  length-kept (v ∷ vs) = ap suc (length-kept vs)

null-marked : (n : ℕ) → down_to n null ≡ null
unfolding down_to
null-marked zero = refl
null-marked (suc n) = refl

element-marked : (n : ℕ) (place : ℕ) (v : Tree) (vs : List Tree) → map (down_to n) (with_element place v vs) ≡ with_element place (down_to n v) (map (down_to n) vs)
element-marked n zero v [] = refl
element-marked n zero v (w ∷ ws) = refl
element-marked n (suc place) v [] = ap₂ (λ w ws. w ∷ ws) (null-marked n) (element-marked n place v [])
element-marked n (suc place) v (w ∷ ws) = ap (λ us. down_to n w ∷ us) (element-marked n place v ws)

-- ---- what is put

module _ (n : ℕ) (inner outer : Option Tree → Result Tree PathFault) where
  pub put-field-marked : (name : List ℕ) (fs : List Field) → result_map (down_to n) (inner (value_under name fs)) ≡ outer (option_map (down_to n) (value_under name fs)) → result_map (fields_down_to n) (put_field inner name fs) ≡ put_field outer name (fields_down_to n fs)
  put-field-marked name fs further =
      map-both (fields_down_to n) (λ v. with_field name (Some v) fs) (λ v. with_field name (Some v) (fields_down_to n fs)) (down_to n) (λ v. field-marked n name v fs) (inner (value_under name fs))
      ∙ ap (result_map (λ v. with_field name (Some v) (fields_down_to n fs))) (further ∙ ap outer (sym (value-marked n name fs)))

  put-element-marked : (place : Option ℕ) (vs : List Tree) → ((c : Option Tree) → result_map (down_to n) (inner c) ≡ outer (option_map (down_to n) c)) → result_map (map (down_to n)) (put_element inner place vs) ≡ put_element outer place (map (down_to n) vs)
  put-element-marked None vs further = refl
  put-element-marked (Some place) vs further =
      by (nat_lt place (length vs) || nat_le place 100000)
      ∙ ap (λ len. if nat_lt place len || nat_le place 100000 then result_map (λ v. with_element place v (map (down_to n) vs)) (outer (slice_get (map (down_to n) vs) place)) else Err IndexTooLarge) (sym (length-kept n vs))
    where
      by : (b : Bool) → result_map (map (down_to n)) (if b then result_map (λ v. with_element place v vs) (inner (slice_get vs place)) else Err IndexTooLarge) ≡ (if b then result_map (λ v. with_element place v (map (down_to n) vs)) (outer (slice_get (map (down_to n) vs) place)) else Err IndexTooLarge)
      by true =
          map-both (map (down_to n)) (λ v. with_element place v vs) (λ v. with_element place v (map (down_to n) vs)) (down_to n) (λ v. element-marked n place v vs) (inner (slice_get vs place))
          ∙ ap (result_map (λ v. with_element place v (map (down_to n) vs))) (further (slice_get vs place) ∙ ap outer (sym (element-there n vs place)))
      by false = refl

pub document-marked : (n : ℕ) (fs : List Field) → down_to (suc n) (document (fields_of fs)) ≡ document (fields_of (fields_down_to n fs))
unfolding down_to fields_down_to
document-marked n fs = ap (λ gs. document (fields_of (fields_down_to n gs))) (fields_again fs)

pub array-marked : (n : ℕ) (vs : List Tree) → down_to (suc n) (array (elements_of vs)) ≡ array (elements_of (map (down_to n) vs))
unfolding down_to
array-marked n vs = ap (λ ws. array (elements_of (map (down_to n) ws))) (elements_again vs)

pub fields-opened : (n : ℕ) (fs : Fields) → down_to (suc n) (document fs) ≡ document (fields_of (fields_down_to n (list_of_fields fs)))
unfolding down_to fields_down_to
fields-opened n fs = refl

pub elements-opened : (n : ℕ) (vs : Elements) → down_to (suc n) (array vs) ≡ array (elements_of (map (down_to n) (list_of_elements vs)))
unfolding down_to
elements-opened n vs = refl

in-document : (n : ℕ) (r s : Result (List Field) PathFault) → result_map (fields_down_to n) r ≡ s → result_map (down_to (suc n)) (result_map (λ fs. document (fields_of fs)) r) ≡ result_map (λ fs. document (fields_of fs)) s
in-document n r s same =
    map-both (down_to (suc n)) (λ fs. document (fields_of fs)) (λ fs. document (fields_of fs)) (fields_down_to n) (document-marked n) r ∙ ap (result_map (λ fs. document (fields_of fs))) same

in-array : (n : ℕ) (r s : Result (List Tree) PathFault) → result_map (map (down_to n)) r ≡ s → result_map (down_to (suc n)) (result_map (λ vs. array (elements_of vs)) r) ≡ result_map (λ vs. array (elements_of vs)) s
in-array n r s same =
    map-both (down_to (suc n)) (λ vs. array (elements_of vs)) (λ vs. array (elements_of vs)) (map (down_to n)) (array-marked n) r ∙ ap (result_map (λ vs. array (elements_of vs))) same

fields-none : (n : ℕ) → fields_down_to n [] ≡ []
unfolding fields_down_to
fields-none n = refl

module _ (m : ℕ) (v : Tree) where
  pub behind-marked : (names : Path) (c : Option Tree) → result_map (down_to (below names m)) (put_behind names v c) ≡ put_behind names (down_to m v) (option_map (down_to (below names m)) c)
  unfolding down_to
  behind-marked [] c = refl
  behind-marked (name ∷ names) None =
      in-document (below names m) (put_field (put_behind names v) name []) (put_field (put_behind names (down_to m v)) name [])
      (put-field-marked (below names m) (put_behind names v) (put_behind names (down_to m v)) name [] (behind-marked names None) ∙ ap (put_field (put_behind names (down_to m v)) name) (fields-none (below names m)))
  behind-marked (name ∷ names) (Some (document fs)) =
      in-document (below names m) (put_field (put_behind names v) name (list_of_fields fs)) (put_field (put_behind names (down_to m v)) name (fields_down_to (below names m) (list_of_fields fs)))
      (put-field-marked (below names m) (put_behind names v) (put_behind names (down_to m v)) name (list_of_fields fs) (behind-marked names (value_under name (list_of_fields fs))))
      ∙ ap (λ gs. result_map (λ fs. document (fields_of fs)) (put_field (put_behind names (down_to m v)) name gs)) (sym (fields_again (fields_down_to (below names m) (list_of_fields fs))))
      ∙ ap (λ t. put_behind (name ∷ names) (down_to m v) (Some t)) (sym (fields-opened (below names m) fs))
  behind-marked (name ∷ names) (Some (array vs)) =
      in-array (below names m) (put_element (put_behind names v) (index_of name) (list_of_elements vs)) (put_element (put_behind names (down_to m v)) (index_of name) (map (down_to (below names m)) (list_of_elements vs)))
      (put-element-marked (below names m) (put_behind names v) (put_behind names (down_to m v)) (index_of name) (list_of_elements vs) (behind-marked names))
      ∙ ap (λ ws. result_map (λ vs. array (elements_of vs)) (put_element (put_behind names (down_to m v)) (index_of name) ws)) (sym (elements_again (map (down_to (below names m)) (list_of_elements vs))))
      ∙ ap (λ t. put_behind (name ∷ names) (down_to m v) (Some t)) (sym (elements-opened (below names m) vs))
  behind-marked (name ∷ names) (Some t) = refl
