-- Fields and elements changed by taking a value out and putting another back.
use Rattle.std.proofs.Common.{◌≡◌, ◌∙◌, ℕ, zero, suc, ◌<◌, Bool, true, false, List, [], ◌∷◌, ◌++◌, length, Some, None, slice_get, Result, Ok, Err, refl, ap, sym, arith, option_and_then, if◌then◌else◌}
use Rattle.std.specs.Str.{bytes_eq}
use Rattle.dv_value.specs.Tree.{Tree, Field, null, document, fields_of}
use Rattle.dv_value.specs.Names.{value_under, has_name, with_value_under, without}
use Rattle.dv_candidates.specs.declared.fault.PathFault.{PathFault}
use Rattle.dv_candidates.specs.Candidates.{Candidate}
use Rattle.dv_path.specs.Placing.{field_with, with_field, with_element, result_map, put_field, put_behind}
use Rattle.dv_path.specs.Removing.{changed_at, remove_field}
use Rattle.dv_path.specs.Inner.Fielded.{field-missing}

-- where no field has a name, nothing is exchanged under it
same-case : (here : Bool) (name : List ℕ) (v : Tree) (f : Field) (fs : List Field) → (if here then Some f.1 else value_under name fs) ≡ None → (value_under name fs ≡ None → with_value_under name v fs ≡ fs) → (if here then (f.0, v) ∷ fs else f ∷ with_value_under name v fs) ≡ f ∷ fs
same-case true name v f fs none later = absurd cc
same-case false name v f fs none later = ap (λ gs. f ∷ gs) (later none)

pub same-fields : (name : List ℕ) (v : Tree) (fs : List Field) → value_under name fs ≡ None → with_value_under name v fs ≡ fs
same-fields name v [] none = refl
same-fields name v (f ∷ fs) none = same-case (bytes_eq name f.0) name v f fs none (same-fields name v fs)

nameless-case : (here : Bool) (name : List ℕ) (f : Field) (fs : List Field) → bytes_eq name f.0 ≡ here → (if here then Some f.1 else value_under name fs) ≡ None → (value_under name fs ≡ None → has_name name fs ≡ false) → has_name name (f ∷ fs) ≡ false
nameless-case true name f fs is none later = absurd cc
nameless-case false name f fs is none later = rw is (later none)

pub nameless : (name : List ℕ) (fs : List Field) → value_under name fs ≡ None → has_name name fs ≡ false
nameless name [] none = refl
nameless name (f ∷ fs) none = nameless-case (bytes_eq name f.0) name f fs refl none (nameless name fs)

new-case : (here : Bool) (name : List ℕ) (v : Tree) (f : Field) (fs : List Field) → (if here then Some f.1 else value_under name fs) ≡ None → (value_under name fs ≡ None → with_field name (Some v) fs ≡ fs ++ (name, v) ∷ []) → (if here then field_with f.0 (Some v) ++ fs else f ∷ with_field name (Some v) fs) ≡ f ∷ (fs ++ (name, v) ∷ [])
new-case true name v f fs none later = absurd cc
new-case false name v f fs none later = ap (λ gs. f ∷ gs) (later none)

pub new-field : (name : List ℕ) (v : Tree) (fs : List Field) → value_under name fs ≡ None → with_field name (Some v) fs ≡ fs ++ (name, v) ∷ []
new-field name v [] none = refl
new-field name v (f ∷ fs) none = new-case (bytes_eq name f.0) name v f fs none (new-field name v fs)

-- a field put in one look, or given back and put at the end
pub put-in-place : (name : List ℕ) (v : Tree) (fs : List Field) → has_name name fs ≡ true → with_value_under name v fs ≡ with_field name (Some v) fs
put-in-place name v [] there = absurd cc
put-in-place name v (f ∷ fs) there = grind (arith, put-in-place name v fs)

pub put-at-end : (name : List ℕ) (v : Tree) (fs : List Field) → has_name name fs ≡ false → (with_value_under name v fs ≡ fs) × (fs ++ (name, v) ∷ [] ≡ with_field name (Some v) fs)
put-at-end name v [] none = (refl, refl)
put-at-end name v (f ∷ fs) none = grind (arith, put-at-end name v fs)

pub none-back : (there : Bool) (v : Tree) → None ≡ (if there then None else Some v) → there ≡ true
none-back true v e = refl
none-back false v e = absurd cc

pub given-back : (there : Bool) (w v : Tree) → Some w ≡ (if there then None else Some v) → (there ≡ false) × (w ≡ v)
given-back true w v e = absurd cc
given-back false w v e = (refl, cc)

-- one value put under a name after another
twice-case : (here : Bool) (name : List ℕ) (u v w : Tree) (f : Field) (fs : List Field) → bytes_eq name f.0 ≡ here → (if here then Some f.1 else value_under name fs) ≡ Some w → (value_under name fs ≡ Some w → with_value_under name v (with_value_under name u fs) ≡ with_field name (Some v) fs) → with_value_under name v (if here then (f.0, u) ∷ fs else f ∷ with_value_under name u fs) ≡ (if here then field_with f.0 (Some v) ++ fs else f ∷ with_field name (Some v) fs)
twice-case true name u v w f fs is there later = rw is refl
twice-case false name u v w f fs is there later = rw is (ap (λ gs. f ∷ gs) (later there))

pub exchanged-twice : (name : List ℕ) (u v w : Tree) (fs : List Field) → value_under name fs ≡ Some w → with_value_under name v (with_value_under name u fs) ≡ with_field name (Some v) fs
exchanged-twice name u v w [] there = absurd cc
exchanged-twice name u v w (f ∷ fs) there = twice-case (bytes_eq name f.0) name u v w f fs refl there (exchanged-twice name u v w fs)

gone-case : (here : Bool) (name : List ℕ) (u w : Tree) (f : Field) (fs : List Field) → bytes_eq name f.0 ≡ here → (if here then Some f.1 else value_under name fs) ≡ Some w → (value_under name fs ≡ Some w → without name (with_value_under name u fs) ≡ with_field name None fs) → without name (if here then (f.0, u) ∷ fs else f ∷ with_value_under name u fs) ≡ (if here then field_with f.0 None ++ fs else f ∷ with_field name None fs)
gone-case true name u w f fs is there later = rw is refl
gone-case false name u w f fs is there later = rw is (ap (λ gs. f ∷ gs) (later there))

pub exchanged-gone : (name : List ℕ) (u w : Tree) (fs : List Field) → value_under name fs ≡ Some w → without name (with_value_under name u fs) ≡ with_field name None fs
exchanged-gone name u w [] there = absurd cc
exchanged-gone name u w (f ∷ fs) there = gone-case (bytes_eq name f.0) name u w f fs refl there (exchanged-gone name u w fs)

-- a document in a document
pub nested-one : (names : List (List ℕ)) (name : List ℕ) (v : Tree) → put_behind (names ++ name ∷ []) v None ≡ put_behind names (document (fields_of ((name, v) ∷ []))) None
nested-one [] name v = refl
nested-one (n ∷ names) name v = ap (λ r. result_map (λ fs. document (fields_of fs)) (result_map (λ u. (n, u) ∷ []) r)) (nested-one names name v)

-- nulls before a place beyond the end
pub null-before : (place : ℕ) (v : Tree) (vs : List Tree) → length vs < place → with_element place v (vs ++ null ∷ []) ≡ with_element place v vs
null-before zero v vs h = absurd (omega arith)
null-before (suc zero) v [] h = refl
null-before (suc (suc place)) v [] h = refl
null-before (suc place) v (w ∷ ws) h = ap (λ us. w ∷ us) (null-before place v ws (omega arith))

pub element-last : (place : ℕ) (v : Tree) (vs : List Tree) → length vs ≡ place → with_element place v vs ≡ vs ++ v ∷ []
element-last zero v [] h = refl
element-last (suc place) v [] h = absurd (omega arith)
element-last zero v (w ∷ ws) h = absurd (omega arith)
element-last (suc place) v (w ∷ ws) h = ap (λ us. w ∷ us) (element-last place v ws (omega arith))

pub element-twice : (place : ℕ) (u v : Tree) (vs : List Tree) → with_element place v (with_element place u vs) ≡ with_element place v vs
element-twice zero u v [] = refl
element-twice zero u v (w ∷ ws) = refl
element-twice (suc place) u v [] = ap (λ us. null ∷ us) (element-twice place u v [])
element-twice (suc place) u v (w ∷ ws) = ap (λ us. w ∷ us) (element-twice place u v ws)

pub changed-there : (place : ℕ) (change : Tree → Tree) (w : Tree) (vs : List Tree) → slice_get vs place ≡ Some w → changed_at place change vs ≡ with_element place (change w) vs
changed-there place change w [] is = absurd cc
changed-there zero change w (v ∷ vs) is = let same : v ≡ w = cc in ap (λ u. change u ∷ vs) same
changed-there (suc place) change w (v ∷ vs) is = ap (λ us. v ∷ us) (changed-there place change w vs is)

-- a field exchanged for what is put, or for what is left
module _ (name : List ℕ) (x : Tree) (fs : List Field) where
  pub put-there : (inner : Candidate → Result Tree PathFault) (w u : Tree) → Some w ≡ value_under name fs → inner (Some w) ≡ Ok u → put_field inner name fs ≡ Ok (with_value_under name u (with_value_under name x fs))
  put-there inner w u there put = ap (λ c. result_map (λ v. with_field name (Some v) fs) (inner c)) (sym there) ∙ ap (result_map (λ v. with_field name (Some v) fs)) put ∙ ap Ok (sym (exchanged-twice name x u w fs (sym there)))

  pub put-refused : (inner : Candidate → Result Tree PathFault) (w : Tree) (e : PathFault) → Some w ≡ value_under name fs → inner (Some w) ≡ Err e → put_field inner name fs ≡ Err e
  put-refused inner w e there put = ap (λ c. result_map (λ v. with_field name (Some v) fs) (inner c)) (sym there) ∙ ap (result_map (λ v. with_field name (Some v) fs)) put

  pub put-new : (inner : Candidate → Result Tree PathFault) (u : Tree) → None ≡ value_under name fs → inner None ≡ Ok u → put_field inner name fs ≡ Ok (with_value_under name x fs ++ (name, u) ∷ [])
  put-new inner u none put = ap (λ c. result_map (λ v. with_field name (Some v) fs) (inner c)) (sym none) ∙ ap (result_map (λ v. with_field name (Some v) fs)) put ∙ ap Ok (new-field name u fs (sym none) ∙ ap (λ gs. gs ++ (name, u) ∷ []) (sym (same-fields name x fs (sym none))))

  pub left-missing : (left : Tree → Candidate) → None ≡ value_under name fs → with_value_under name x fs ≡ remove_field left name fs
  left-missing left none = same-fields name x fs (sym none) ∙ sym (ap (λ c. with_field name (option_and_then left c) fs) (sym none) ∙ field-missing name fs (sym none))

  pub left-some : (left : Tree → Candidate) (w u : Tree) → Some w ≡ value_under name fs → Some u ≡ left w → with_value_under name u (with_value_under name x fs) ≡ remove_field left name fs
  left-some left w u there some = exchanged-twice name x u w fs (sym there) ∙ ap (λ c. with_field name c fs) some ∙ ap (λ c. with_field name (option_and_then left c) fs) there

  pub left-none : (left : Tree → Candidate) (w : Tree) → Some w ≡ value_under name fs → None ≡ left w → without name (with_value_under name x fs) ≡ remove_field left name fs
  left-none left w there none = exchanged-gone name x w fs (sym there) ∙ ap (λ c. with_field name c fs) none ∙ ap (λ c. with_field name (option_and_then left c) fs) there
