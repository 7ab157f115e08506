-- Fields and elements of which one is changed.
use Rattle.std.proofs.Common.{◌≡◌, ◌∙◌, ℕ, zero, suc, Bool, true, false, List, [], ◌∷◌, ◌++◌, Some, None, slice_get, refl, ap, sym, if◌then◌else◌}
use Rattle.std.specs.Str.{bytes_eq}
use Rattle.std.proofs.lemmas.Slice.Eq.{bytes_eq-Decides}
use Rattle.dv_value.specs.Tree.{Tree, Field}
use Rattle.dv_value.specs.Names.{value_under}
use Rattle.dv_candidates.specs.Candidates.{Candidate}
use Rattle.dv_path.specs.Placing.{field_with, with_field, with_element}
use Rattle.dv_path.specs.Removing.{changed_at}

at-case : (here : Bool) (name : List ℕ) (v : Tree) (f : Field) (fs : List Field) → bytes_eq name f.0 ≡ here → value_under name (with_field name (Some v) fs) ≡ Some v → value_under name (if here then field_with f.0 (Some v) ++ fs else f ∷ with_field name (Some v) fs) ≡ Some v
at-case true name v f fs is later = rw is refl
at-case false name v f fs is later = rw is later

-- a name leads to the value that was put under it
pub field-at : (name : List ℕ) (v : Tree) (fs : List Field) → value_under name (with_field name (Some v) fs) ≡ Some v
field-at name v [] = rw ((bytes_eq-Decides name name).1 refl) refl
field-at name v (f ∷ fs) = at-case (bytes_eq name f.0) name v f fs refl (field-at name v fs)

differ-case : (same : Bool) (xs ys : List ℕ) → bytes_eq xs ys ≡ same → (xs ≡ ys → ⊥) → bytes_eq xs ys ≡ false
differ-case true xs ys is ne = absurd (ne ((bytes_eq-Decides xs ys).0 is))
differ-case false xs ys is ne = is

pub differ : (xs ys : List ℕ) → (xs ≡ ys → ⊥) → bytes_eq xs ys ≡ false
differ xs ys ne = differ-case (bytes_eq xs ys) xs ys refl ne

other-case : (here mine : Bool) (name other : List ℕ) (c : Candidate) (f : Field) (fs : List Field) → bytes_eq name f.0 ≡ here → bytes_eq other f.0 ≡ mine → (other ≡ name → ⊥) → value_under other (with_field name c fs) ≡ value_under other fs → value_under other (if here then field_with f.0 c ++ fs else f ∷ with_field name c fs) ≡ (if mine then Some f.1 else value_under other fs)
other-case true true name other c f fs here mine ne later = absurd (ne ((bytes_eq-Decides other f.0).0 mine ∙ sym ((bytes_eq-Decides name f.0).0 here)))
other-case true false name other None f fs here mine ne later = refl
other-case true false name other (Some v) f fs here mine ne later = rw mine refl
other-case false true name other c f fs here mine ne later = rw mine refl
other-case false false name other c f fs here mine ne later = rw mine later

other-alone : (name other : List ℕ) (c : Candidate) → (other ≡ name → ⊥) → value_under other (field_with name c) ≡ None
other-alone name other None ne = refl
other-alone name other (Some v) ne = rw (differ other name ne) refl

-- the value under another name stays
pub field-other : (name other : List ℕ) (c : Candidate) (fs : List Field) → (other ≡ name → ⊥) → value_under other (with_field name c fs) ≡ value_under other fs
field-other name other c [] ne = other-alone name other c ne
field-other name other c (f ∷ fs) ne = other-case (bytes_eq name f.0) (bytes_eq other f.0) name other c f fs refl refl ne (field-other name other c fs ne)

missing-case : (here : Bool) (name : List ℕ) (f : Field) (fs : List Field) → (if here then Some f.1 else value_under name fs) ≡ None → (value_under name fs ≡ None → with_field name None fs ≡ fs) → (if here then field_with f.0 None ++ fs else f ∷ with_field name None fs) ≡ f ∷ fs
missing-case true name f fs none later = absurd cc
missing-case false name f fs none later = ap (λ gs. f ∷ gs) (later none)

-- nothing is taken away where no field has the name
pub field-missing : (name : List ℕ) (fs : List Field) → value_under name fs ≡ None → with_field name None fs ≡ fs
field-missing name [] none = refl
field-missing name (f ∷ fs) none = missing-case (bytes_eq name f.0) name f fs none (field-missing name fs)

again-case : (here : Bool) (name : List ℕ) (v : Tree) (f : Field) (fs : List Field) → (if here then Some f.1 else value_under name fs) ≡ Some v → (value_under name fs ≡ Some v → with_field name (Some v) fs ≡ fs) → (if here then field_with f.0 (Some v) ++ fs else f ∷ with_field name (Some v) fs) ≡ f ∷ fs
again-case true name v f fs is later = let same : f.1 ≡ v = cc in ap (λ w. (f.0, w) ∷ fs) (sym same)
again-case false name v f fs is later = ap (λ gs. f ∷ gs) (later is)

-- nothing changes where a value is put in its own place
pub field-again : (name : List ℕ) (v : Tree) (fs : List Field) → value_under name fs ≡ Some v → with_field name (Some v) fs ≡ fs
field-again name v [] is = absurd cc
field-again name v (f ∷ fs) is = again-case (bytes_eq name f.0) name v f fs is (field-again name v fs)

pub element-at : (place : ℕ) (v : Tree) (vs : List Tree) → slice_get (with_element place v vs) place ≡ Some v
element-at zero v [] = refl
element-at zero v (w ∷ ws) = refl
element-at (suc place) v [] = element-at place v []
element-at (suc place) v (w ∷ ws) = element-at place v ws

pub changed-missing : (place : ℕ) (change : Tree → Tree) (vs : List Tree) → slice_get vs place ≡ None → changed_at place change vs ≡ vs
changed-missing place change [] none = refl
changed-missing zero change (v ∷ vs) none = absurd cc
changed-missing (suc place) change (v ∷ vs) none = ap (λ ws. v ∷ ws) (changed-missing place change vs none)

pub changed-same : (place : ℕ) (change : Tree → Tree) (vs : List Tree) (v : Tree) → slice_get vs place ≡ Some v → change v ≡ v → changed_at place change vs ≡ vs
changed-same place change [] v is same = absurd cc
changed-same zero change (w ∷ ws) v is same = let here : w ≡ v = cc in ap (λ u. u ∷ ws) (ap change here ∙ same ∙ sym here)
changed-same (suc place) change (w ∷ ws) v is same = ap (λ us. w ∷ us) (changed-same place change ws v is same)
