-- Fields and elements of trees as lists, and back; and the values in valid fields.
use Rattle.std.proofs.Common.{◌≡◌, ℕ, Bool, true, false, List, [], ◌∷◌, Option, Some, if◌then◌else◌, refl, ap, subst}
use Rattle.std.specs.Str.{bytes_eq}
use Rattle.dv_value.specs.Names.{value_under}
use Rattle.dv_value.specs.Spelling.{IsValue, AreFields}
use Rattle.dv_value.specs.Tree.{Tree, Field, Fields, no_fields, field, Elements, no_elements, element, fields_of, list_of_fields, elements_of, list_of_elements}

pub fields_again : (fs : List Field) → list_of_fields (fields_of fs) ≡ fs
fields_again [] = refl
fields_again (f ∷ fs) = ap (λ (gs : List Field). f ∷ gs) (fields_again fs)

pub fields_back : (fs : Fields) → fields_of (list_of_fields fs) ≡ fs
fields_back no_fields = refl
fields_back (field name value fs) = ap (field name value) (fields_back fs)

pub elements_again : (vs : List Tree) → list_of_elements (elements_of vs) ≡ vs
elements_again [] = refl
elements_again (v ∷ vs) = ap (λ (ws : List Tree). v ∷ ws) (elements_again vs)

pub elements_back : (vs : Elements) → elements_of (list_of_elements vs) ≡ vs
elements_back no_elements = refl
elements_back (element v vs) = ap (element v) (elements_back vs)

-- a value under a name is valid if the fields are
one_valid : (f : Field) (b : Bool) (others : Option Tree) (v : Tree) → IsValue f.1 → (others ≡ Some v → IsValue v) → (if b then Some f.1 else others) ≡ Some v → IsValue v
one_valid f true others v valid rest is = let same : f.1 ≡ v = cc in subst IsValue same valid
one_valid f false others v valid rest is = rest is

pub under_valid : (name : List ℕ) (fs : List Field) (v : Tree) → AreFields (fields_of fs) → value_under name fs ≡ Some v → IsValue v
under_valid name [] v valid under = absurd cc
under_valid name (f ∷ fs) v valid under = one_valid f (bytes_eq name f.0) (value_under name fs) v valid.3 (under_valid name fs v valid.4) under
