-- Items that a loop or a call reads, and what they represent.
use Rattle.std.proofs.Common.{◌≡◌, ℕ, zero, suc, ◌≤◌, ◌<◌, List, [], ◌∷◌, length, map, get_or, Option, Some, refl, ap, arith, Bool, true, false, if◌then◌else◌}
use Rattle.std.specs.Str.{bytes_eq}
use Rattle.dv_value.specs.declared.value.Value.{Value}
use Rattle.dv_value.specs.Tree.{Tree, Field, fields_of, elements_of}
use Rattle.dv_value.specs.Inner.Tree.{weight, fields_weight, elements_weight}
use Rattle.dv_value.specs.Names.{value_under}
use Rattle.dv_value.specs.View.{tree}
use Rattle.dv_value.specs.Inner.Weight as weights
use Rattle.dv_candidates.specs.Inner.Places.{IsDocument}

-- the default doesn't matter within a list
pub get_or_any : {X : Type 0} (xs : List X) (place : ℕ) (x d : X) → place < length xs → x ≡ get_or xs place x → x ≡ get_or xs place d
get_or_any [] place x d within is = absurd (omega arith)
get_or_any (y ∷ ys) zero x d within is = is
get_or_any (y ∷ ys) (suc place) x d within is = get_or_any ys place x d (omega arith) is

pub value_weighs_less_in : (values : List Value) (vs : List Tree) (place : ℕ) (value : Value) → map tree values ≡ vs → place < length values → value ≡ get_or values place value → weight (tree value) ≤ elements_weight (elements_of vs)
value_weighs_less_in = weights.value_weighs_less

under-weighs : (here : Bool) (f : Field) (fs : List Field) (rest : Option Tree) (value : Tree) → (rest ≡ Some value → weight value ≤ fields_weight (fields_of fs)) → (if here then Some f.1 else rest) ≡ Some value → weight value ≤ fields_weight (fields_of (f ∷ fs))
under-weighs true f fs rest value later e =
    let same : f.1 ≡ value = cc in
    omega (arith, ap weight same)
under-weighs false f fs rest value later e = omega (arith, later e)

-- a value under a name weighs no more than the fields
pub value_weighs_less : (name : List ℕ) (fs : List Field) (value : Tree) → value_under name fs ≡ Some value → weight value ≤ fields_weight (fields_of fs)
value_weighs_less name [] value e = absurd cc
value_weighs_less name (f ∷ fs) value e = under-weighs (bytes_eq name f.0) f fs (value_under name fs) value (value_weighs_less name fs value) e

pub no_document : (v : Value) → ((d : _) → v ≡ Value.Doc d → ⊥) → IsDocument (tree v) → ⊥
no_document (Value.Doc d) none h = none d refl
no_document v none h = h

pub a_document : (v : Value) (d : List Field) → v ≡ Value.Doc d → IsDocument (tree v)
a_document v d e = rw e tt
