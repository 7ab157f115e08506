-- A value in fields is no longer than the fields, and no list has more values than bytes.
use Rattle.std.proofs.Common.{◌≡◌, ◌≤◌, ◌+◌, ℕ, suc, Bool, true, false, if◌then◌else◌, List, [], ◌∷◌, length, decimal, length-append, Option, Some, refl, subst, arith}
use Rattle.std.specs.Str.{bytes_eq}
use Rattle.dv_value.specs.Names.{value_under}
use Rattle.dv_value.specs.Spelling.{kind_of, framed, element_spelling, payload, elements_spelling, spelling}
use Rattle.dv_value.specs.Tree.{Tree, array, Elements, no_elements, element, Field, list_of_elements}
use Rattle.dv_value.specs.declared.kind.Kind.{Kind}
use Rattle.dv_value.specs.Inner.Spelled.{elements-element}

-- what a field adds to an encoding
abbrev pub FieldsAdd : Type 0
FieldsAdd = (f : Field) (fields : List Field) → length (spelling (f ∷ fields)) ≡ length (payload f.1) + length f.0 + 2 + length (spelling fields)

one_long : (f : Field) (b : Bool) (others : Option Tree) (v : Tree) (most : ℕ) → length (payload f.1) ≤ most → (others ≡ Some v → length (payload v) ≤ most) → (if b then Some f.1 else others) ≡ Some v → length (payload v) ≤ most
one_long f true others v most first rest is = let same : f.1 ≡ v = cc in subst (λ (w : Tree). length (payload w) ≤ most) same first
one_long f false others v most first rest is = rest is

pub under_long : FieldsAdd → (name : List ℕ) (fs : List Field) (v : Tree) → value_under name fs ≡ Some v → length (payload v) ≤ length (spelling fs)
under_long adds name [] v under = absurd cc
under_long adds name (f ∷ fs) v under =
    one_long f (bytes_eq name f.0) (value_under name fs) v (length (spelling (f ∷ fs))) (omega (arith, adds f fs)) (λ rest. omega (arith, adds f fs, under_long adds name fs v rest)) under

element_long : (kind : Kind) (name value : List ℕ) → 1 ≤ length (element_spelling kind name value)
unfolding element_spelling
element_long kind name value = omega arith

element_more : (i : ℕ) (v : Tree) (vs : Elements) → length (elements_spelling i (element v vs)) ≡ length (element_spelling (kind_of v) (decimal i) (payload v)) + length (elements_spelling (suc i) vs)
element_more i v vs = rw (elements-element i v vs, length-append) refl

elements_long : (i : ℕ) (vs : Elements) → length (list_of_elements vs) ≤ length (elements_spelling i vs)
elements_long i no_elements = omega arith
elements_long i (element v vs) = omega (arith, element_more i v vs, element_long (kind_of v) (decimal i) (payload v), elements_long (suc i) vs)

framed_long : (elements : List ℕ) → length elements ≤ length (framed elements)
unfolding framed
framed_long elements = omega (arith, length-append elements (0 ∷ []))

array_framed : (vs : Elements) → length (elements_spelling 0 vs) ≤ length (payload (array vs))
unfolding payload
array_framed vs = framed_long (elements_spelling 0 vs)

pub array_long : (vs : Elements) → length (list_of_elements vs) ≤ length (payload (array vs))
array_long vs = omega (arith, elements_long 0 vs, array_framed vs)
