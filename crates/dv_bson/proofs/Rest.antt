-- The encoding of the fields of a document, or of the elements of a list, that a loop has not reached yet.
use Rattle.std.proofs.Common.{◌≡◌, ℕ, zero, suc, ◌+◌, ◌≤◌, List, [], ◌∷◌, ◌++◌, length, drop, Some, decimal, length-append, add-one, sym, ap, ◌∙◌, arith}
use Rattle.std.specs.List.{slice_get}
use Rattle.dv_value.specs.Tree.{Tree, Field, fields_of, elements_of}
use Rattle.dv_value.specs.Inner.Spelled.{fields_spelling-field, elements_spelling-element, length-element_spelling}
use Rattle.dv_value.specs.Spelling.{kind_of, element_spelling, payload, fields_spelling, elements_spelling}
use Rattle.dv_value.specs.Inner.ListLaws.{drop_item}

pub fields_spelling-drop : (fs : List Field) (place : ℕ) (f : Field) → slice_get fs place ≡ Some f
    → fields_spelling (fields_of (drop place fs)) ≡ element_spelling (kind_of f.1) f.0 (payload f.1) ++ fields_spelling (fields_of (drop (place + 1) fs))
fields_spelling-drop fs place f here = ap (λ (rest : List Field). fields_spelling (fields_of rest)) (drop_item fs place f here) ∙ fields_spelling-field f (drop (place + 1) fs)

pub elements_spelling-drop : (vs : List Tree) (place : ℕ) (v : Tree) → slice_get vs place ≡ Some v
    → elements_spelling place (elements_of (drop place vs)) ≡ element_spelling (kind_of v) (decimal place) (payload v) ++ elements_spelling (place + 1) (elements_of (drop (place + 1) vs))
elements_spelling-drop vs place v here =
    ap (λ (rest : List Tree). elements_spelling place (elements_of rest)) (drop_item vs place v here) ∙ elements_spelling-element place v (drop (place + 1) vs)
    ∙ ap (λ (next : ℕ). element_spelling (kind_of v) (decimal place) (payload v) ++ elements_spelling next (elements_of (drop (place + 1) vs))) (sym (add-one place))

pub payload-le-fields : (fs : List Field) (place : ℕ) (f : Field) → slice_get fs place ≡ Some f → length (payload f.1) ≤ length (fields_spelling (fields_of fs))
payload-le-fields [] place f here = absurd cc
payload-le-fields (g ∷ fs) zero f here =
    let same : length (payload g.1) ≡ length (payload f.1) = let e : g ≡ f = cc in ap (λ (h : Field). length (payload h.1)) e in
    rw (fields_spelling-field g fs, length-append, length-element_spelling) (omega (arith, same))
payload-le-fields (g ∷ fs) (suc place) f here = rw (fields_spelling-field g fs, length-append) (omega (arith, payload-le-fields fs place f here))

pub payload-le-elements : (i : ℕ) (vs : List Tree) (place : ℕ) (v : Tree) → slice_get vs place ≡ Some v → length (payload v) ≤ length (elements_spelling i (elements_of vs))
payload-le-elements i [] place v here = absurd cc
payload-le-elements i (w ∷ vs) zero v here =
    let same : length (payload w) ≡ length (payload v) = let e : w ≡ v = cc in ap (λ (u : Tree). length (payload u)) e in
    rw (elements_spelling-element i w vs, length-append, length-element_spelling) (omega (arith, same))
payload-le-elements i (w ∷ vs) (suc place) v here = rw (elements_spelling-element i w vs, length-append) (omega (arith, payload-le-elements (suc i) vs place v here))
