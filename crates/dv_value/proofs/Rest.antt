-- The fields of a document, or the elements of a list, that are left for a loop.
use Rattle.std.proofs.Common.{◌≡◌, ℕ, suc, ◌+◌, max, List, ◌∷◌, length, drop, Some, decimal, length-append, add-one, refl, sym, ap, subst, ◌∙◌}
use Rattle.std.specs.List.{slice_get}
use Rattle.std.specs.Str.{IsUtf8}
use Rattle.dv_value.specs.Tree.{Tree, Field, fields_of, elements_of}
use Rattle.dv_value.specs.Names.{AreNamed}
use Rattle.dv_value.specs.Inner.Spelled.{fields_spelling-field, elements_spelling-element, length-element_spelling}
use Rattle.dv_value.specs.Spelling.{payload, fields_spelling, elements_spelling, levels, fields_levels, elements_levels, IsValue, AreFields, AreElements}
use Rattle.dv_value.specs.Inner.TreeLaws.{fields_again}
use Rattle.dv_value.specs.Inner.ListLaws.{drop_item}

-- ---- lengths

pub fields_length-field : (f : Field) (fs : List Field) → length (fields_spelling (fields_of (f ∷ fs))) ≡ length (payload f.1) + length f.0 + 2 + length (fields_spelling (fields_of fs))
fields_length-field f fs = rw (fields_spelling-field f fs, length-append, length-element_spelling) refl

pub elements_length-element : (place : ℕ) (v : Tree) (vs : List Tree) → length (elements_spelling place (elements_of (v ∷ vs))) ≡ length (payload v) + length (decimal place) + 2 + length (elements_spelling (suc place) (elements_of vs))
elements_length-element place v vs = rw (elements_spelling-element place v vs, length-append, length-element_spelling) refl

pub fields_length-drop : (fs : List Field) (place : ℕ) (f : Field) → slice_get fs place ≡ Some f
    → length (fields_spelling (fields_of (drop place fs))) ≡ length (payload f.1) + length f.0 + 2 + length (fields_spelling (fields_of (drop (place + 1) fs)))
fields_length-drop fs place f here = ap (λ (rest : List Field). length (fields_spelling (fields_of rest))) (drop_item fs place f here) ∙ fields_length-field f (drop (place + 1) fs)

pub elements_length-drop : (vs : List Tree) (place : ℕ) (v : Tree) → slice_get vs place ≡ Some v
    → length (elements_spelling place (elements_of (drop place vs))) ≡ length (payload v) + length (decimal place) + 2 + length (elements_spelling (place + 1) (elements_of (drop (place + 1) vs)))
elements_length-drop vs place v here =
    ap (λ (rest : List Tree). length (elements_spelling place (elements_of rest))) (drop_item vs place v here) ∙ elements_length-element place v (drop (place + 1) vs)
    ∙ ap (λ (next : ℕ). length (payload v) + length (decimal place) + 2 + length (elements_spelling next (elements_of (drop (place + 1) vs)))) (sym (add-one place))

-- ---- validity

-- the fields from a place on have good names, and if they are valid, so is the whole document
pub record AreValidBefore (fs : List Field) (place : ℕ) : Type 0 where
  pub named : AreNamed (drop place fs)
  pub valid : AreFields (fields_of (drop place fs)) → AreFields (fields_of fs)

valid_more : (f : Field) (fs : List Field) → IsUtf8 f.0 → IsValue f.1 → AreNamed (f ∷ fs) → AreFields (fields_of fs) → AreFields (fields_of (f ∷ fs))
valid_more f fs text value named valid = (text, named.0, rw (fields_again fs) named.1, value, valid)

pub AreValidBefore-more : (fs : List Field) (place : ℕ) (f : Field) → slice_get fs place ≡ Some f → IsUtf8 f.0 → IsValue f.1 → AreValidBefore fs place → AreValidBefore fs (place + 1)
AreValidBefore-more fs place f here text value before =
    let named : AreNamed (f ∷ drop (place + 1) fs) = subst AreNamed (drop_item fs place f here) before.named in
    let valid : AreFields (fields_of (f ∷ drop (place + 1) fs)) → AreFields (fields_of fs) = subst (λ (rest : List Field). AreFields (fields_of rest) → AreFields (fields_of fs)) (drop_item fs place f here) before.valid in
    record { named = named.2; valid = λ rest. valid (valid_more f (drop (place + 1) fs) text value named rest) }

pub elements_valid-more : (vs : List Tree) (place : ℕ) (v : Tree) → slice_get vs place ≡ Some v → IsValue v → (AreElements (elements_of (drop place vs)) → AreElements (elements_of vs))
    → AreElements (elements_of (drop (place + 1) vs)) → AreElements (elements_of vs)
elements_valid-more vs place v here value before rest = before (subst (λ (left : List Tree). AreElements (elements_of left)) (sym (drop_item vs place v here)) (value, rest))

-- ---- levels

pub fields_levels-drop : (fs : List Field) (place : ℕ) (f : Field) → slice_get fs place ≡ Some f → fields_levels (fields_of (drop place fs)) ≡ max (levels f.1) (fields_levels (fields_of (drop (place + 1) fs)))
fields_levels-drop fs place f here = ap (λ (rest : List Field). fields_levels (fields_of rest)) (drop_item fs place f here)

pub elements_levels-drop : (vs : List Tree) (place : ℕ) (v : Tree) → slice_get vs place ≡ Some v → elements_levels (elements_of (drop place vs)) ≡ max (levels v) (elements_levels (elements_of (drop (place + 1) vs)))
elements_levels-drop vs place v here = ap (λ (rest : List Tree). elements_levels (elements_of rest)) (drop_item vs place v here)
