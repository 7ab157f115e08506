-- The lengths of encodings.
use Rattle.std.proofs.Common.{◌≡◌, ℕ, suc, ◌+◌, ◌*◌, ◌≤◌, ◌<◌, ◌^◌, List, [], ◌∷◌, length, length-append, refl, arith}
use Rattle.std.proofs.lemmas.Fmt.{length-decimal-le}
use Rattle.dv_value.specs.Tree.{Tree, array, Field, fields_of, elements_of}
use Rattle.dv_value.specs.Spelling.{framed, payload, spelling, fields_spelling, elements_spelling}
use Rattle.dv_value.specs.Inner.Spelled.{fields_spelling-field, length-array, length-document, length-element, length-element_spelling, length-no_elements}

pub spelling-field : (f : Field) (fs : List Field) → length (spelling (f ∷ fs)) ≡ length (payload f.1) + length f.0 + 2 + length (spelling fs)
spelling-field f fs =
    let fields : length (fields_spelling (fields_of (f ∷ fs))) ≡ length (payload f.1) + length f.0 + 2 + length (fields_spelling (fields_of fs)) =
    rw (fields_spelling-field f fs, length-append, length-element_spelling) refl in
    omega (arith, fields, length-document (fields_of (f ∷ fs)), length-document (fields_of fs))

pub spelling-nil : length (spelling []) ≡ 5
unfolding payload framed
spelling-nil = refl

pub spelling-long : (fs : List Field) → 5 ≤ length (spelling fs)
spelling-long fs = omega (arith, length-document (fields_of fs))

-- how many bytes values are, without the names that an array gives them
abbrev pub sizes : List Tree → ℕ
sizes [] = 0
sizes (v ∷ vs) = length (payload v) + sizes vs

few : (i n : ℕ) → i + suc n ≤ 100000000 → i < 10 ^ 8
few i n h = omega arith

elements-bound : (i : ℕ) (vs : List Tree) → i + length vs ≤ 100000000 → length (elements_spelling i (elements_of vs)) ≤ sizes vs + 10 * length vs
elements-bound i [] h = omega (arith, length-no_elements i)
elements-bound i (v ∷ vs) h =
    omega (arith, length-element i v (elements_of vs), length-decimal-le 8 i (omega arith) (few i (length vs) h) (omega arith), elements-bound (suc i) vs (omega arith))

-- an array of a hundred million values at most
pub array-bound : (vs : List Tree) → length vs ≤ 100000000 → length (payload (array (elements_of vs))) ≤ sizes vs + 10 * length vs + 5
array-bound vs h = omega (arith, length-array (elements_of vs), elements-bound 0 vs (omega arith))
