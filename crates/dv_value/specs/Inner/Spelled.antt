-- The encoding of a document field by field, and how long its parts are.
use Rattle.std.specs.Prelude.{◌≡◌, ℕ, ℤ, suc, ◌+◌, List, [], ◌∷◌, ◌++◌, length, decimal}
use Rattle.std.specs.Int.{w32, w64, to_le_bytes, cast_unsigned}
use Rattle.std.proofs.Common.{refl, length-append, arith}
use Rattle.dv_value.specs.declared.kind.Kind.{Kind}
use Rattle.dv_value.specs.Spelling.{kind_of, framed, counted, tagged, element_spelling, payload, fields_spelling, elements_spelling}
use Rattle.dv_value.specs.Tree.{Tree, int32, int64, string, binary, null, document, array, Fields, no_fields, Elements, no_elements, element, Field, fields_of, elements_of}

-- ---- what a field or an element adds before the others

pub fields_spelling-field : (f : Field) (fs : List Field) → fields_spelling (fields_of (f ∷ fs)) ≡ element_spelling (kind_of f.1) f.0 (payload f.1) ++ fields_spelling (fields_of fs)
unfolding fields_spelling
fields_spelling-field f fs = refl

pub elements_spelling-element : (place : ℕ) (v : Tree) (vs : List Tree) → elements_spelling place (elements_of (v ∷ vs)) ≡ element_spelling (kind_of v) (decimal place) (payload v) ++ elements_spelling (suc place) (elements_of vs)
unfolding elements_spelling
elements_spelling-element place v vs = refl

pub elements-element : (i : ℕ) (v : Tree) (vs : Elements) → elements_spelling i (element v vs) ≡ element_spelling (kind_of v) (decimal i) (payload v) ++ elements_spelling (suc i) vs
unfolding elements_spelling
elements-element i v vs = refl

pub fields_spelling-nil : (fs : List Field) → fs ≡ [] → fields_spelling (fields_of fs) ≡ []
unfolding fields_spelling
fields_spelling-nil fs none = rw none refl

pub elements_spelling-nil : (place : ℕ) (vs : List Tree) → vs ≡ [] → elements_spelling place (elements_of vs) ≡ []
unfolding elements_spelling
elements_spelling-nil place vs none = rw none refl

-- ---- lengths

-- a count takes four bytes
length-count : (n : ℕ) → length (to_le_bytes w32 n) ≡ 4
length-count n = refl

-- a count before a text, and a zero after it
length-enclosed : (n : ℕ) (text : List ℕ) → length (to_le_bytes w32 n ++ (text ++ 0 ∷ [])) ≡ length text + 5
length-enclosed n text = omega (arith, length-append (to_le_bytes w32 n) (text ++ 0 ∷ []), length-append text (0 ∷ []), length-count n)

pub length-counted : (text : List ℕ) → length (counted text) ≡ length text + 5
unfolding counted
length-counted text = length-enclosed (length text + 1) text

pub length-framed : (elements : List ℕ) → length (framed elements) ≡ length elements + 5
unfolding framed
length-framed elements = length-enclosed (length elements + 5) elements

pub length-tagged : (subtype : ℕ) (bytes : List ℕ) → length (tagged subtype bytes) ≡ length bytes + 5
unfolding tagged
length-tagged subtype bytes = omega (arith, length-append (to_le_bytes w32 (length bytes)) (subtype ∷ bytes), length-count (length bytes))

pub length-element_spelling : (kind : Kind) (name value : List ℕ) → length (element_spelling kind name value) ≡ length value + length name + 2
unfolding element_spelling
length-element_spelling kind name value = omega (arith, length-append name (0 ∷ value))

pub length-document : (fs : Fields) → length (payload (document fs)) ≡ length (fields_spelling fs) + 5
unfolding payload
length-document fs = length-framed (fields_spelling fs)

pub length-array : (vs : Elements) → length (payload (array vs)) ≡ length (elements_spelling 0 vs) + 5
unfolding payload
length-array vs = length-framed (elements_spelling 0 vs)

pub length-string : (s : List ℕ) → length (payload (string s)) ≡ length s + 5
unfolding payload
length-string s = length-counted s

pub length_binary : (subtype : ℕ) (bytes : List ℕ) → length (payload (binary subtype bytes)) ≡ length bytes + 5
unfolding payload
length_binary subtype bytes = length-tagged subtype bytes

length-wide : (n : ℕ) → length (to_le_bytes w64 n) ≡ 8
length-wide n = refl

pub length-int32 : (n : ℤ) → length (payload (int32 n)) ≡ 4
unfolding payload
length-int32 n = length-count (cast_unsigned w32 n)

pub length-int64 : (n : ℤ) → length (payload (int64 n)) ≡ 8
unfolding payload
length-int64 n = length-wide (cast_unsigned w64 n)

pub length-null : length (payload null) ≡ 0
unfolding payload
length-null = refl

-- ---- no field or element, and one before others

pub length-no_fields : length (fields_spelling no_fields) ≡ 0
unfolding fields_spelling
length-no_fields = refl

pub length-no_elements : (place : ℕ) → length (elements_spelling place no_elements) ≡ 0
unfolding elements_spelling
length-no_elements place = refl

pub length-element : (place : ℕ) (v : Tree) (vs : Elements) → length (elements_spelling place (element v vs)) ≡ length (payload v) + length (decimal place) + 2 + length (elements_spelling (suc place) vs)
length-element place v vs = rw (elements-element place v vs, length-append, length-element_spelling) refl
