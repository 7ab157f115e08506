-- The bytes of each kind of value.
use Rattle.std.proofs.Common.{◌≡◌, ℕ, ℤ, Bool, List, [], ◌∷◌, refl, ap, ◌∙◌}
use Rattle.std.specs.Prelude.{FitsSigned}
use Rattle.std.specs.Int.{w32, w64, to_le_bytes, cast_unsigned, cast_signed, from_bool}
use Rattle.std.proofs.lemmas.Int.{to_z-of_z}
use Rattle.dv_value.specs.Tree.{int32, int64, string, document, array, boolean, binary, object_id, date, null, timestamp, min_key, max_key, Fields, Elements}
use Rattle.dv_value.specs.Spelling.{framed, counted, tagged, payload, fields_spelling, elements_spelling}

-- a signed number's bytes, as code reads them through its bits
pub payload-int32 : (n : ℤ) (bytes : List ℕ) → FitsSigned w32 n → bytes ≡ to_le_bytes w32 (cast_unsigned w32 (cast_signed w32 (cast_unsigned w32 n))) → bytes ≡ payload (int32 n)
unfolding payload
payload-int32 n bytes fits e = e ∙ ap (λ (m : ℤ). to_le_bytes w32 (cast_unsigned w32 m)) (to_z-of_z w32 n fits)

pub payload-int64 : (n : ℤ) (bytes : List ℕ) → FitsSigned w64 n → bytes ≡ to_le_bytes w64 (cast_unsigned w64 (cast_signed w64 (cast_unsigned w64 n))) → bytes ≡ payload (int64 n)
unfolding payload
payload-int64 n bytes fits e = e ∙ ap (λ (m : ℤ). to_le_bytes w64 (cast_unsigned w64 m)) (to_z-of_z w64 n fits)

pub payload-date : (n : ℤ) (bytes : List ℕ) → FitsSigned w64 n → bytes ≡ to_le_bytes w64 (cast_unsigned w64 (cast_signed w64 (cast_unsigned w64 n))) → bytes ≡ payload (date n)
unfolding payload
payload-date n bytes fits e = e ∙ ap (λ (m : ℤ). to_le_bytes w64 (cast_unsigned w64 m)) (to_z-of_z w64 n fits)

pub payload-timestamp : (n : ℕ) → to_le_bytes w64 n ≡ payload (timestamp n)
unfolding payload
payload-timestamp n = refl

pub payload-binary : (subtype : ℕ) (bytes : List ℕ) → payload (binary subtype bytes) ≡ tagged subtype bytes
unfolding payload
payload-binary subtype bytes = refl

pub payload-object_id : (id : List ℕ) → id ≡ payload (object_id id)
unfolding payload
payload-object_id id = refl

-- the values that have no bytes
pub payload-null : payload null ≡ []
unfolding payload
payload-null = refl

pub payload-min_key : payload min_key ≡ []
unfolding payload
payload-min_key = refl

pub payload-max_key : payload max_key ≡ []
unfolding payload
payload-max_key = refl

pub payload-boolean : (b : Bool) → payload (boolean b) ≡ from_bool b ∷ []
unfolding payload
payload-boolean b = refl

pub payload-string : (s : List ℕ) → payload (string s) ≡ counted s
unfolding payload
payload-string s = refl

pub payload-document : (fs : Fields) → payload (document fs) ≡ framed (fields_spelling fs)
unfolding payload
payload-document fs = refl

pub payload-array : (vs : Elements) → payload (array vs) ≡ framed (elements_spelling 0 vs)
unfolding payload
payload-array vs = refl
