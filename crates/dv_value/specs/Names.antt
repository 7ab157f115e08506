-- The names of a document's fields.
use Rattle.std.specs.Prelude.{◌≡◌, ℕ, zero, suc, ◌==◌, ◌||◌, Bool, false, List, [], ◌∷◌, Option, Some, None, if◌then◌else◌, ⊤}
use Rattle.std.specs.List.{position_from}
use Rattle.std.specs.Str.{bytes_eq}
use Rattle.dv_value.specs.Tree.{Tree, Field, null}

-- whether the name's first byte is a dollar sign (36)
abbrev pub begins_with_dollar : List ℕ → Bool
begins_with_dollar [] = false
begins_with_dollar (b ∷ bs) = b == 36

-- a field with this name and the value null
abbrev pub bare : List ℕ → Field
bare name = (name, null)

-- the value of the first field with this name, if any
abbrev pub value_under : List ℕ → List Field → Option Tree
value_under name [] = None
value_under name (f ∷ fs) = if bytes_eq name f.0 then Some f.1 else value_under name fs

-- the value of the field at an index, counted from 0; null where there is no such field
abbrev pub value_at : ℕ → List Field → Tree
value_at place [] = null
value_at zero (f ∷ fs) = f.1
value_at (suc place) (f ∷ fs) = value_at place fs

-- the index of the first field with this name, counted from 0, if any
abbrev pub place_under : List ℕ → List Field → Option ℕ
place_under name fs = position_from (λ f. bytes_eq name f.0) 0 fs

-- the first fields, with these values instead of their own
abbrev pub with_values : List Field → List Tree → List Field
with_values fs [] = []
with_values [] (v ∷ vs) = []
with_values (f ∷ fs) (v ∷ vs) = (f.0, v) ∷ with_values fs vs

-- whether a field has this name
abbrev pub has_name : List ℕ → List Field → Bool
has_name name [] = false
has_name name (f ∷ fs) = bytes_eq name f.0 || has_name name fs

-- the fields, with this value instead of the one under the name; unchanged if no field has the name
abbrev pub with_value_under : List ℕ → Tree → List Field → List Field
with_value_under name v [] = []
with_value_under name v (f ∷ fs) = if bytes_eq name f.0 then (f.0, v) ∷ fs else f ∷ with_value_under name v fs

-- the fields without the first one that has this name
abbrev pub without : List ℕ → List Field → List Field
without name [] = []
without name (f ∷ fs) = if bytes_eq name f.0 then fs else f ∷ without name fs

-- whether the name contains a zero byte, which would end it in the encoding
abbrev pub has_zero : List ℕ → Bool
has_zero [] = false
has_zero (b ∷ bs) = b == 0 || has_zero bs

-- the names are distinct, and none contains a zero byte
abbrev pub AreNamed : List Field → Type 0
AreNamed [] = ⊤
AreNamed (f ∷ fs) = (has_zero f.0 ≡ false) × (has_name f.0 fs ≡ false) × AreNamed fs
