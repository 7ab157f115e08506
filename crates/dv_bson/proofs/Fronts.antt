-- What is at the start of bytes.
use Rattle.std.proofs.Common.{◌≡◌, ℕ, suc, ◌+◌, ◌-◌, ◌<◌, ◌++◌, get_or, ◌||◌, if◌then◌else◌, Bool, true, false, not, List, [], ◌∷◌, length, take, drop, map, Some, None, Result, Ok, Err, refl, sym, ap, ◌∙◌, decimal, add-one, arith}
use Rattle.std.specs.Str.{bytes_eq, IsUtf8, is_utf8}
use Rattle.std.proofs.lemmas.List.{take_all, length-drop}
use Rattle.std.proofs.lemmas.Slice.Eq.{bytes_eq-Decides}
use Rattle.std.proofs.lemmas.Str.{is_utf8-from_IsUtf8}
use Rattle.dv_value.specs.declared.fault.BsonFault.{BsonFault}
use Rattle.dv_value.specs.declared.value.Value.{Value}
use Rattle.dv_value.specs.declared.fault.BsonFault.TheVariants.{BadUtf8, BadArrayName, RepeatedName}
use Rattle.dv_value.specs.Tree.{Field}
use Rattle.dv_value.specs.View.{tree}
use Rattle.dv_value.specs.Names.{bare, has_name, has_zero}
use Rattle.dv_bson.specs.Reading.{cut_at_zero, named_by, name_at}
use Rattle.dv_value.specs.Results.{◌>>=◌}
use Rattle.dv_bson.proofs.Names.{cut_again}
use Rattle.dv_bson.proofs.Steps.{parted_at_zero}
use Rattle.dv_bson.specs.Inner.Parts.{utf8_name, any_name_at, numbered}

-- a name or its fault, compared with the names of the fields before it
abbrev pub name_beside : Bool → List Field → List ℕ × List ℕ → Result (List ℕ × List ℕ) BsonFault
name_beside false seen name = if has_name name.0 seen then Err RepeatedName else Ok name
name_beside true seen name = if bytes_eq name.0 (decimal (length seen)) then Ok name else Err BadArrayName

-- a name is first found, and then compared with the others
pub name_first : (in_array : Bool) (seen : List Field) (bytes : List ℕ) → name_at in_array seen bytes ≡ (any_name_at bytes >>= name_beside in_array seen)
unfolding name_at any_name_at
name_first false seen bytes =
    elim (cut_at_zero bytes) as (λ o. named_by false seen o ≡ (utf8_name o >>= name_beside false seen)) [
      | None ↦ refl
      | Some cut ↦ elim (is_utf8 cut.0) as (λ b. (if b then name_beside false seen cut else Err BadUtf8) ≡ ((if b then Ok cut else Err BadUtf8) >>= name_beside false seen)) [ true ↦ refl | false ↦ refl ]
    ]
name_first true seen bytes =
    elim (cut_at_zero bytes) as (λ o. named_by true seen o ≡ (utf8_name o >>= name_beside true seen)) [
      | None ↦ refl
      | Some cut ↦ elim (is_utf8 cut.0) as (λ b. (if b then name_beside true seen cut else Err BadUtf8) ≡ ((if b then Ok cut else Err BadUtf8) >>= name_beside true seen)) [ true ↦ refl | false ↦ refl ]
    ]

pub no_name : (in_array : Bool) (seen : List Field) (bytes : List ℕ) (f : BsonFault) → any_name_at bytes ≡ Err f → name_at in_array seen bytes ≡ Err f
no_name in_array seen bytes f e = name_first in_array seen bytes ∙ ap (λ r. r >>= name_beside in_array seen) e

pub compared : (in_array : Bool) (seen : List Field) (bytes : List ℕ) (name : List ℕ × List ℕ) → any_name_at bytes ≡ Ok name → name_at in_array seen bytes ≡ name_beside in_array seen name
compared in_array seen bytes name e = name_first in_array seen bytes ∙ ap (λ r. r >>= name_beside in_array seen) e

pub length_numbered : (i : ℕ) (vs : List Value) → length (numbered i (map tree vs)) ≡ length vs
length_numbered i [] = refl
length_numbered i (v ∷ vs) = ap suc (length_numbered (suc i) vs)

has_name-names : (name : List ℕ) (seen : List Field) → has_name name (map bare (map (λ f. f.0) seen)) ≡ has_name name seen
has_name-names name [] = refl
has_name-names name (f ∷ fs) = ap (λ b. bytes_eq name f.0 || b) (has_name-names name fs)

-- the name of an array's element
abbrev pub index_beside : ℕ → List ℕ × List ℕ → Result (List ℕ × List ℕ) BsonFault
index_beside place name = if bytes_eq name.0 (decimal place) then Ok (decimal place, name.1) else Err BadArrayName

same_index : (b : Bool) (name : List ℕ × List ℕ) (text : List ℕ) → (b ≡ true → name.0 ≡ text) → (if b then Ok name else Err BadArrayName) ≡ (if b then Ok (text, name.1) else Err BadArrayName)
same_index true name text h = ap (λ (n : List ℕ). Ok (n, name.1)) (h refl)
same_index false name text h = refl

pub index_compared : (place : ℕ) (seen : List Field) (bytes : List ℕ) (name : List ℕ × List ℕ) → length seen ≡ place → any_name_at bytes ≡ Ok name → name_at true seen bytes ≡ index_beside place name
index_compared place seen bytes name here e =
    compared true seen bytes name e ∙ rw here (same_index (bytes_eq name.0 (decimal place)) name (decimal place) (bytes_eq-Decides name.0 (decimal place)).0)

-- a name among the fields is one among their names
pub has_name-bare : (name : List ℕ) (seen : List Field) (names : List (List ℕ)) → map (λ f. f.0) seen ≡ names → has_name name (map bare names) ≡ has_name name seen
has_name-bare name seen names e = ap (λ (ns : List (List ℕ)). has_name name (map bare ns)) (sym e) ∙ has_name-names name seen

-- ---- a name that is known before it is read

not_false : (b : Bool) → not b ≡ false → b ≡ true
not_false true e = refl
not_false false e = absurd cc

pub same_bytes : (a b : List ℕ) (differ : Bool) → differ ≡ not (bytes_eq a b) → differ ≡ false → a ≡ b
same_bytes a b differ e f = (bytes_eq-Decides a b).0 (not_false (bytes_eq a b) (sym e ∙ f))

pub known_name : (seen : List Field) (bytes name : List ℕ) (end : ℕ) → IsUtf8 name → has_name name seen ≡ false → has_zero name ≡ false → end < length bytes → get_or bytes end 0 ≡ 0 → take end bytes ≡ name
    → name_at false seen bytes ≡ Ok (take end bytes, take (length bytes - (end + 1)) (drop (end + 1) bytes))
unfolding any_name_at
known_name seen bytes name end text fresh whole within zero is =
    let rest = drop (suc end) bytes in
    let parted : bytes ≡ name ++ 0 ∷ rest = parted_at_zero bytes end within zero ∙ ap (λ (n : List ℕ). n ++ 0 ∷ rest) is in
    let cut : cut_at_zero bytes ≡ Some (name, rest) = ap cut_at_zero parted ∙ cut_again name rest whole in
    let valid : is_utf8 name ≡ true = is_utf8-from_IsUtf8 name text in
    let found : any_name_at bytes ≡ Ok (name, rest) = rw (cut, valid) refl in
    let behind : take (length bytes - suc end) (drop (suc end) bytes) ≡ rest = take_all (length bytes - suc end) rest (omega (arith, length-drop (suc end) bytes)) in
    rw (add-one, behind, is) (compared false seen bytes (name, rest) found ∙ rw fresh refl)
