-- The fields that are read one after another: how they are named, and that they are those of a document or an array.
use Rattle.std.proofs.Common.{◌≡◌, ℕ, suc, ◌+◌, ◌-◌, ◌%◌, ◌^◌, ◌<◌, ◌≤◌, max, Bool, true, false, eqb, List, [], ◌∷◌, ◌++◌, length, take, drop, slice_index_or, map, decimal, Ok, refl, sym, ap, ap₂, subst, ◌∙◌, arith}
use Rattle.std.specs.Prelude.{⊤}
use Rattle.std.specs.Str.{IsUtf8, is_utf8, bytes_eq}
use Rattle.std.proofs.lemmas.Bool.{ne_eqb, or_from, or_parts, false_from_ne_true, both_ways}
use Rattle.std.proofs.lemmas.Fmt.{decimal_by_steps, decimal_digit, IsAscii-decimal}
use Rattle.std.proofs.lemmas.List.{length_push, take_all}
use Rattle.std.proofs.lemmas.Slice.Eq.{bytes_eq-Decides}
use Rattle.std.proofs.lemmas.Str.{IsUtf8-from_is_utf8, is_utf8-from_IsUtf8, IsUtf8-from_ascii}
use Rattle.dv_value.specs.declared.fault.BsonFault.TheVariants.{BadLength, BadUtf8, BadArrayName, RepeatedName}
use Rattle.dv_value.specs.Tree.{Tree, Field, fields_of, elements_of}
use Rattle.dv_value.specs.Names.{has_name, has_zero}
use Rattle.dv_value.specs.Spelling.{kind_of, element_spelling, payload, fields_spelling, elements_spelling, IsValue, AreFields, AreElements, levels, fields_levels, elements_levels}
use Rattle.dv_value.specs.Inner.TreeLaws.{fields_again}
use Rattle.dv_bson.specs.Reading.{cut_at_zero, checked_name, named_by, name_at}
use Rattle.dv_bson.specs.Inner.Parts.{numbered}
use Rattle.dv_bson.proofs.Steps.{passed, refused_not, given, ok_is}
use Rattle.dv_bson.proofs.Names.{cut_takes, cut_again}

-- ---- a name after the fields that were seen

abbrev pub IsNamed : Bool → List Field → List ℕ → Type 0
IsNamed false seen name = IsUtf8 name × (has_zero name ≡ false) × (has_name name seen ≡ false)
IsNamed true seen name = name ≡ decimal (length seen)

checked_takes : (in_array : Bool) (seen : List Field) (name rest : List ℕ) (x : List ℕ × List ℕ) → has_zero name ≡ false → checked_name in_array seen name rest ≡ Ok x → (x ≡ (name, rest)) × IsNamed in_array seen name
checked_takes false seen name rest x z e =
    let a = passed (is_utf8 name) BadUtf8 _ x e in
    let b = refused_not (has_name name seen) RepeatedName _ x a.1 in
    (sym (ok_is (name, rest) x b.1), (IsUtf8-from_is_utf8 name a.0, z, b.0))
checked_takes true seen name rest x z e =
    let a = passed (is_utf8 name) BadUtf8 _ x e in
    let b = passed (bytes_eq name (decimal (length seen))) BadArrayName _ x a.1 in
    (sym (ok_is (name, rest) x b.1), (bytes_eq-Decides name (decimal (length seen))).0 b.0)

pub name_takes : (in_array : Bool) (seen : List Field) (bytes : List ℕ) (x : List ℕ × List ℕ) → name_at in_array seen bytes ≡ Ok x → (bytes ≡ x.0 ++ 0 ∷ x.1) × IsNamed in_array seen x.0
unfolding name_at
name_takes in_array seen bytes x e =
    let cut = given (cut_at_zero bytes) (λ o. named_by in_array seen o) BadLength x refl e in
    let taken = cut_takes bytes cut.0 cut.1 in
    let checked = checked_takes in_array seen cut.0.0 cut.0.1 x taken.1 cut.2 in
    subst (λ (y : List ℕ × List ℕ). (bytes ≡ y.0 ++ 0 ∷ y.1) × IsNamed in_array seen y.0) (sym checked.0) (taken.0, checked.1)

has_zero-push : (bs : List ℕ) (b : ℕ) → has_zero bs ≡ false → (b ≡ 0 → ⊥) → has_zero (bs ++ b ∷ []) ≡ false
has_zero-push [] b h ne = or_from (eqb b 0) false (ne_eqb b 0 ne) refl
has_zero-push (c ∷ bs) b h ne =
    let p = or_parts (eqb c 0) (has_zero bs) h in
    or_from (eqb c 0) (has_zero (bs ++ b ∷ [])) p.0 (has_zero-push bs b p.1 ne)

has_zero-decimal : (n : ℕ) → n < 2 ^ 64 → has_zero (decimal n) ≡ false
has_zero-decimal = decimal_by_steps (λ n ds. has_zero ds ≡ false)
    (λ n lt. has_zero-push [] (48 + n) refl (λ e. absurd (omega arith)))
    (λ n ds le h. has_zero-push ds (48 + n % 10) h (λ e. absurd (omega arith)))

-- a name of either kind is one that can be read
IsNamed-zero : (in_array : Bool) (seen : List Field) (name : List ℕ) → length seen < 2 ^ 64 → IsNamed in_array seen name → has_zero name ≡ false
IsNamed-zero false seen name lt h = h.1
IsNamed-zero true seen name lt h = ap has_zero h ∙ has_zero-decimal (length seen) lt

checked_again : (in_array : Bool) (seen : List Field) (name rest : List ℕ) → length seen < 2 ^ 64 → IsNamed in_array seen name → checked_name in_array seen name rest ≡ Ok (name, rest)
checked_again false seen name rest lt h = rw (is_utf8-from_IsUtf8 name h.0, h.2) refl
checked_again true seen name rest lt h =
    let utf8 : is_utf8 name ≡ true = is_utf8-from_IsUtf8 name (rw h (IsUtf8-from_ascii (decimal (length seen)) (IsAscii-decimal (length seen) lt))) in
    rw (utf8, (bytes_eq-Decides name (decimal (length seen))).1 h) refl

pub name_again : (in_array : Bool) (seen : List Field) (name rest : List ℕ) → length seen < 2 ^ 64 → IsNamed in_array seen name → name_at in_array seen (name ++ 0 ∷ rest) ≡ Ok (name, rest)
unfolding name_at
name_again in_array seen name rest lt h = ap (named_by in_array seen) (cut_again name rest (IsNamed-zero in_array seen name lt h)) ∙ checked_again in_array seen name rest lt h

-- the name of an element whose place has one digit
pub digit_again : (place digit : ℕ) (seen : List Field) (rest : List ℕ) → place < 10 → digit ≡ 48 + place → length seen ≡ place → name_at true seen (digit ∷ 0 ∷ rest) ≡ Ok (decimal place, rest)
digit_again place digit seen rest few is here =
    let one : decimal place ≡ digit ∷ [] = decimal_digit place few ∙ ap (λ (d : ℕ). d ∷ []) (sym is) in
    subst (λ (name : List ℕ). name_at true seen (name ++ 0 ∷ rest) ≡ Ok (decimal place, rest)) one (name_again true seen (decimal place) rest (omega (arith, here)) (ap decimal (sym here)))

pub digit_shown : (place : ℕ) (bytes : List ℕ) → place < 10 → 2 ≤ length bytes → slice_index_or bytes 0 0 ≡ 48 + place → slice_index_or bytes 1 0 ≡ 0 → (seen : List Field) → length seen ≡ place
    → name_at true seen bytes ≡ Ok (decimal place, take (length bytes - 2) (drop 2 bytes))
digit_shown place [] few long first second seen here = absurd (omega arith)
digit_shown place (digit ∷ []) few long first second seen here = absurd (omega arith)
digit_shown place (digit ∷ end ∷ rest) few long first second seen here =
    let closes : end ≡ 0 = second in
    let shown : digit ≡ 48 + place = first in
    let count : length (digit ∷ end ∷ rest) - 2 ≡ length rest = omega arith in
    let behind : take (length rest) rest ≡ rest = take_all (length rest) rest (omega arith) in
    rw (count, closes, behind) (digit_again place digit seen rest few shown here)

-- ---- fields after those that were seen

abbrev pub AreRead : Bool → List Field → List Field → Type 0
AreRead in_array seen [] = ⊤
AreRead in_array seen (f ∷ fs) = IsNamed in_array seen f.0 × IsValue f.1 × AreRead in_array (seen ++ f ∷ []) fs

-- no field of the second list has a name of the first
abbrev Apart : List Field → List Field → Type 0
Apart seen [] = ⊤
Apart seen (f ∷ fs) = (has_name f.0 seen ≡ false) × Apart seen fs

other_name : (a b : List ℕ) → bytes_eq a b ≡ false → bytes_eq b a ≡ false
other_name a b h = false_from_ne_true (bytes_eq b a) (λ t. both_ways (bytes_eq a b) h ((bytes_eq-Decides a b).1 (sym ((bytes_eq-Decides b a).0 t))))

has_name-last : (name : List ℕ) (seen : List Field) (f : Field) → has_name name (seen ++ f ∷ []) ≡ false → (has_name name seen ≡ false) × (bytes_eq name f.0 ≡ false)
has_name-last name [] f h = (refl, (or_parts (bytes_eq name f.0) false h).0)
has_name-last name (x ∷ seen) f h =
    let p = or_parts (bytes_eq name x.0) (has_name name (seen ++ f ∷ [])) h in
    let q = has_name-last name seen f p.1 in
    (or_from (bytes_eq name x.0) (has_name name seen) p.0 q.0, q.1)

has_name-push : (name : List ℕ) (seen : List Field) (f : Field) → has_name name seen ≡ false → bytes_eq name f.0 ≡ false → has_name name (seen ++ f ∷ []) ≡ false
has_name-push name [] f h ne = or_from (bytes_eq name f.0) false ne refl
has_name-push name (x ∷ seen) f h ne =
    let p = or_parts (bytes_eq name x.0) (has_name name seen) h in
    or_from (bytes_eq name x.0) (has_name name (seen ++ f ∷ [])) p.0 (has_name-push name seen f p.1 ne)

Apart-last : (seen : List Field) (f : Field) (fs : List Field) → Apart (seen ++ f ∷ []) fs → Apart seen fs × (has_name f.0 fs ≡ false)
Apart-last seen f [] h = (tt, refl)
Apart-last seen f (g ∷ fs) h =
    let p = has_name-last g.0 seen f h.0 in
    let q = Apart-last seen f fs h.1 in
    ((p.0, q.0), or_from (bytes_eq f.0 g.0) (has_name f.0 fs) (other_name g.0 f.0 p.1) q.1)

Apart-push : (seen : List Field) (f : Field) (fs : List Field) → Apart seen fs → has_name f.0 fs ≡ false → Apart (seen ++ f ∷ []) fs
Apart-push seen f [] h fresh = tt
Apart-push seen f (g ∷ fs) h fresh =
    let p = or_parts (bytes_eq f.0 g.0) (has_name f.0 fs) fresh in
    (has_name-push g.0 seen f h.0 (other_name f.0 g.0 p.0), Apart-push seen f fs h.1 p.1)

Apart-none : (fs : List Field) → Apart [] fs
Apart-none [] = tt
Apart-none (f ∷ fs) = (refl, Apart-none fs)

-- ---- the fields of a document

AreRead-Apart : (seen fs : List Field) → AreRead false seen fs → Apart seen fs
AreRead-Apart seen [] h = tt
AreRead-Apart seen (f ∷ fs) h = (h.0.2, (Apart-last seen f fs (AreRead-Apart (seen ++ f ∷ []) fs h.2)).0)

pub AreFields-from_read : (seen fs : List Field) → AreRead false seen fs → AreFields (fields_of fs)
AreFields-from_read seen [] h = tt
AreFields-from_read seen (f ∷ fs) h =
    let fresh = (Apart-last seen f fs (AreRead-Apart (seen ++ f ∷ []) fs h.2)).1 in
    (h.0.0, h.0.1, ap (has_name f.0) (fields_again fs) ∙ fresh, h.1, AreFields-from_read (seen ++ f ∷ []) fs h.2)

AreRead-from_apart : (seen fs : List Field) → AreFields (fields_of fs) → Apart seen fs → AreRead false seen fs
AreRead-from_apart seen [] h apart = tt
AreRead-from_apart seen (f ∷ fs) h apart =
    let fresh : has_name f.0 fs ≡ false = ap (has_name f.0) (sym (fields_again fs)) ∙ h.2 in
    ((h.0, h.1, apart.0), h.3, AreRead-from_apart (seen ++ f ∷ []) fs h.4 (Apart-push seen f fs apart.1 fresh))

pub AreRead-fields : (fs : List Field) → AreFields (fields_of fs) → AreRead false [] fs
AreRead-fields fs h = AreRead-from_apart [] fs h (Apart-none fs)

-- ---- the elements of an array

abbrev pub values : List Field → List Tree
values fs = map (λ f. f.1) fs

pub values-numbered : (i : ℕ) (vs : List Tree) → values (numbered i vs) ≡ vs
values-numbered i [] = refl
values-numbered i (v ∷ vs) = ap (λ (ws : List Tree). v ∷ ws) (values-numbered (suc i) vs)

one_more : (seen : List Field) (f : Field) → length (seen ++ f ∷ []) ≡ suc (length seen)
one_more seen f = length_push seen f ∙ omega arith

pub AreElements-from_read : (seen fs : List Field) → AreRead true seen fs → AreElements (elements_of (values fs))
AreElements-from_read seen [] h = tt
AreElements-from_read seen (f ∷ fs) h = (h.1, AreElements-from_read (seen ++ f ∷ []) fs h.2)

AreRead-numbered : (seen : List Field) (i : ℕ) (vs : List Tree) → length seen ≡ i → AreElements (elements_of vs) → AreRead true seen (numbered i vs)
AreRead-numbered seen i [] e h = tt
AreRead-numbered seen i (v ∷ vs) e h = (ap decimal (sym e), h.0, AreRead-numbered (seen ++ (decimal i, v) ∷ []) (suc i) vs (one_more seen (decimal i, v) ∙ ap suc e) h.1)

pub AreRead-elements : (vs : List Tree) → AreElements (elements_of vs) → AreRead true [] (numbered 0 vs)
AreRead-elements vs h = AreRead-numbered [] 0 vs refl h

pub elements_spelling-from_read : (seen fs : List Field) → AreRead true seen fs → fields_spelling (fields_of fs) ≡ elements_spelling (length seen) (elements_of (values fs))
unfolding payload fields_spelling elements_spelling
elements_spelling-from_read seen [] h = refl
elements_spelling-from_read seen (f ∷ fs) h =
    let behind : fields_spelling (fields_of fs) ≡ elements_spelling (suc (length seen)) (elements_of (values fs)) = elements_spelling-from_read (seen ++ f ∷ []) fs h.2 ∙ ap (λ (i : ℕ). elements_spelling i (elements_of (values fs))) (one_more seen f) in
    ap₂ (λ (name rest : List ℕ). element_spelling (kind_of f.1) name (payload f.1) ++ rest) h.0 behind

pub elements_levels-values : (fs : List Field) → fields_levels (fields_of fs) ≡ elements_levels (elements_of (values fs))
elements_levels-values [] = refl
elements_levels-values (f ∷ fs) = ap (max (levels f.1)) (elements_levels-values fs)
