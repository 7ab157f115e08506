-- The name of the first field of a document, as its bytes show it.
use Rattle.std.proofs.Common.{◌≡◌, ℕ, zero, suc, ◌+◌, ◌-◌, ◌<◌, ◌≤◌, ◌⊎◌, Bool, true, false, nat_lt, eqb, if◌then◌else◌, List, [], ◌∷◌, ◌++◌, length, get_or, slice_index, take, drop, Option, Some, None, Result, Ok, Err, refl, sym, ap, subst, ◌∙◌, append_assoc, append-nil, true≢false, arith, inl, inr}
use Rattle.std.specs.Str.{is_utf8}
use Rattle.std.proofs.lemmas.Bool.{ltb-false, eq-eqb, eqb-true}
use Rattle.std.proofs.lemmas.List.{length-take-le, length-drop, take-append-drop, get_or-drop, drop-drop}
use Rattle.dv_value.specs.declared.fault.BsonFault.{BsonFault}
use Rattle.dv_value.specs.declared.fault.BsonFault.TheVariants.{BadLength, BadUtf8}
use Rattle.dv_value.specs.declared.kind.Kind.{Kind}
use Rattle.dv_value.specs.Results.{◌>>=◌}
use Rattle.dv_value.specs.Tree.{Field}
use Rattle.dv_bson.specs.Reading.{Inside, body_at, closed_by, count_at, cut_at_zero, document_at, fields_at, frame_of, kind_at, name_at, named_by, outermost_of, value_at}
use Rattle.dv_command.specs.Asked.{command_name}
use Rattle.dv_message.specs.Commands.{fields_in}
use Rattle.dv_message.proofs.Frames.{some_pair, cut_joins, cut_found}

record Succeeds {A B : Type 0} (first : Result A BsonFault) (rest : A → Result B BsonFault) (end : B) : Type 0 where
  given : A
  first_is : first ≡ Ok given
  rest_is : rest given ≡ Ok end

succeeds : {A B : Type 0} (first : Result A BsonFault) (rest : A → Result B BsonFault) (end : B) → (first >>= rest) ≡ Ok end → Succeeds first rest end
succeeds (Ok x) rest end is = record { given = x; first_is = refl; rest_is = is }
succeeds (Err fault) rest end is = absurd cc

passes : {A : Type 0} (refused : Bool) (fault : BsonFault) (rest : Result A BsonFault) (end : A) → (if refused then Err fault else rest) ≡ Ok end → (refused ≡ false) × (rest ≡ Ok end)
passes true fault rest end is = absurd cc
passes false fault rest end is = (refl, is)

-- ---- fields

no_end : (kind : Result Kind BsonFault) (all : List Field) → (kind >>= λ _. let none : Result (List Field) BsonFault = Err BadLength in none) ≡ Ok all → ⊥
no_end (Ok kind) all e = cc
no_end (Err fault) all e = cc

closed_by_zero : (last at : ℕ) (seen all : List Field) (is_zero : Bool) → eqb last 0 ≡ is_zero → (if is_zero then Ok seen else (kind_at last at >>= λ _. Err BadLength)) ≡ Ok all → (last ≡ 0) × (seen ≡ all)
closed_by_zero last at seen all true is e = (eqb-true last 0 is, cc)
closed_by_zero last at seen all false is e = absurd (no_end (kind_at last at) all e)

closed_shows : (last at : ℕ) (seen all : List Field) → closed_by last at seen ≡ Ok all → (last ≡ 0) × (seen ≡ all)
closed_shows last at seen all e = closed_by_zero last at seen all (eqb last 0) refl e

-- fields that were read stay the first ones
fields_begin : (inside : Inside) (steps : ℕ) (in_array : Bool) (at : ℕ) (seen : List Field) (bytes : List ℕ) (last : ℕ) (all : List Field) → fields_at inside steps in_array at seen bytes last ≡ Ok all → (more : List Field) × (seen ++ more ≡ all)
unfolding fields_at
fields_begin inside zero in_array at seen [] last all e = ([], append-nil seen ∙ (closed_shows last at seen all e).1)
fields_begin inside (suc steps) in_array at seen [] last all e = ([], append-nil seen ∙ (closed_shows last at seen all e).1)
fields_begin inside zero in_array at seen (b ∷ bytes) last all e = absurd cc
fields_begin inside (suc steps) in_array at seen (b ∷ bytes) last all e =
    let kind = succeeds (kind_at b at) _ all e in
    let name = succeeds (name_at in_array seen bytes) _ all kind.rest_is in
    let value = succeeds (value_at inside kind.given (at + (suc (length bytes) - length name.given.1)) name.given.1) _ all name.rest_is in
    let one : Field = (name.given.0, value.given.0) in
    let (more, same) = fields_begin inside steps in_array (at + (suc (length bytes) - length value.given.1)) (seen ++ one ∷ []) value.given.1 last all value.rest_is in
    (one ∷ more, sym (append_assoc seen (one ∷ []) more) ∙ same)

-- a type byte, and a name that ends with a zero
record IsShown (bytes : List ℕ) (all : List Field) : Type 0 where
  kind : ℕ
  behind : List ℕ
  rest : List ℕ
  bytes_are : bytes ≡ kind ∷ behind
  some_kind : eqb kind 0 ≡ false
  name_is : cut_at_zero behind ≡ Some (command_name all, rest)
  is_text : is_utf8 (command_name all) ≡ true

kind_shows : (b at : ℕ) (kind : Kind) → kind_at b at ≡ Ok kind → eqb b 0 ≡ false
unfolding kind_at
kind_shows b at kind e = (passes (eqb b 0) BadLength _ kind e).0

record IsNamed (bytes name rest : List ℕ) : Type 0 where
  cut : cut_at_zero bytes ≡ Some (name, rest)
  is_text : is_utf8 name ≡ true

text_shows : (name rest : List ℕ) (cut : List ℕ × List ℕ) (is_text : Bool) → (if is_text then Ok (name, rest) else Err BadUtf8) ≡ Ok cut → (is_text ≡ true) × ((name, rest) ≡ cut)
text_shows name rest cut true e = (refl, cc)
text_shows name rest cut false e = absurd cc

named_shows : (bytes : List ℕ) (found : Option (List ℕ × List ℕ)) (cut : List ℕ × List ℕ) → cut_at_zero bytes ≡ found → named_by false [] found ≡ Ok cut → IsNamed bytes cut.0 cut.1
named_shows bytes None cut is e = absurd cc
named_shows bytes (Some (name, rest)) cut is e =
    let one = text_shows name rest cut (is_utf8 name) e in
    record { cut = is ∙ ap Some one.1; is_text = ap (λ (c : List ℕ × List ℕ). is_utf8 c.0) (sym one.1) ∙ one.0 }

name_shows : (bytes : List ℕ) (cut : List ℕ × List ℕ) → name_at false [] bytes ≡ Ok cut → IsNamed bytes cut.0 cut.1
unfolding name_at
name_shows bytes cut e = named_shows bytes (cut_at_zero bytes) cut refl e

-- there is no field, or the bytes show its name
first_shows : (inside : Inside) (steps at : ℕ) (bytes : List ℕ) (last : ℕ) (all : List Field) → fields_at inside steps false at [] bytes last ≡ Ok all → ((bytes ≡ []) × (last ≡ 0) × ([] ≡ all)) ⊎ IsShown bytes all
unfolding fields_at
first_shows inside zero at [] last all e = let closed = closed_shows last at [] all e in inl (refl, closed.0, closed.1)
first_shows inside (suc steps) at [] last all e = let closed = closed_shows last at [] all e in inl (refl, closed.0, closed.1)
first_shows inside zero at (b ∷ bytes) last all e = absurd cc
first_shows inside (suc steps) at (b ∷ bytes) last all e =
    let kind = succeeds (kind_at b at) _ all e in
    let name = succeeds (name_at false [] bytes) _ all kind.rest_is in
    let value = succeeds (value_at inside kind.given (at + (suc (length bytes) - length name.given.1)) name.given.1) _ all name.rest_is in
    let (more, same) = fields_begin inside steps false (at + (suc (length bytes) - length value.given.1)) ((name.given.0, value.given.0) ∷ []) value.given.1 last all value.rest_is in
    let shown = name_shows bytes name.given name.first_is in
    let first : name.given.0 ≡ command_name all = ap command_name same in
    inr (record {
      kind = b;
      behind = bytes;
      rest = name.given.1;
      bytes_are = refl;
      some_kind = kind_shows b at kind.given kind.first_is;
      name_is = shown.cut ∙ ap (λ (n : List ℕ). Some (n, name.given.1)) first;
      is_text = ap is_utf8 (sym first) ∙ shown.is_text;
    })

-- ---- the whole document

record IsFramed (bytes : List ℕ) (n : ℕ) (all : List Field) : Type 0 where
  least : 5 ≤ n
  most : n ≤ length bytes
  inside : body_at 100 false 4 (frame_of n bytes).elements (frame_of n bytes).last ≡ Ok all

outermost_shows : (count : Option ℕ) (bytes : List ℕ) (read : List Field × ℕ) → outermost_of count bytes ≡ Ok read → (n : ℕ) × IsFramed bytes n read.0
outermost_shows None bytes read e = absurd cc
outermost_shows (Some n) bytes read e =
    let long = passes (nat_lt n 5) _ _ read e in
    let small = passes (nat_lt 16777216 n) _ _ read long.1 in
    let there = passes (nat_lt (length bytes) n) _ _ read small.1 in
    let body = succeeds (body_at 100 false 4 (frame_of n bytes).elements (frame_of n bytes).last) _ read there.1 in
    let same : (body.given, n) ≡ read = (let given = body.rest_is in cc) in
    (n, record { least = ltb-false _ _ long.0; most = ltb-false _ _ there.0; inside = body.first_is ∙ ap (λ (r : List Field × ℕ). let whole : Result (List Field) BsonFault = Ok r.0 in whole) same })

document_shows : (bytes : List ℕ) (all : List Field) → fields_in bytes ≡ Ok all → (n : ℕ) × IsFramed bytes n all
unfolding document_at
document_shows bytes all e =
    let read = succeeds (document_at bytes) _ all e in
    let same : read.given.0 ≡ all = (let given = read.rest_is in cc) in
    let (n, framed) = outermost_shows (count_at bytes) bytes read.given read.first_is in
    (n, subst (IsFramed bytes n) same framed)

-- how a list begins whose first items are these
taken_first : (m : ℕ) (xs : List ℕ) (y : ℕ) (ys : List ℕ) → take m xs ≡ y ∷ ys → (k : ℕ) × (rest : List ℕ) × (xs ≡ y ∷ rest) × (take k rest ≡ ys)
taken_first zero xs y ys e = absurd cc
taken_first (suc m) [] y ys e = absurd cc
taken_first (suc m) (x ∷ xs) y ys e =
    let first : x ≡ y = cc in
    let behind : take m xs ≡ ys = cc in
    (m, xs, ap (λ (z : ℕ). z ∷ xs) first, behind)

cut_longer : (k : ℕ) (bytes name rest : List ℕ) → cut_at_zero (take k bytes) ≡ Some (name, rest) → cut_at_zero bytes ≡ Some (name, rest ++ drop k bytes)
cut_longer k bytes name rest e =
    let parts = cut_joins (take k bytes) name rest e in
    let whole : bytes ≡ name ++ 0 ∷ (rest ++ drop k bytes) = sym (take-append-drop k bytes) ∙ ap (λ (front : List ℕ). front ++ drop k bytes) parts.0 ∙ append_assoc name (0 ∷ rest) (drop k bytes) in
    ap cut_at_zero whole ∙ cut_found name (rest ++ drop k bytes) parts.1

-- after the length of a document come the type and the name of its first field; if it has no fields, the zero that closes it comes
-- instead
pub record Begins (bytes : List ℕ) (all : List Field) : Type 0 where
  pub long : 5 < length bytes
  pub some_kind : eqb (slice_index bytes 4) 0 ≡ false
  pub rest : List ℕ
  pub name_is : cut_at_zero (drop 5 bytes) ≡ Some (command_name all, rest)
  pub is_text : is_utf8 (command_name all) ≡ true

begins_by : (bytes : List ℕ) (n : ℕ) (all : List Field) → 5 ≤ n → n ≤ length bytes → ((take (n - 5) (drop 4 bytes) ≡ []) × (slice_index bytes (n - 1) ≡ 0) × ([] ≡ all)) ⊎ IsShown (take (n - 5) (drop 4 bytes)) all
    → ((slice_index bytes 4 ≡ 0) × ([] ≡ all)) ⊎ Begins bytes all
begins_by bytes n all least most (inl (none, closed, empty)) =
    let long : length (take (n - 5) (drop 4 bytes)) ≡ n - 5 = length-take-le (n - 5) (drop 4 bytes) (omega (arith, length-drop 4 bytes)) in
    let nothing : length (take (n - 5) (drop 4 bytes)) ≡ 0 = ap length none in
    let five : n - 1 ≡ 4 = omega (arith, long, nothing, least) in
    inl (ap (slice_index bytes) (sym five) ∙ closed, empty)
begins_by bytes n all least most (inr shown) =
    let long : length (take (n - 5) (drop 4 bytes)) ≡ n - 5 = length-take-le (n - 5) (drop 4 bytes) (omega (arith, length-drop 4 bytes)) in
    let some : length (take (n - 5) (drop 4 bytes)) ≡ suc (length shown.behind) = ap length shown.bytes_are in
    let (k, rest, whole, front) = taken_first (n - 5) (drop 4 bytes) shown.kind shown.behind shown.bytes_are in
    let kind_is : slice_index bytes 4 ≡ shown.kind = sym (get_or-drop 4 bytes 0 0) ∙ ap (λ (xs : List ℕ). get_or xs 0 0) whole in
    let behind : drop 5 bytes ≡ rest = sym (drop-drop 1 4 bytes) ∙ ap (drop 1) whole in
    let name_is = cut_longer k rest (command_name all) shown.rest (ap cut_at_zero front ∙ shown.name_is) in
    inr (record {
      long = omega (arith, long, some, most);
      some_kind = ap (λ (kind : ℕ). eqb kind 0) kind_is ∙ shown.some_kind;
      rest = shown.rest ++ drop k rest;
      name_is = ap cut_at_zero behind ∙ name_is;
      is_text = shown.is_text;
    })

pub begins : (bytes : List ℕ) (all : List Field) → fields_in bytes ≡ Ok all → ((slice_index bytes 4 ≡ 0) × ([] ≡ all)) ⊎ Begins bytes all
unfolding body_at
begins bytes all e =
    let (n, framed) = document_shows bytes all e in
    let frame = frame_of n bytes in
    begins_by bytes n all framed.least framed.most (first_shows (body_at 99) (length frame.elements) 4 frame.elements frame.last all framed.inside)

-- ---- as the code reads them

no_name_by : (bytes : List ℕ) (all : List Field) → (length bytes < 6) ⊎ (slice_index bytes 4 ≡ 0) → ((slice_index bytes 4 ≡ 0) × ([] ≡ all)) ⊎ Begins bytes all → [] ≡ command_name all
no_name_by bytes all shown (inl (closed, empty)) = ap command_name empty
no_name_by bytes all (inl short) (inr named) = let long = named.long in absurd (omega arith)
no_name_by bytes all (inr closed) (inr named) = let is_zero : eqb (slice_index bytes 4) 0 ≡ true = eq-eqb _ _ closed in absurd (true≢false (sym is_zero ∙ named.some_kind))

pub no_name : (bytes : List ℕ) (all : List Field) → (length bytes < 6) ⊎ (slice_index bytes 4 ≡ 0) → fields_in bytes ≡ Ok all → [] ≡ command_name all
no_name bytes all shown e = no_name_by bytes all shown (begins bytes all e)

some_name_by : (bytes : List ℕ) (all : List Field) → (slice_index bytes 4 ≡ 0 → ⊥) → ((slice_index bytes 4 ≡ 0) × ([] ≡ all)) ⊎ Begins bytes all → Begins bytes all
some_name_by bytes all typed (inl (closed, empty)) = absurd (typed closed)
some_name_by bytes all typed (inr named) = named

pub some_name : (bytes : List ℕ) (all : List Field) → (slice_index bytes 4 ≡ 0 → ⊥) → fields_in bytes ≡ Ok all → Begins bytes all
some_name bytes all typed e = some_name_by bytes all typed (begins bytes all e)

none_is : {A : Type 0} (x : A) → None ≡ Some x → ⊥
none_is x e = cc

-- the bytes after the type, as the code cuts them off
module _ (bytes behind : List ℕ) (all : List Field) (is : behind ≡ drop 5 bytes) (typed : slice_index bytes 4 ≡ 0 → ⊥) (read : fields_in bytes ≡ Ok all) where
  shown : Begins bytes all
  shown = some_name bytes all typed read

  cut_is : cut_at_zero behind ≡ Some (command_name all, shown.rest)
  cut_is = ap cut_at_zero is ∙ shown.name_is

  pub not_hidden : None ≡ cut_at_zero behind → ⊥
  not_hidden none = none_is (command_name all, shown.rest) (none ∙ cut_is)

  pub is_shown : (name rest : List ℕ) → Some (name, rest) ≡ cut_at_zero behind → name ≡ command_name all
  is_shown name rest e = (some_pair name (command_name all) rest shown.rest (e ∙ cut_is)).0

  pub is_text_shown : (name rest : List ℕ) → Some (name, rest) ≡ cut_at_zero behind → is_utf8 name ≡ true
  is_text_shown name rest e = ap is_utf8 (is_shown name rest e) ∙ shown.is_text
