-- Parts of reading, as the reader takes them one by one.
use Rattle.std.specs.Prelude.{◌≡◌, ℕ, suc, ◌+◌, ◌-◌, Bool, false, List, [], ◌∷◌, length, Option, Some, None, Result, Ok, Err, nat_lt, slice_get, if◌then◌else◌, decimal}
use Rattle.std.specs.Str.{is_utf8}
use Rattle.dv_value.specs.declared.kind.Kind.{Kind}
use Rattle.dv_value.specs.declared.fault.BsonFault.{BsonFault}
use Rattle.dv_value.specs.declared.fault.BsonFault.TheVariants.{Truncated, BadLength, BadUtf8, TooLarge, NoMemory}
use Rattle.dv_bson.specs.declared.fault.ReadError.{ReadError}
use Rattle.dv_bson.specs.declared.fault.ReadError.TheVariants as errors
use Rattle.dv_value.specs.Tree.{Tree, Field}
use Rattle.dv_bson.specs.Reading.{Fails, Gives, body_at, count_at, fields_at, kind_at, cut_at_zero, name_at, value_at, Frame, frame_of, Inside}
use Rattle.dv_value.specs.Results.{◌>>=◌}

-- a type, and the bytes after its byte
abbrev pub with_rest : List ℕ → Kind → Result (Kind × List ℕ) BsonFault
with_rest rest kind = Ok (kind, rest)

-- the type of the element at the front, and the bytes after its type byte
unfoldable pub front_kind_at : ℕ → List ℕ → Result (Kind × List ℕ) BsonFault
front_kind_at at [] = Err BadLength
front_kind_at at (b ∷ bytes) = kind_at b at >>= with_rest bytes

-- a name that was cut off at its closing zero, if it is UTF-8
abbrev pub utf8_name : Option (List ℕ × List ℕ) → Result (List ℕ × List ℕ) BsonFault
utf8_name None = Err BadLength
utf8_name (Some cut) = if is_utf8 cut.0 then Ok cut else Err BadUtf8

-- a name, whatever the others are
unfoldable pub any_name_at : List ℕ → Result (List ℕ × List ℕ) BsonFault
any_name_at bytes = utf8_name (cut_at_zero bytes)

-- a value under its name, and the bytes after it
abbrev pub with_name : List ℕ → Tree × List ℕ → Result (Field × List ℕ) BsonFault
with_name name value = Ok ((name, value.0), value.1)

-- the element at the front, which follows these: its name and its value, and the bytes after it
unfoldable pub field_at : Inside → Bool → ℕ → List Field → List ℕ → Result (Field × List ℕ) BsonFault
field_at inside in_array at seen bytes = do
  kind ← front_kind_at at bytes
  name ← name_at in_array seen kind.1
  value_at inside kind.0 (at + (length bytes - length name.1)) name.1 >>= with_name name.0

-- a document's next field, which follows these, with at most this many levels inside it, and the bytes after it
abbrev pub field_in : ℕ → ℕ → List Field → List ℕ → Result (Field × List ℕ) BsonFault
field_in levels at seen bytes = field_at (body_at levels) false at seen bytes

-- the elements of an array with the names that it gives them, from i on
abbrev pub numbered : ℕ → List Tree → List Field
numbered i [] = []
numbered i (v ∷ vs) = (decimal i, v) ∷ numbered (suc i) vs

-- a document's fields: those that are read, and the rest from a place on, with at most this many levels inside it
abbrev pub fields_from : ℕ → ℕ → List Field → List ℕ → ℕ → Result (List Field) BsonFault
fields_from levels at fields bytes last = fields_at (body_at levels) (length bytes) false at fields bytes last

-- What a function returned is a part of what reading gives, and its fault is reading's first one, unless memory runs out.
abbrev pub GivesPart : {X Y Z : Type 0} → (X → Z) → (Y → Z) → Result X ReadError → Result Y BsonFault → Type 0
GivesPart {Y = Y} view part (Ok x) read = (y : Y) × (read ≡ Ok y) × (part y ≡ view x)
GivesPart view part (Err e) read = Fails e read

-- What a function returned is the next field's value and the bytes after it, and the field has the name of the one at a place of
-- other fields; its fault is reading's first one, unless memory runs out.
abbrev pub GivesNext : {X : Type 0} → List Field → ℕ → (X → Tree × List ℕ) → Result (Option X) ReadError → Result (Field × List ℕ) BsonFault → Type 0
GivesNext like place view (Ok None) read = Unit {0}
GivesNext like place view (Ok (Some x)) read = (f : Field) × (slice_get like place ≡ Some f) × (read ≡ Ok ((f.0, (view x).0), (view x).1))
GivesNext like place view (Err e) read = Fails e read

-- Reading the rest after what a function returned gives the same as reading all, and its fault is reading's first one, unless
-- memory runs out.
abbrev pub LeavesToRead : {X Y : Type 0} → (X → Result Y BsonFault) → Result X ReadError → Result Y BsonFault → Type 0
LeavesToRead left (Ok x) read = left x ≡ read
LeavesToRead left (Err e) read = Fails e read

-- If a function passes, reading has no fault; else the function's fault is reading's first one, unless memory runs out.
abbrev pub Passes : {X Y : Type 0} → Result X ReadError → Result Y BsonFault → Type 0
Passes {Y = Y} (Ok x) read = (y : Y) × (read ≡ Ok y)
Passes (Err e) read = Fails e read

-- a function returned the bytes after the value that another one returned, or its fault
abbrev pub EndsAs : {X Y : Type 0} → (X → Tree × List ℕ) → Result X ReadError → (Y → List ℕ) → Result Y ReadError → Type 0
EndsAs view value rest ended = (read : Result (Tree × List ℕ) BsonFault) → Gives view value read → GivesPart rest (λ x. x.1) ended read

-- the outermost document at the front, as its length frames it, and its length
abbrev pub outermost_frame : Option ℕ → List ℕ → Result (Frame × ℕ) BsonFault
outermost_frame None bytes = Err Truncated
outermost_frame (Some n) bytes =
    if nat_lt n 5 then Err BadLength
    else if nat_lt 16777216 n then Err TooLarge
    else if nat_lt (length bytes) n then Err Truncated
    else Ok (frame_of n bytes, n)

unfoldable pub outermost_frame_at : List ℕ → Result (Frame × ℕ) BsonFault
outermost_frame_at bytes = outermost_frame (count_at bytes) bytes

-- the fault that a caller receives if reading stopped
abbrev pub public_fault : ReadError → BsonFault
public_fault errors.Memory = NoMemory
public_fault (errors.Fault f) = f
