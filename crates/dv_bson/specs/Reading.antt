-- How bytes are read as a document (bsonspec.org, "Specification Version 1.1"): the document at the start of the bytes, or the first
-- fault from left to right.
use Rattle.std.specs.Prelude.{◌≡◌, ℕ, ℤ, zero, suc, ◌+◌, ◌-◌, Bool, true, false, ◌||◌, List, [], ◌∷◌, ◌++◌, length, take, drop, map, slice_index, Option, Some, None, Result, Ok, Err, nat_lt, ◌==◌, if◌then◌else◌, decimal}
use Rattle.std.specs.Int.{Width, w32, w64, byte_len, from_le_bytes, cast_signed}
use Rattle.std.specs.Str.{bytes_eq, is_utf8}
use Rattle.dv_value.specs.Results.{◌>>=◌}
use Rattle.dv_value.specs.declared.kind.Kind.{Kind}
use Rattle.dv_value.specs.declared.kind.Kind.TheVariants as kinds
use Rattle.dv_value.specs.declared.fault.BsonFault.{BsonFault}
use Rattle.dv_value.specs.declared.fault.BsonFault.TheVariants.{Truncated, BadLength, RefusedType, BadUtf8, BadBool, BadArrayName, RepeatedName, TooDeep, TooLarge}
use Rattle.dv_bson.specs.declared.fault.ReadError.{ReadError}
use Rattle.dv_bson.specs.declared.fault.ReadError.TheVariants as errors
use Rattle.dv_value.specs.Tree.{Tree, int32, int64, string, document, array, boolean, binary, object_id, date, null, timestamp, min_key, max_key, Field, fields_of, elements_of}
use Rattle.dv_value.specs.Names.{has_name}
use Rattle.dv_value.specs.Spelling.{Fits, Spells}

-- the call failed with the defined fault, or ran out of memory
abbrev pub Fails : {Y : Type 0} → ReadError → Result Y BsonFault → Type 0
Fails errors.Memory read = Unit {0}
Fails (errors.Fault f) read = read ≡ Err f

-- the call returned the defined result, or ran out of memory; `view` says what a value in memory represents
abbrev pub Gives : {X Y : Type 0} → (X → Y) → Result X ReadError → Result Y BsonFault → Type 0
Gives view (Ok x) read = read ≡ Ok (view x)
Gives view (Err e) read = Fails e read

-- The int32 at the start, as a count; none if there are fewer than four bytes. A negative number gives 0, which is too small for a string
-- and for a document. The count of a binary, which may be 0, is read apart.
unfoldable pub count_at : List ℕ → Option ℕ
count_at bytes =
    if nat_lt (length bytes) 4 then None
    else if nat_lt (from_le_bytes w32 (take 4 bytes)) 2147483648 then Some (from_le_bytes w32 (take 4 bytes)) else Some 0

-- the type with this type byte, if any
unfoldable pub kind_of_byte : ℕ → Option Kind
kind_of_byte b =
    if b == 0x02 then Some kinds.Text
    else if b == 0x03 then Some kinds.Doc
    else if b == 0x04 then Some kinds.Array
    else if b == 0x05 then Some kinds.Binary
    else if b == 0x07 then Some kinds.ObjectId
    else if b == 0x08 then Some kinds.Bool
    else if b == 0x09 then Some kinds.Date
    else if b == 0x0A then Some kinds.Null
    else if b == 0x10 then Some kinds.Int32
    else if b == 0x11 then Some kinds.Timestamp
    else if b == 0x12 then Some kinds.Int64
    else if b == 0x7F then Some kinds.MaxKey
    else if b == 0xFF then Some kinds.MinKey
    else None

-- the type, or the fault `RefusedType` with the type byte and its offset
abbrev pub kind_or_refused : ℕ → ℕ → Option Kind → Result Kind BsonFault
kind_or_refused b at None = Err (RefusedType b at)
kind_or_refused b at (Some kind) = Ok kind

-- the type of an element by its type byte; a zero here would end the document before its last byte, and is refused
unfoldable pub kind_at : ℕ → ℕ → Result Kind BsonFault
kind_at b at = if b == 0 then Err BadLength else kind_or_refused b at (kind_of_byte b)

-- the bytes before and after a zero byte, with one more byte in front
abbrev pub onto_name : ℕ → Option (List ℕ × List ℕ) → Option (List ℕ × List ℕ)
onto_name b None = None
onto_name b (Some cut) = Some (b ∷ cut.0, cut.1)

-- the bytes before the first zero byte and those after it, if there is a zero
unfoldable pub cut_at_zero : List ℕ → Option (List ℕ × List ℕ)
cut_at_zero [] = None
cut_at_zero (b ∷ bytes) = if b == 0 then Some ([], bytes) else onto_name b (cut_at_zero bytes)

-- the element's name and the bytes after it, if the name is UTF-8 and fits: in an array it must be the element's index as a decimal
-- number, in a document it must be new
abbrev pub checked_name : Bool → List Field → List ℕ → List ℕ → Result (List ℕ × List ℕ) BsonFault
checked_name in_array seen name rest =
    if is_utf8 name
    then (if in_array
    then (if bytes_eq name (decimal (length seen)) then Ok (name, rest) else Err BadArrayName)
    else (if has_name name seen then Err RepeatedName else Ok (name, rest)))
    else Err BadUtf8

-- the element's name and the bytes after it, from the bytes before and after a zero byte; refused if there is no zero byte
abbrev pub named_by : Bool → List Field → Option (List ℕ × List ℕ) → Result (List ℕ × List ℕ) BsonFault
named_by in_array seen None = Err BadLength
named_by in_array seen (Some cut) = checked_name in_array seen cut.0 cut.1

-- the element's name and the bytes after it, or the fault
unfoldable pub name_at : Bool → List Field → List ℕ → Result (List ℕ × List ℕ) BsonFault
name_at in_array seen bytes = named_by in_array seen (cut_at_zero bytes)

-- A string after its count, and the bytes after it. The count includes the closing zero byte. The count and that byte are checked
-- before UTF-8.
abbrev pub counted_at : Option ℕ → List ℕ → Result (List ℕ × List ℕ) BsonFault
counted_at None bytes = Err BadLength
counted_at (Some n) bytes =
    if nat_lt n 1 || nat_lt (length bytes) n then Err BadLength
    else if slice_index bytes (n - 1) == 0
    then (if is_utf8 (take (n - 1) bytes) then Ok (take (n - 1) bytes, drop n bytes) else Err BadUtf8)
    else Err BadLength

-- a string and the bytes after it
unfoldable pub text_at : List ℕ → Result (List ℕ × List ℕ) BsonFault
text_at bytes = counted_at (count_at bytes) (drop 4 bytes)

-- the parts of a document in the bytes: the bytes of its elements, its last byte, and the bytes after it
pub record Frame : Type 0 where
  pub elements : List ℕ
  pub last : ℕ
  pub rest : List ℕ

-- the parts of a document of n bytes
abbrev pub frame_of : ℕ → List ℕ → Frame
frame_of n bytes = record { elements = take (n - 5) (drop 4 bytes); last = slice_index bytes (n - 1); rest = drop n bytes }

-- the parts of a document of this length, if it is at least 5 and there are as many bytes
abbrev pub framed_at : Option ℕ → List ℕ → Result Frame BsonFault
framed_at None bytes = Err BadLength
framed_at (Some n) bytes = if nat_lt n 5 || nat_lt (length bytes) n then Err BadLength else Ok (frame_of n bytes)

-- the parts of the nested document or array at the start of the bytes
unfoldable pub frame_at : List ℕ → Result Frame BsonFault
frame_at bytes = framed_at (count_at bytes) bytes

-- how to read the elements of a document or array, given whether it is an array, the offset of its first element in the outermost
-- document, the bytes of its elements, and its last byte
abbrev pub Inside : Type 0
Inside = Bool → ℕ → List ℕ → ℕ → Result (List Field) BsonFault

-- a boolean, which is the byte 0 or 1, and the bytes after it
abbrev pub boolean_at : List ℕ → Result (Tree × List ℕ) BsonFault
boolean_at [] = Err BadLength
boolean_at (b ∷ rest) = if b == 0 then Ok (boolean false, rest) else if b == 1 then Ok (boolean true, rest) else Err BadBool

-- a value made of the first n bytes, and the bytes after them
abbrev pub first_bytes : ℕ → (List ℕ → Tree) → List ℕ → Result (Tree × List ℕ) BsonFault
first_bytes n made bytes = if nat_lt (length bytes) n then Err BadLength else Ok (made (take n bytes), drop n bytes)

-- a value made of a signed little-endian integer of this width, and the bytes after it
abbrev pub signed_at : Width → (ℤ → Tree) → List ℕ → Result (Tree × List ℕ) BsonFault
signed_at w made bytes = first_bytes (byte_len w) (λ front. made (cast_signed w (from_le_bytes w front))) bytes

-- binary data after its count n: the subtype, then n bytes of any content; and the bytes after it
abbrev pub tagged_at : ℕ → List ℕ → Result (Tree × List ℕ) BsonFault
tagged_at n [] = Err BadLength
tagged_at n (subtype ∷ bytes) = if nat_lt 2147483647 n || nat_lt (length bytes) n then Err BadLength else Ok (binary subtype (take n bytes), drop n bytes)

-- binary data (the count as an int32, without the subtype; the subtype; the bytes) and the bytes after it
unfoldable pub binary_at : List ℕ → Result (Tree × List ℕ) BsonFault
binary_at bytes = if nat_lt (length bytes) 4 then Err BadLength else tagged_at (from_le_bytes w32 (take 4 bytes)) (drop 4 bytes)

-- a value of this type at this offset, and the bytes after it; `inside` reads the elements of a nested document or array
unfoldable pub value_at : Inside → Kind → ℕ → List ℕ → Result (Tree × List ℕ) BsonFault
value_at inside kinds.Text at bytes = do
  text ← text_at bytes
  Ok (string text.0, text.1)
value_at inside kinds.Doc at bytes = do
  frame ← frame_at bytes
  fields ← inside false (at + 4) frame.elements frame.last
  Ok (document (fields_of fields), frame.rest)
value_at inside kinds.Array at bytes = do
  frame ← frame_at bytes
  fields ← inside true (at + 4) frame.elements frame.last
  Ok (array (elements_of (map (λ f. f.1) fields)), frame.rest)
value_at inside kinds.Binary at bytes = binary_at bytes
value_at inside kinds.ObjectId at bytes = first_bytes 12 object_id bytes
value_at inside kinds.Bool at bytes = boolean_at bytes
value_at inside kinds.Date at bytes = signed_at w64 date bytes
value_at inside kinds.Null at bytes = Ok (null, bytes)
value_at inside kinds.Int32 at bytes = signed_at w32 int32 bytes
value_at inside kinds.Timestamp at bytes = first_bytes 8 (λ front. timestamp (from_le_bytes w64 front)) bytes
value_at inside kinds.Int64 at bytes = signed_at w64 int64 bytes
value_at inside kinds.MinKey at bytes = Ok (min_key, bytes)
value_at inside kinds.MaxKey at bytes = Ok (max_key, bytes)

-- The end of a document: after its elements the last byte must be zero. Any other byte is first checked as a type byte, and then
-- refused, since no name follows it.
abbrev pub closed_by : ℕ → ℕ → List Field → Result (List Field) BsonFault
closed_by last at seen = if last == 0 then Ok seen else (kind_at last at >>= λ kind. Err BadLength)

-- The elements after those read so far, up to the last byte. Each element takes at least one byte, so the number of bytes is enough as
-- a limit of the steps.
unfoldable pub fields_at : Inside → ℕ → Bool → ℕ → List Field → List ℕ → ℕ → Result (List Field) BsonFault
fields_at inside steps in_array at seen [] last = closed_by last at seen
fields_at inside zero in_array at seen (b ∷ bytes) last = Err BadLength
fields_at inside (suc steps) in_array at seen (b ∷ bytes) last = do
  kind ← kind_at b at
  name ← name_at in_array seen bytes
  value ← value_at inside kind (at + (suc (length bytes) - length name.1)) name.1
  fields_at inside steps in_array (at + (suc (length bytes) - length value.1)) (seen ++ (name.0, value.0) ∷ []) value.1 last

-- the elements of a document or array with at most this many nesting levels, its own included
unfoldable pub body_at : ℕ → Inside
body_at zero in_array at bytes last = Err TooDeep
body_at (suc levels) in_array at bytes last = fields_at (body_at levels) (length bytes) in_array at [] bytes last

-- the outermost document by its length: a length below 5 is refused first, then one over 16,777,216, then missing bytes, then its
-- elements
abbrev pub outermost_of : Option ℕ → List ℕ → Result (List Field × ℕ) BsonFault
outermost_of None bytes = Err Truncated
outermost_of (Some n) bytes =
    if nat_lt n 5 then Err BadLength
    else if nat_lt 16777216 n then Err TooLarge
    else if nat_lt (length bytes) n then Err Truncated
    else (body_at 100 false 4 (frame_of n bytes).elements (frame_of n bytes).last >>= λ fields. Ok (fields, n))

-- the document at the start of the bytes and its length, or the first fault
unfoldable pub document_at : List ℕ → Result (List Field × ℕ) BsonFault
document_at bytes = outermost_of (count_at bytes) bytes

-- the fault of a result, if any
abbrev pub fault_of : {A : Type 0} → Result A BsonFault → Option BsonFault
fault_of (Ok x) = None
fault_of (Err f) = Some f

-- the first fault, if the bytes don't begin with a document within the limits
unfoldable pub first_fault : List ℕ → Option BsonFault
first_fault bytes = fault_of (document_at bytes)

-- this holds of each document within the limits with whose encoding the bytes begin, and of that encoding
abbrev pub EachSpelled : List ℕ → (List Field → List ℕ → Type 0) → Type 0
EachSpelled bytes IsSo = (d : List Field) (spelled rest : List ℕ) → Spells d spelled → Fits d → bytes ≡ spelled ++ rest → IsSo d spelled
