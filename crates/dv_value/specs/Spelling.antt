-- The encoding of a document as bytes, by the grammar of BSON 1.1 (bsonspec.org, "Specification Version 1.1").
use Rattle.std.specs.Prelude.{◌≡◌, ℕ, suc, ◌+◌, ◌^◌, ◌<◌, ◌≤◌, max, false, List, [], ◌∷◌, ◌++◌, length, get_or, FitsSigned, decimal, ⊤}
use Rattle.std.specs.Int.{w32, w64, to_le_bytes, cast_unsigned, from_bool}
use Rattle.std.specs.Str.{IsUtf8}
use Rattle.dv_value.specs.declared.kind.Kind.{Kind}
use Rattle.dv_value.specs.declared.kind.Kind.TheVariants as kinds
use Rattle.dv_value.specs.Tree.{Tree, int32, int64, string, document, array, boolean, binary, object_id, date, null, timestamp, min_key, max_key, Fields, no_fields, field, Elements, no_elements, element, Field, fields_of, list_of_fields}
use Rattle.dv_value.specs.Names.{has_name, has_zero}

-- the type byte, which precedes a field's name in the encoding and gives the type of its value
abbrev pub type_byte : Kind → ℕ
type_byte kinds.Text = 0x02
type_byte kinds.Doc = 0x03
type_byte kinds.Array = 0x04
type_byte kinds.Binary = 0x05
type_byte kinds.ObjectId = 0x07
type_byte kinds.Bool = 0x08
type_byte kinds.Date = 0x09
type_byte kinds.Null = 0x0A
type_byte kinds.Int32 = 0x10
type_byte kinds.Timestamp = 0x11
type_byte kinds.Int64 = 0x12
type_byte kinds.MinKey = 0xFF
type_byte kinds.MaxKey = 0x7F

-- the type of a value
abbrev pub kind_of : Tree → Kind
kind_of (string s) = kinds.Text
kind_of (document fs) = kinds.Doc
kind_of (array vs) = kinds.Array
kind_of (binary subtype bytes) = kinds.Binary
kind_of (object_id id) = kinds.ObjectId
kind_of (boolean b) = kinds.Bool
kind_of (date n) = kinds.Date
kind_of null = kinds.Null
kind_of (timestamp n) = kinds.Timestamp
kind_of (int32 n) = kinds.Int32
kind_of (int64 n) = kinds.Int64
kind_of min_key = kinds.MinKey
kind_of max_key = kinds.MaxKey

-- encoded elements as a document: the total length as an int32; the elements; a zero byte
unfoldable pub framed : List ℕ → List ℕ
framed elements = to_le_bytes w32 (length elements + 5) ++ (elements ++ 0 ∷ [])

-- an encoded string: the number of its bytes, with the closing zero, as an int32; the bytes; a zero byte
unfoldable pub counted : List ℕ → List ℕ
counted text = to_le_bytes w32 (length text + 1) ++ (text ++ 0 ∷ [])

-- encoded binary data: the number of bytes, without the subtype, as an int32; the subtype; the bytes
unfoldable pub tagged : ℕ → List ℕ → List ℕ
tagged subtype bytes = to_le_bytes w32 (length bytes) ++ subtype ∷ bytes

-- an encoded element: the type byte; the name and a zero byte; the encoding of the value
unfoldable pub element_spelling : Kind → List ℕ → List ℕ → List ℕ
element_spelling kind name value = type_byte kind ∷ (name ++ 0 ∷ value)

-- the encodings of a value, without its type and name, of the elements of a document, and of the elements of an array from index i
unfoldable mutual
  pub payload : Tree → List ℕ
  payload (string s) = counted s
  payload (document fs) = framed (fields_spelling fs)
  payload (array vs) = framed (elements_spelling 0 vs)
  payload (binary subtype bytes) = tagged subtype bytes
  payload (object_id id) = id
  payload (boolean b) = from_bool b ∷ []
  payload (date n) = to_le_bytes w64 (cast_unsigned w64 n)
  payload null = []
  payload (timestamp n) = to_le_bytes w64 n
  payload (int32 n) = to_le_bytes w32 (cast_unsigned w32 n)
  payload (int64 n) = to_le_bytes w64 (cast_unsigned w64 n)
  payload min_key = []
  payload max_key = []

  pub fields_spelling : Fields → List ℕ
  fields_spelling no_fields = []
  fields_spelling (field name value fs) = element_spelling (kind_of value) name (payload value) ++ fields_spelling fs

  -- an array is encoded as a document whose names are the decimal numbers from 0, in order
  pub elements_spelling : ℕ → Elements → List ℕ
  elements_spelling i no_elements = []
  elements_spelling i (element v vs) = element_spelling (kind_of v) (decimal i) (payload v) ++ elements_spelling (suc i) vs

-- each number is a byte, that is, below 256
abbrev pub IsBytes : List ℕ → Type 0
IsBytes bytes = (i : ℕ) → get_or bytes i 0 < 256

-- a valid value: integers are within their width, bytes are below 256, an ObjectId has twelve bytes, strings and names are UTF-8, and
-- the names of each document are distinct and contain no zero byte
abbrev mutual
  pub IsValue : Tree → Type 0
  IsValue (string s) = IsUtf8 s
  IsValue (document fs) = AreFields fs
  IsValue (array vs) = AreElements vs
  IsValue (binary subtype bytes) = (subtype < 256) × IsBytes bytes
  IsValue (object_id id) = (length id ≡ 12) × IsBytes id
  IsValue (boolean b) = ⊤
  IsValue (date n) = FitsSigned w64 n
  IsValue null = ⊤
  IsValue (timestamp n) = n < 2 ^ 64
  IsValue (int32 n) = FitsSigned w32 n
  IsValue (int64 n) = FitsSigned w64 n
  IsValue min_key = ⊤
  IsValue max_key = ⊤

  pub AreFields : Fields → Type 0
  AreFields no_fields = ⊤
  AreFields (field name value fs) = IsUtf8 name × (has_zero name ≡ false) × (has_name name (list_of_fields fs) ≡ false) × IsValue value × AreFields fs

  pub AreElements : Elements → Type 0
  AreElements no_elements = ⊤
  AreElements (element v vs) = IsValue v × AreElements vs

-- the number of nesting levels: 0 for a simple value; a document or array counts 1 more than its deepest member
abbrev mutual
  pub levels : Tree → ℕ
  levels (string s) = 0
  levels (document fs) = suc (fields_levels fs)
  levels (array vs) = suc (elements_levels vs)
  levels (binary subtype bytes) = 0
  levels (object_id id) = 0
  levels (boolean b) = 0
  levels (date n) = 0
  levels null = 0
  levels (timestamp n) = 0
  levels (int32 n) = 0
  levels (int64 n) = 0
  levels min_key = 0
  levels max_key = 0

  pub fields_levels : Fields → ℕ
  fields_levels no_fields = 0
  fields_levels (field name value fs) = max (levels value) (fields_levels fs)

  pub elements_levels : Elements → ℕ
  elements_levels no_elements = 0
  elements_levels (element v vs) = max (levels v) (elements_levels vs)

-- the encoding of a document
abbrev pub spelling : List Field → List ℕ
spelling d = payload (document (fields_of d))

-- the bytes are the encoding of the document, which is valid; its length is an int32, so it has at most 2,147,483,647 bytes
pub record Spells (d : List Field) (bytes : List ℕ) : Type 0 where
  pub valid : AreFields (fields_of d)
  pub whole : bytes ≡ spelling d
  pub within : length bytes ≤ 2147483647

-- the document is within the limits for stored documents: 16,777,216 bytes and 100 nesting levels
pub record Fits (d : List Field) : Type 0 where
  pub size : length (spelling d) ≤ 16777216
  pub depth : levels (document (fields_of d)) ≤ 100
