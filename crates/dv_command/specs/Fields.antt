-- The fields of commands and of the entries of their lists: which are accepted, what their values must be, and how they are read. Names
-- and types are those of the MongoDB manual ("insert", "update", "delete", "find", "aggregate", "create", "drop"). Which fields are
-- accepted and which are ignored is this server's own.
use Rattle.std.specs.Prelude.{ℕ, ℤ, pos, negsuc, ◌||◌, Bool, true, false, List, [], ◌∷◌, Option, Some, None, Result, Ok, Err, codes, if◌then◌else◌, ⊤}
use Rattle.std.specs.Ordering.{int_eq}
use Rattle.std.specs.Str.{bytes_eq}
use Rattle.dv_value.specs.Tree.{Tree, int32, int64, string, document, array, boolean, no_fields, Elements, no_elements, element, Field, list_of_fields, list_of_elements}
use Rattle.dv_value.specs.Names.{value_under}
use Rattle.dv_command.specs.Kinds.{Kind, FieldPlace}
use Rattle.dv_command.specs.Kinds as kinds
use Rattle.dv_refusal.specs.declared.refusal.Refusal.{Refusal}
use Rattle.dv_refusal.specs.declared.refusal.Refusal.TheVariants.{BadValue, FailedToParse, TypeMismatch}
use Rattle.dv_value.specs.Results.{◌>>=◌, each}

-- ---- which fields are accepted

-- the accepted fields, each with the kind of its value
abbrev pub Table : Type 0
Table = List (List ℕ × Kind)

-- the fields that every command ignores, with any value
abbrev pub ignored_names : List (List ℕ)
ignored_names =
    codes "lsid" ∷ codes "$readPreference" ∷ codes "$clusterTime" ∷ codes "readConcern" ∷ codes "writeConcern" ∷ codes "comment"
    ∷ codes "maxTimeMS" ∷ codes "apiVersion" ∷ codes "apiStrict" ∷ codes "apiDeprecationErrors" ∷ codes "bypassDocumentValidation" ∷ []

-- whether the name is among these
abbrev pub is_listed_name : List ℕ → List (List ℕ) → Bool
is_listed_name name [] = false
is_listed_name name (n ∷ ns) = bytes_eq name n || is_listed_name name ns

-- whether a field is ignored; no field of an entry is
abbrev pub is_ignored : FieldPlace → List ℕ → Bool
is_ignored kinds.command name = is_listed_name name ignored_names
is_ignored kinds.entry name = false

-- the kind of value that a field must have, if the field is accepted
abbrev pub kind_in : Table → List ℕ → Option Kind
kind_in [] name = None
kind_in (f ∷ fs) name = if bytes_eq name f.0 then Some f.1 else kind_in fs name

-- ---- reading a value

-- a string; any other value is refused with 14
abbrev pub text_field : Tree → Result (List ℕ) Refusal
text_field (string s) = Ok s
text_field value = Err TypeMismatch

-- a boolean; any other value is refused with 14
abbrev pub boolean_in : Tree → Result Bool Refusal
boolean_in (boolean b) = Ok b
boolean_in value = Err TypeMismatch

-- a document; any other value is refused with 14
abbrev pub document_in : Tree → Result (List Field) Refusal
document_in (document fs) = Ok (list_of_fields fs)
document_in value = Err TypeMismatch

-- elements that are all documents
abbrev pub each_document : Elements → Result (List (List Field)) Refusal
each_document no_elements = Ok []
each_document (element (document fs) vs) = each_document vs >>= λ ds. Ok (list_of_fields fs ∷ ds)
each_document (element v vs) = Err TypeMismatch

-- an array of documents; any other value is refused with 14
abbrev pub documents_in : Tree → Result (List (List Field)) Refusal
documents_in (array vs) = each_document vs
documents_in value = Err TypeMismatch

-- an array; any other value is refused with 14
abbrev pub array_field : Tree → Result (List Tree) Refusal
array_field (array vs) = Ok (list_of_elements vs)
array_field value = Err TypeMismatch

-- an int32 or int64; any other value is refused with 14
abbrev pub integer_in : Tree → Result ℤ Refusal
integer_in (int32 n) = Ok n
integer_in (int64 n) = Ok n
integer_in value = Err TypeMismatch

-- an array of int32 and int64
abbrev pub integers_in : Tree → Result (List ℤ) Refusal
integers_in value = array_field value >>= each integer_in

-- the number, if it isn't negative; otherwise refused with 2
abbrev pub not_negative : ℤ → Result ℕ Refusal
not_negative (pos n) = Ok n
not_negative (negsuc n) = Err BadValue

-- an int32 or int64 that isn't negative
abbrev pub natural_in : Tree → Result ℕ Refusal
natural_in value = integer_in value >>= not_negative

-- whether a delete's limit is 1 (only the first match) or 0 (all); any other number is refused with 2
abbrev pub one_or_all : ℤ → Result Bool Refusal
one_or_all n = if int_eq n (pos 1) then Ok true else if int_eq n (pos 0) then Ok false else Err BadValue

-- whether a value is the limit 1 or 0
abbrev pub only_first_in : Tree → Result Bool Refusal
only_first_in value = integer_in value >>= one_or_all

-- the document of an update; an array is refused with 9, any other value with 14
abbrev pub update_in : Tree → Result (List Field) Refusal
update_in (document fs) = Ok (list_of_fields fs)
update_in (array vs) = Err FailedToParse
update_in value = Err TypeMismatch

-- ---- checking fields

-- whether the value can be read, or its refusal
abbrev pub check_read : {A : Type 0} → Result A Refusal → Result ⊤ Refusal
check_read reading = reading >>= λ _. Ok tt

-- checks that a document is empty; any other value is refused with 9
abbrev pub check_empty : Tree → Result ⊤ Refusal
check_empty (document no_fields) = Ok tt
check_empty value = Err FailedToParse

-- checks that there is no field
abbrev pub check_none : List Field → Result ⊤ Refusal
check_none [] = Ok tt
check_none (f ∷ fs) = Err FailedToParse

-- checks that there is at most one field
abbrev pub check_single : List Field → Result ⊤ Refusal
check_single [] = Ok tt
check_single (f ∷ fs) = check_none fs

-- checks that the field is `batchSize` and its value is a number that isn't negative
abbrev pub check_batch_size : Field → Result ⊤ Refusal
check_batch_size f = if bytes_eq f.0 (codes "batchSize") then check_read (natural_in f.1) else Err FailedToParse

-- checks the options of an aggregate's cursor: at most the field `batchSize`
abbrev pub check_cursor : List Field → Result ⊤ Refusal
check_cursor [] = Ok tt
check_cursor (f ∷ fs) = check_batch_size f >>= λ _. check_none fs

-- checks that a boolean is false
abbrev pub check_false : Bool → Result ⊤ Refusal
check_false b = if b then Err FailedToParse else Ok tt

-- checks that a value is of this kind
abbrev pub check_value : Kind → Tree → Result ⊤ Refusal
check_value kinds.anything value = Ok tt
check_value kinds.text value = check_read (text_field value)
check_value kinds.boolean value = check_read (boolean_in value)
check_value kinds.document value = check_read (document_in value)
check_value kinds.documents value = check_read (documents_in value)
check_value kinds.array value = check_read (array_field value)
check_value kinds.integer value = check_read (integer_in value)
check_value kinds.integers value = check_read (integers_in value)
check_value kinds.natural value = check_read (natural_in value)
check_value kinds.how_many value = check_read (only_first_in value)
check_value kinds.update value = check_read (update_in value)
check_value kinds.only_false value = boolean_in value >>= check_false
check_value kinds.empty_document value = check_empty value
check_value kinds.single value = document_in value >>= check_single
check_value kinds.cursor value = document_in value >>= check_cursor

-- checks the value of a field that the table has; any other field is refused with 9
abbrev pub check_known : Option Kind → Tree → Result ⊤ Refusal
check_known None value = Err FailedToParse
check_known (Some kind) value = check_value kind value

-- checks a field, unless it is ignored
abbrev pub check_field : FieldPlace → Table → Field → Result ⊤ Refusal
check_field place table f = if is_ignored place f.0 then Ok tt else check_known (kind_in table f.0) f.1

-- checks the fields in written order: the first that is unknown or whose value is of another kind is refused
abbrev pub check_fields : FieldPlace → Table → List Field → Result ⊤ Refusal
check_fields place table [] = Ok tt
check_fields place table (f ∷ fs) = check_field place table f >>= λ _. check_fields place table fs

-- ---- reading fields

-- the name of the first field; empty if there is none
abbrev pub first_name : List Field → List ℕ
first_name [] = []
first_name (f ∷ fs) = f.0

-- reads a required field; without it, the command is refused with 9
abbrev pub required : {A : Type 0} → (Tree → Result A Refusal) → Option Tree → Result A Refusal
required read None = Err FailedToParse
required read (Some value) = read value

-- reads an optional field; without it, the default
abbrev pub optional : {A : Type 0} → A → (Tree → Result A Refusal) → Option Tree → Result A Refusal
optional default read None = Ok default
optional default read (Some value) = read value

-- the string in a required field
abbrev pub text_under : List ℕ → List Field → Result (List ℕ) Refusal
text_under name fields = required text_field (value_under name fields)

-- the boolean in an optional field
abbrev pub boolean_under : List ℕ → Bool → List Field → Result Bool Refusal
boolean_under name default fields = optional default boolean_in (value_under name fields)

-- the number in an optional field
abbrev pub natural_under : List ℕ → ℕ → List Field → Result ℕ Refusal
natural_under name default fields = optional default natural_in (value_under name fields)

-- the integer in a required field
abbrev pub integer_under : List ℕ → List Field → Result ℤ Refusal
integer_under name fields = required integer_in (value_under name fields)

-- the document in a required field
abbrev pub document_under : List ℕ → List Field → Result (List Field) Refusal
document_under name fields = required document_in (value_under name fields)

-- the document in an optional field; the empty document without it
abbrev pub document_or_none : List ℕ → List Field → Result (List Field) Refusal
document_or_none name fields = optional [] document_in (value_under name fields)

-- the documents in a required field
abbrev pub documents_under : List ℕ → List Field → Result (List (List Field)) Refusal
documents_under name fields = required documents_in (value_under name fields)

-- the values of the array in a required field
abbrev pub array_under : List ℕ → List Field → Result (List Tree) Refusal
array_under name fields = required array_field (value_under name fields)

-- the integers in a required field
abbrev pub integers_under : List ℕ → List Field → Result (List ℤ) Refusal
integers_under name fields = array_under name fields >>= each integer_in

-- the limit of a delete's entry, which is required: whether it is 1
abbrev pub only_first_under : List ℕ → List Field → Result Bool Refusal
only_first_under name fields = required only_first_in (value_under name fields)

-- the update of an update's entry, which is required
abbrev pub update_under : List ℕ → List Field → Result (List Field) Refusal
update_under name fields = required update_in (value_under name fields)
