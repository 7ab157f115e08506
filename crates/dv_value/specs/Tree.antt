-- BSON values and documents as mathematical values, in the terms of the BSON specification (bsonspec.org, version 1.1).
use Rattle.std.specs.Prelude.{ℕ, ℤ, Bool, List, [], ◌∷◌}

-- a value; the fields of a document; the elements of an array
mutual
  pub data Tree : Type 0 where
    int32 : ℤ → Tree
    int64 : ℤ → Tree
    string : List ℕ → Tree
    document : Fields → Tree
    array : Elements → Tree
    boolean : Bool → Tree
    -- the subtype and the bytes
    binary : ℕ → List ℕ → Tree
    -- the twelve bytes
    object_id : List ℕ → Tree
    -- milliseconds since the Unix epoch
    date : ℤ → Tree
    null : Tree
    timestamp : ℕ → Tree
    min_key : Tree
    max_key : Tree

  pub data Fields : Type 0 where
    no_fields : Fields
    field : List ℕ → Tree → Fields → Fields

  pub data Elements : Type 0 where
    no_elements : Elements
    element : Tree → Elements → Elements

-- a name in UTF-8, with its value
abbrev pub Field : Type 0
Field = List ℕ × Tree

-- a list of fields, as the fields of a document
abbrev pub fields_of : List Field → Fields
fields_of [] = no_fields
fields_of (f ∷ fs) = field f.0 f.1 (fields_of fs)

-- the fields of a document, as a list
abbrev pub list_of_fields : Fields → List Field
list_of_fields no_fields = []
list_of_fields (field name value fs) = (name, value) ∷ list_of_fields fs

-- a list of values, as the elements of an array
abbrev pub elements_of : List Tree → Elements
elements_of [] = no_elements
elements_of (v ∷ vs) = element v (elements_of vs)

-- the elements of an array, as a list
abbrev pub list_of_elements : Elements → List Tree
list_of_elements no_elements = []
list_of_elements (element v vs) = v ∷ list_of_elements vs
