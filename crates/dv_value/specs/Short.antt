-- Short notation for values and documents, for examples.
use Rattle.std.specs.Prelude.{ℕ, pos, List, [], ◌∷◌}
use Rattle.dv_value.specs.Tree.{Tree, int32, int64, string, document, array, Field, fields_of, elements_of}

-- an int32
abbrev pub int : ℕ → Tree
int n = int32 (pos n)

-- an int64
abbrev pub long : ℕ → Tree
long n = int64 (pos n)

-- a string
abbrev pub text : List ℕ → Tree
text bytes = string bytes

-- a document
abbrev pub doc : List Field → Tree
doc fields = document (fields_of fields)

-- an array
abbrev pub list : List Tree → Tree
list vs = array (elements_of vs)

-- the fields of a document with one field
abbrev pub one : List ℕ → Tree → List Field
one name v = (name, v) ∷ []
