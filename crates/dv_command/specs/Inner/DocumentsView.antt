-- The documents and the integers among values, and how documents that are still to be returned are represented in memory.
use Rattle.std.specs.Prelude.{Bool, true, false, List, [], ◌∷◌, ⊤}
use Rattle.dv_value.specs.Tree.{Field}
use Rattle.dv_value.specs.declared.value.Value.{Value}
use Rattle.dv_value.specs.declared.value.Value.TheVariants.{Doc, Int32, Int64}
use Rattle.dv_command.specs.declared.documents.DocumentPlace.{DocumentPlace}
use Rattle.dv_command.specs.declared.documents.DocumentPlace.TheVariants.{Array, Beside}

abbrev pub is_document : Value → Bool
is_document (Doc d) = true
is_document v = false

abbrev pub AreDocuments : List Value → Type 0
AreDocuments [] = ⊤
AreDocuments (Doc d ∷ vs) = AreDocuments vs
AreDocuments (v ∷ vs) = ⊥

abbrev pub documents_seen : List Value → List (List Field)
documents_seen [] = []
documents_seen (Doc d ∷ vs) = d ∷ documents_seen vs
documents_seen (v ∷ vs) = documents_seen vs

-- the documents of an array, or of a list next to a body
abbrev pub source_seen : DocumentPlace → List (List Field)
source_seen (Array values) = documents_seen values.now
source_seen (Beside documents) = documents.now

-- an array has no other values
abbrev pub IsOfDocuments : DocumentPlace → Type 0
IsOfDocuments (Array values) = AreDocuments values.now
IsOfDocuments (Beside documents) = ⊤

abbrev pub is_integer : Value → Bool
is_integer (Int32 n) = true
is_integer (Int64 n) = true
is_integer v = false
