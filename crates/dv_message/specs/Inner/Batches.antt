-- The reply with a batch of rows, part by part, as its bytes are appended.
use Rattle.std.specs.Prelude.{ℕ, List, ◌∷◌, ◌++◌, decimal, map}
use Rattle.std.specs.Int.{w64, to_le_bytes}
use Rattle.dv_value.specs.declared.kind.Kind.TheVariants as kinds
use Rattle.dv_value.specs.Spelling.{counted, element_spelling, elements_spelling, spelling}
use Rattle.dv_value.specs.Tree.{Field, elements_of}
use Rattle.dv_command.specs.Replies.{batch_reply, cursor_of, document_of}

-- a row in an array, after the number of its place
unfoldable pub row_spelling : ℕ → List Field → List ℕ
row_spelling place row = element_spelling kinds.Doc (decimal place) (spelling row)

-- rows in an array, numbered from a place on
unfoldable pub rows_spelling : ℕ → List (List Field) → List ℕ
rows_spelling place rows = elements_spelling place (elements_of (map document_of rows))

-- what follows a cursor's rows: its id, and its namespace
unfoldable pub id_spelling : ℕ → List ℕ → List ℕ
id_spelling id namespace = 18 ∷ 105 ∷ 100 ∷ 0 ∷ (to_le_bytes w64 id ++ 2 ∷ 110 ∷ 115 ∷ 0 ∷ counted namespace)

-- a cursor, with rows under the name of a batch
unfoldable pub cursor_spelling : List ℕ → List ℕ → ℕ → List (List Field) → List ℕ
cursor_spelling name namespace id rows = spelling (cursor_of name namespace id (map document_of rows))

-- the reply with the cursor
unfoldable pub batch_spelling : List ℕ → List ℕ → ℕ → List (List Field) → List ℕ
batch_spelling name namespace id rows = spelling (batch_reply name namespace id (map document_of rows))
