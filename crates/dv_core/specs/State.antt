-- The state of the store: collections, views and their marks, and the cursors of all sessions.
use Rattle.std.specs.Prelude.{◌≡◌, ℕ, List, []}
use Rattle.dv_catalog.specs.Marks.{Marks, Marked}
use Rattle.dv_catalog.specs.State as stored
use Rattle.dv_cursor.specs.Cursors.{Cursors, no_cursors}

-- the state: the collections and views, the cursors, and the marks of the views
pub record State : Type 0 where
  pub catalog : stored.State
  pub cursors : Cursors
  -- the marks of the views, in the order of creation
  pub marks : Marks

-- an empty store
abbrev pub empty_store_state : State
empty_store_state = record { catalog = stored.empty_state; cursors = no_cursors; marks = [] }

-- the collections and views, with the views' marks
abbrev pub marked : State → Marked
marked state = record { state = state.catalog; marks = state.marks }

-- the state with these marks
abbrev pub standing : Marks → State → State
standing marks state = record state { marks = marks }

-- a namespace has the same documents in both states
abbrev pub HasSameDocuments : List ℕ → State → State → Type 0
HasSameDocuments namespace old new = stored.documents_of namespace new.catalog.namespaces ≡ stored.documents_of namespace old.catalog.namespaces
