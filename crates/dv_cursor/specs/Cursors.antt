-- Cursors, which return the rows of a find or an aggregate batch by batch (MongoDB manual, "find", "getMore", "killCursors",
-- "Cursors"). That a cursor belongs to one session, the ids, and the greatest number of cursors are this server's own.
use Rattle.std.specs.Prelude.{ℕ, ◌+◌, ◌^◌, ◌&&◌, ◌==◌, not, List, [], ◌∷◌, drop, Option, Some, None, nat_lt, if◌then◌else◌}
use Rattle.std.specs.FinMap as finite
use Rattle.std.specs.Ordering.{nat_cmp, ordering_then}
use Rattle.std.specs.Str.{bytes_eq}
use Rattle.std.specs.declared.cmp.Ordering.{Ordering}
use Rattle.dv_value.specs.Tree.{Field}

-- the namespace of a cursor, and its rows that were not yet returned
pub record Cursor : Type 0 where
  pub namespace : List ℕ
  pub rows : List (List Field)

-- what identifies a cursor: its session and its id
abbrev pub CursorPlace : Type 0
CursorPlace = ℕ × ℕ

-- the order of cursors: by session, then by id
abbrev pub place_cmp : CursorPlace → CursorPlace → Ordering
place_cmp p q = ordering_then (nat_cmp p.0 q.0) (nat_cmp p.1 q.1)

-- the open cursors, and the next id
pub record Cursors : Type 0 where
  pub kept : finite.FinMap place_cmp Cursor
  pub next : ℕ

-- no cursors; the first id is 1, since in a reply 0 means that there is no cursor
abbrev pub no_cursors : Cursors
no_cursors = record { kept = finite.empty; next = 1 }

-- the greatest number of open cursors
abbrev pub cursor_limit : ℕ
cursor_limit = 1000

-- the id for a new cursor; none if 1,000 are open or the ids are used up
abbrev pub free_id : Cursors → Option ℕ
free_id cursors = if nat_lt (finite.len cursors.kept) cursor_limit && nat_lt cursors.next (2 ^ 63) then Some cursors.next else None

-- the cursors with a new one over these rows, under the next id
abbrev pub added : ℕ → List ℕ → List (List Field) → Cursors → Cursors
added session namespace rows cursors =
    record { kept = finite.insert cursors.kept (session, cursors.next) (record { namespace = namespace; rows = rows }); next = cursors.next + 1 }

-- the rows of a cursor, if it exists and is over this namespace
abbrev pub cursor_rows : List ℕ → Option Cursor → Option (List (List Field))
cursor_rows namespace None = None
cursor_rows namespace (Some cursor) = if bytes_eq namespace cursor.namespace then Some cursor.rows else None

-- the rows not yet returned by the cursor of a session with this namespace and id, if there is one
abbrev pub rows_to_come : ℕ → List ℕ → ℕ → Cursors → Option (List (List Field))
rows_to_come session namespace id cursors = cursor_rows namespace (finite.get cursors.kept (session, id))

-- a cursor over these rows; none if there are no rows
abbrev pub cursor_over : List ℕ → List (List Field) → Option Cursor
cursor_over namespace [] = None
cursor_over namespace (row ∷ rows) = Some (record { namespace = namespace; rows = row ∷ rows })

-- the cursor without its first rows; none if no rows are left
abbrev pub cursor_behind : ℕ → Option Cursor → Option Cursor
cursor_behind count None = None
cursor_behind count (Some cursor) = cursor_over cursor.namespace (drop count cursor.rows)

-- the cursors with this one in its place; without the one there if there is none
abbrev pub with_cursor : CursorPlace → Option Cursor → Cursors → Cursors
with_cursor place None cursors = record cursors { kept = finite.remove cursors.kept place }
with_cursor place (Some cursor) cursors = record cursors { kept = finite.insert cursors.kept place cursor }

-- the cursors after the first rows of one are returned; it is closed when no rows are left
abbrev pub advanced : ℕ → ℕ → ℕ → Cursors → Cursors
advanced session id count cursors = with_cursor (session, id) (cursor_behind count (finite.get cursors.kept (session, id))) cursors

-- the cursors without the one with this session and id
abbrev pub closed : ℕ → ℕ → Cursors → Cursors
closed session id cursors = record cursors { kept = finite.remove cursors.kept (session, id) }

-- the cursors without those of a session
abbrev pub without_session : ℕ → Cursors → Cursors
without_session session cursors = record cursors { kept = finite.retain_keys cursors.kept (λ place. not (place.0 == session)) }
