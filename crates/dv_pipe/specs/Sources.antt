-- The lists that a pipeline reads, by namespace.
use Rattle.std.specs.Prelude.{ℕ, List, [], ◌∷◌, map, if◌then◌else◌}
use Rattle.std.specs.Str.{bytes_eq}
use denote.Ref.{Bor}
pub use Rattle.dv_row.specs.Row.{Row}

-- a namespace and its documents
abbrev pub Source : Type 0
Source = List ℕ × List Row

-- the documents of a namespace; none if it isn't among the sources
abbrev pub rows_under : List ℕ → List Source → List Row
rows_under namespace [] = []
rows_under namespace (s ∷ ss) = if bytes_eq namespace s.0 then s.1 else rows_under namespace ss

-- the documents that these references refer to
abbrev pub rows_referred : List (Bor Row) → List Row
rows_referred = map (λ r. r.now)

-- the documents of each namespace
abbrev pub lists_of : List Source → List ℕ → List Row
lists_of sources namespace = rows_under namespace sources
