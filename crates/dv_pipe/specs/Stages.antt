-- What the stages of a pipeline return (MongoDB manual, "Aggregation Stages"); a pipeline is its stages one after the other.
use Rattle.std.specs.Prelude.{ℕ, ◌==◌, ◌||◌, Bool, false, List, [], ◌∷◌, ◌++◌, Option, Some, None, filter, map, take}
use Rattle.std.specs.List.{flat_map, list_any, before_first}
use Rattle.std.specs.Option.{option_map}
use Rattle.std.specs.Str.{bytes_eq}
use Rattle.dv_match.specs.Match.{matches}
use Rattle.dv_pipe.specs.declared.stage.Stage.{Stage}
use Rattle.dv_pipe.specs.declared.stage.Stage.TheVariants.{Match, Project, Unwind, Sort, Limit, Group, Lookup}
use Rattle.dv_sort.specs.Sorting.{stable}
use Rattle.dv_row.specs.Projecting.{projected}
use Rattle.dv_row.specs.Unwinding.{unwound}
use Rattle.dv_gather.specs.Grouping.{grouped}
use Rattle.dv_gather.specs.Lookups.{looked_up}
use Rattle.dv_pipe.specs.Sources.{Row}

-- the rows that a stage returns, from the rows of its input and from the list that a `$lookup` reads
unfoldable pub stage : Stage → List Row → List Row → List Row
stage (Match form) rows foreign = filter (matches form) rows
stage (Project p) rows foreign = map (projected p) rows
stage (Unwind u) rows foreign = flat_map (unwound u) rows
stage (Sort parts) rows foreign = stable parts rows
stage (Limit count) rows foreign = take count rows
stage (Group g) rows foreign = grouped g rows
stage (Lookup l) rows foreign = looked_up l rows foreign

-- the documents or rows of each namespace
abbrev pub Lists : Type 0
Lists = List ℕ → List Row

-- the database of a namespace: the text before its first dot
abbrev pub database_of : List ℕ → List ℕ
database_of namespace = before_first (λ b. b == 46) namespace

-- the namespace of a collection in the same database as another namespace
abbrev pub beside : List ℕ → List ℕ → List ℕ
beside source collection = database_of source ++ 46 ∷ collection

-- the name of the collection that a `$lookup` reads; none for other stages
abbrev pub from_of : Stage → Option (List ℕ)
from_of (Lookup l) = Some l.from
from_of s = None

-- the namespace that a stage of a pipeline over a source reads by `$lookup`, if any
abbrev pub looked_into : Stage → List ℕ → Option (List ℕ)
looked_into s source = option_map (beside source) (from_of s)

-- the rows of a namespace; none without a namespace
abbrev pub rows_at : Option (List ℕ) → Lists → List Row
rows_at None lists = []
rows_at (Some namespace) lists = lists namespace

-- the list that a stage reads by `$lookup`
abbrev pub foreign_of : Stage → List ℕ → Lists → List Row
foreign_of s source lists = rows_at (looked_into s source) lists

-- rows after stages, one after the other
unfoldable pub through : List Stage → List ℕ → Lists → List Row → List Row
through [] source lists rows = rows
through (s ∷ ss) source lists rows = through ss source lists (stage s rows (foreign_of s source lists))

-- the rows that a pipeline over a source returns
abbrev pub evaluated : List Stage → List ℕ → Lists → List Row
evaluated stages source lists = through stages source lists (lists source)

-- whether the second name is this namespace
abbrev pub is_source_named : List ℕ → Option (List ℕ) → Bool
is_source_named namespace None = false
is_source_named namespace (Some name) = bytes_eq namespace name

-- whether a `$lookup` of a pipeline over a source reads a namespace
abbrev pub is_looked_into : List Stage → List ℕ → List ℕ → Bool
is_looked_into stages source namespace = list_any (λ s. is_source_named namespace (looked_into s source)) stages

-- whether a pipeline over a source reads a namespace: it is the source, or a `$lookup` reads it
abbrev pub is_read : List Stage → List ℕ → List ℕ → Bool
is_read stages source namespace = bytes_eq source namespace || is_looked_into stages source namespace
