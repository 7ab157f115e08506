-- Lists that are put together for a pipeline or for views, name by name.
use Rattle.std.specs.Prelude.{ℕ, List, [], ◌∷◌, ◌++◌}
use Rattle.dv_pipe.specs.Sources.{Row, Source, rows_under}

abbrev pub with_list_where : List Row → List ℕ → List Row → List Source → List Source
with_list_where [] name rows sources = sources ++ (name, rows) ∷ []
with_list_where (row ∷ there) name rows sources = sources

-- with these rows under a name, unless it has rows already
abbrev pub with_list : List ℕ → List Row → List Source → List Source
with_list name rows sources = with_list_where (rows_under name sources) name rows sources
