-- What the first stages of a pipeline leave, if they are a find.
use Rattle.std.specs.Prelude.{◌≡◌, ℕ, List, [], ◌∷◌, Option, Some, None}
use Rattle.dv_match.specs.Filter.{Members}
use Rattle.dv_path.specs.SortSpec.{Part}
use Rattle.dv_pipe.specs.Sources.{Row}
use Rattle.dv_pipe.specs.Stages.{Lists, through}
use Rattle.dv_pipe.specs.declared.stage.Stage.{Stage}
use Rattle.dv_pipe.specs.declared.stage.Stage.TheVariants as stages
use Rattle.dv_sort.specs.Sorting.{front, stable}
use Rattle.dv_catalog.specs.Scan.{matching}

abbrev pub matching_where : Option Members → List Row → List Row
matching_where None rows = rows
matching_where (Some form) rows = matching form rows

abbrev pub sorted_where : Option (List Part) → List Row → List Row
sorted_where None rows = rows
sorted_where (Some parts) rows = stable parts rows

-- the first rows of those that match, in the order of a sort
abbrev pub passed : Option Members → Option (List Part) → Option ℕ → List Row → List Row
passed form parts most rows = front most (sorted_where parts (matching_where form rows))

-- the later stages, over what the first ones leave of some rows, return what all stages return
abbrev pub IsFront : (List Row → List Row) → List Stage → List Stage → Type 0
IsFront leaves later stages = (source : List ℕ) (lists : Lists) (rows : List Row) → through later source lists (leaves rows) ≡ through stages source lists rows

-- how many of the first rows stages need, unless they need all: as many as a limit takes, if each stage before it returns one row
-- for each
abbrev pub wanted : List Stage → Option ℕ
wanted [] = None
wanted (stages.Limit count ∷ ss) = Some count
wanted (stages.Project p ∷ ss) = wanted ss
wanted (stages.Lookup l ∷ ss) = wanted ss
wanted (s ∷ ss) = None
