-- Definitions that bodies need.
use Rattle.std.specs.Prelude.{◌≡◌, ℕ, List, [], ◌∷◌, Option, Some, None, if◌then◌else◌}
use Rattle.std.specs.List.{flat_map}
use Rattle.dv_match.specs.Match.{matches}
use Rattle.dv_sort.specs.Sorting.{stable, front}
use Rattle.dv_row.specs.Projecting.{projected}
use Rattle.dv_row.specs.Unwinding.{unwound}
use Rattle.dv_gather.specs.Grouping.{grouped}
use Rattle.dv_gather.specs.Lookups.{joined_row}
use Rattle.dv_pipe.specs.declared.run.End.{End}
use Rattle.dv_pipe.specs.declared.run.End.TheVariants as ends
use Rattle.dv_pipe.specs.declared.run.RunPart as parts
use Rattle.dv_pipe.specs.declared.run.RunPart.TheVariants as by
use Rattle.dv_pipe.specs.declared.run.Run.{Run}
use Rattle.dv_pipe.specs.declared.stage.Stage.{Stage}
use Rattle.dv_pipe.specs.declared.stage.Stage.TheVariants.{Limit}
use Rattle.dv_pipe.specs.declared.step.Step.{Step}
use Rattle.dv_pipe.specs.declared.step.Work as works
use Rattle.dv_pipe.specs.declared.step.Work.TheVariants as work
use Rattle.dv_pipe.specs.Sources.{Row, Source, lists_of}
use Rattle.dv_pipe.specs.Stages.{through}

-- how many of the first rows the stages see, if they don't see all
abbrev pub wanted : List Stage → Option ℕ
wanted (Limit count ∷ ss) = Some count
wanted ss = None

-- what work returns for a row
abbrev pub rows_of_work : works.Work → Row → List Row
rows_of_work (work.Match form) d = if matches form.now d then d ∷ [] else []
rows_of_work (work.Project p) d = projected p.now d ∷ []
rows_of_work (work.Unwind u) d = unwound u.now d
rows_of_work (work.Lookup j) d = joined_row j.0 j.1 d ∷ []

abbrev pub rows_of_step : Step → Row → List Row
rows_of_step s = rows_of_work s.work

-- what steps return for a row, one after the other
abbrev pub passed : List Step → Row → List Row
passed [] d = d ∷ []
passed (s ∷ ss) d = flat_map (passed ss) (rows_of_step s d)

-- what the end of a run returns for rows
abbrev pub ended : End → List Row → List Row
ended (ends.Front most) ds = front most ds
ended (ends.Sort parts most) ds = front most (stable parts.now ds)
ended (ends.Group g) ds = grouped g.now ds

-- what a stage returns for rows
abbrev pub rows_of_part : parts.RunPart → List Row → List Row
rows_of_part (by.Step s) ds = flat_map (rows_of_step s) ds
rows_of_part (by.End e) ds = ended e ds

-- what a run returns for rows
abbrev pub rows_of_run : Run → List Row → List Row
rows_of_run r ds = ended r.end (flat_map (passed r.steps.items) ds)

-- for any rows, the later stages return for the result of `first` what all the stages return for the rows
abbrev pub ComesToSame : List ℕ → List Source → List Stage → (List Row → List Row) → List Stage → Type 0
ComesToSame source sources later first stages = (rows : List Row) → through later source (lists_of sources) (first rows) ≡ through stages source (lists_of sources) rows
