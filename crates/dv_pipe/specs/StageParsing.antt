-- How a pipeline is parsed: the parsed stages, or the first fault in written order (MongoDB manual, "Aggregation Stages"). The choice
-- of stages, and which fault is reported, are this server's own.
use Rattle.std.specs.Prelude.{ℕ, ℤ, pos, negsuc, ◌==◌, nat_le, Option, Some, None, List, length, take, Result, Ok, Err, codes, if◌then◌else◌}
use Rattle.std.specs.Str.{bytes_eq}
use Rattle.dv_value.specs.Tree.{Tree, int32, int64, document, no_fields, field, list_of_fields}
use Rattle.dv_path.specs.SortSpec.{Part, sort_spec_of}
use Rattle.dv_match.specs.Filter.{Members}
use Rattle.dv_match.specs.Parsing.{filter_in}
use Rattle.dv_match.specs.declared.fault.FilterFault.{FilterFault}
use Rattle.dv_match.specs.declared.fault.FilterFault.TheVariants as filters
use Rattle.dv_row.specs.declared.fault.PipelineFault.{PipelineFault}
use Rattle.dv_row.specs.declared.fault.PipelineFault.TheVariants.{UnknownStage, BadSpec, Filter, TooMany, NoMemory}
use Rattle.dv_pipe.specs.declared.stage.Stage.{Stage}
use Rattle.dv_pipe.specs.declared.stage.Stage.TheVariants as stages
use Rattle.dv_row.specs.Parsing.{unwind_in}
use Rattle.dv_value.specs.Results.{◌>>=◌, each}
use Rattle.dv_row.specs.ProjectParsing.{project_in}
use Rattle.dv_gather.specs.GroupParsing.{group_in}
use Rattle.dv_gather.specs.Lookups.{lookup_in}

-- a number of at least 1
abbrev pub from_one : ℤ → Result ℕ PipelineFault
from_one (pos n) = if n == 0 then Err BadSpec else Ok n
from_one (negsuc n) = Err BadSpec

-- the operand of `$limit`: an int32 or int64 of at least 1
abbrev pub count_in : Tree → Result ℕ PipelineFault
count_in (int32 n) = from_one n
count_in (int64 n) = from_one n
count_in v = Err BadSpec

-- a filter's fault as a pipeline's: out of memory stays the same, any other becomes `Filter`
abbrev pub pipeline_fault_of_filter : FilterFault → PipelineFault
pipeline_fault_of_filter filters.NoMemory = NoMemory
pipeline_fault_of_filter e = Filter

-- a parsed filter, with its fault as a pipeline's
abbrev pub of_parsed : Result Members FilterFault → Result Members PipelineFault
of_parsed (Ok form) = Ok form
of_parsed (Err e) = Err (pipeline_fault_of_filter e)

-- the operand of `$match`: a filter
abbrev pub filter_form : Tree → Result Members PipelineFault
filter_form (document fs) = of_parsed (filter_in fs)
filter_form v = Err BadSpec

-- a parsed sort, or the fault that it isn't valid
abbrev pub sort_or_fault : Option (List Part) → Result (List Part) PipelineFault
sort_or_fault None = Err BadSpec
sort_or_fault (Some parts) = Ok parts

-- the operand of `$sort`: a document
abbrev pub sort_in : Tree → Result (List Part) PipelineFault
sort_in (document fs) = sort_or_fault (sort_spec_of (list_of_fields fs))
sort_in v = Err BadSpec

-- a stage by its name and operand
unfoldable pub stage_named : List ℕ → Tree → Result Stage PipelineFault
stage_named name v =
    if bytes_eq name (codes "$match") then (filter_form v >>= λ form. Ok (stages.Match form))
    else if bytes_eq name (codes "$project") then (project_in v >>= λ p. Ok (stages.Project p))
    else if bytes_eq name (codes "$unwind") then (unwind_in v >>= λ u. Ok (stages.Unwind u))
    else if bytes_eq name (codes "$sort") then (sort_in v >>= λ parts. Ok (stages.Sort parts))
    else if bytes_eq name (codes "$limit") then (count_in v >>= λ count. Ok (stages.Limit count))
    else if bytes_eq name (codes "$group") then (group_in v >>= λ g. Ok (stages.Group g))
    else if bytes_eq name (codes "$lookup") then (lookup_in v >>= λ l. Ok (stages.Lookup l))
    else Err UnknownStage

-- a parsed stage, from a document with one field
abbrev pub stage_of : Tree → Result Stage PipelineFault
stage_of (document (field name v no_fields)) = stage_named name v
stage_of v = Err BadSpec

-- a parsed pipeline: the first 16 stages are parsed in order; then a longer pipeline is refused
unfoldable pub pipeline_of : List Tree → Result (List Stage) PipelineFault
pipeline_of list = each stage_of (take 16 list) >>= λ stages. if nat_le (length list) 16 then Ok stages else Err TooMany
