-- The filters, sorts, updates and pipelines in commands (MongoDB manual, "find": `filter`, `sort`; "update": `u`; "aggregate":
-- `pipeline`). How they are refused is this server's own.
use Rattle.std.specs.Prelude.{ℕ, not, Bool, List, [], ◌∷◌, Option, Some, None, Result, Ok, Err}
use Rattle.dv_value.specs.Names.{begins_with_dollar}
use Rattle.dv_value.specs.Tree.{Tree, Field, fields_of}
use Rattle.dv_path.specs.SortSpec.{Part, sort_spec_of}
use Rattle.dv_match.specs.Filter.{Members}
use Rattle.dv_match.specs.Parsing.{filter_in}
use Rattle.dv_update.specs.Update.{Update}
use Rattle.dv_update.specs.Parsing as updates
use Rattle.dv_pipe.specs.StageParsing as pipelines
use Rattle.dv_pipe.specs.declared.stage.Stage.{Stage}
use Rattle.dv_refusal.specs.declared.refusal.Refusal.{Refusal}
use Rattle.dv_refusal.specs.declared.refusal.Refusal.TheVariants.{BadValue}
use Rattle.dv_refusal.specs.Refusals.{refused_by, filter_refusal, update_refusal, pipeline_refusal}
use Rattle.dv_value.specs.Results.{◌>>=◌}
use Rattle.dv_command.specs.Fields.{document_or_none, first_name}

-- the parsed filter, or its refusal
abbrev pub filter_of : List Field → Result Members Refusal
filter_of d = refused_by filter_refusal (filter_in (fields_of d))

-- the value, or a refusal with 2 if there is none
abbrev pub or_bad_value : {A : Type 0} → Option A → Result A Refusal
or_bad_value None = Err BadValue
or_bad_value (Some x) = Ok x

-- the parsed sort, or a refusal with 2; an empty document sorts nothing
abbrev pub sort_of : List Field → Result (List Part) Refusal
sort_of [] = Ok []
sort_of (f ∷ fs) = or_bad_value (sort_spec_of (f ∷ fs))

-- the parsed update, or its refusal
abbrev pub update_asked : List Field → Result Update Refusal
update_asked d = refused_by update_refusal (updates.update_of d)

-- whether an update is a replacement: its first name doesn't begin with a dollar sign
abbrev pub is_replacement : List Field → Bool
is_replacement d = not (begins_with_dollar (first_name d))

-- the parsed pipeline, or its refusal
abbrev pub stages_asked : List Tree → Result (List Stage) Refusal
stages_asked list = refused_by pipeline_refusal (pipelines.pipeline_of list)

-- ---- filters and sorts in optional fields; without the field, an empty document

abbrev pub filter_under : List ℕ → List Field → Result Members Refusal
filter_under name fields = document_or_none name fields >>= filter_of

abbrev pub sort_under : List ℕ → List Field → Result (List Part) Refusal
sort_under name fields = document_or_none name fields >>= sort_of
