-- What holds of a parsed command if the fields of its body and of the lists next to it are valid: its documents, names and
-- pipelines are valid too.
use Rattle.std.specs.Prelude.{◌≡◌, ◌≤◌, ℕ, List, length, Ok}
use Rattle.std.specs.Str.{IsUtf8}
use Rattle.dv_value.specs.Spelling.{AreElements}
use Rattle.dv_value.specs.Tree.{Tree, elements_of}
use Rattle.dv_update.specs.Parsing as updates
use Rattle.dv_pipe.specs.StageParsing.{pipeline_of}
use Rattle.dv_pipe.specs.declared.stage.Stage.{Stage}
use Rattle.dv_command.specs.Entries.{longest_index_name}

-- the stages that a list of valid values is parsed to
pub record IsSoundPipeline (asked : List Stage) : Type 0 where
  pub list : List Tree
  pub valid : AreElements (elements_of list)
  pub is : pipeline_of list ≡ Ok asked

-- a valid name of an index: UTF-8, and at most 120 bytes
abbrev pub IsIndexName : List ℕ → Type 0
IsIndexName name = IsUtf8 name × (length name ≤ longest_index_name)
