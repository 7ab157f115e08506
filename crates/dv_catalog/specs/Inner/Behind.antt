-- Stages that look up no rows under a name.
use Rattle.std.specs.Prelude.{Bool, not, is_some}
use Rattle.dv_pipe.specs.Stages.{from_of}
use Rattle.dv_pipe.specs.declared.stage.Stage.{Stage}

abbrev pub looks_nowhere : Stage → Bool
looks_nowhere s = not (is_some (from_of s))
