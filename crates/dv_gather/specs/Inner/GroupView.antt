-- What a field of a $group in memory stands for.
use Rattle.dv_row.specs.ExpressionView.{expression_seen}
use Rattle.dv_gather.specs.declared.group.GroupField.{GroupField}
use Rattle.dv_gather.specs.Grouping.{Accumulation}

abbrev pub accumulation : GroupField → Accumulation
accumulation f = record { name = f.name; accumulator = f.accumulator; argument = expression_seen f.expr }
