-- What the parts of a $project in memory stand for, while they are read.
use Rattle.std.specs.Prelude.{map}
use Rattle.dv_row.specs.declared.asked.Asked as memory
use Rattle.dv_row.specs.ExpressionView.{named}
use Rattle.dv_row.specs.ProjectParsing.{AskedMembers}

abbrev pub asked : memory.Asked → AskedMembers
asked a = record { included = a.included.items; excluded = a.excluded.items; computed = map named a.computed.items }
