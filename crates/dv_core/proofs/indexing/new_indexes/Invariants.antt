use Rattle.std.proofs.Common.{◌≡◌, map}
use Rattle.dv_command.specs.Inner.View.{index_seen}
use Rattle.dv_keyed.specs.Inner.View.{form_of_new}
use Rattle.dv_core.specs.Indexes.{form_asked}
use Rattle.dv_core.proofs.indexing.new_indexes.Given as goal

-- the indexes so far, and what was asked for them
abbrev pub invariant-indexes : goal.invariant-indexes
invariant-indexes l = map form_of_new l.made.items ≡ map form_asked (map index_seen l.yielded)
