-- the indexes so far are followed by those of the other entries
use Rattle.std.proofs.Common.{◌≡◌, ◌++◌, Ok, map}
use Rattle.dv_command.specs.Entries.{index_asked}
use Rattle.dv_command.specs.Inner.View.{index_seen}
use Rattle.dv_value.specs.Results.{◌>>=◌, each}
use Rattle.dv_command.proofs.catalog.indexes_of.Given as goal

abbrev pub invariant-entries : goal.invariant-entries
invariant-entries l = each index_asked l.fn.entries ≡ (each index_asked l.entry-iterator >>= λ behind. Ok (map index_seen l.indexes.items ++ behind))
