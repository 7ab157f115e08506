-- what was read from the values so far is followed by what is read from the others
use Rattle.std.proofs.Common.{◌≡◌, ◌++◌, Ok, drop, map}
use Rattle.dv_value.specs.View.{tree}
use Rattle.dv_command.specs.Fields.{integer_in}
use Rattle.dv_value.specs.Results.{◌>>=◌, each}
use Rattle.dv_command.proofs.values.integers_of.Given as goal

abbrev pub invariant-values : goal.invariant-values
invariant-values l = each integer_in (map tree l.fn.values) ≡ (each integer_in (map tree (drop l.value-index l.fn.values)) >>= λ behind. Ok (l.integers.items ++ behind))
