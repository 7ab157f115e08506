use Rattle.std.proofs.Common.{◌≡◌, Bool, map, take}
use Rattle.std.specs.List.{list_any}
use Rattle.dv_value.specs.Tree.{Tree}
use Rattle.dv_value.specs.View.{tree}
use Rattle.dv_gather.specs.Joining.{joined_by}
use Rattle.dv_pipe.specs.Sources.{rows_referred}
use Rattle.dv_pipe.proofs.joined.filter_of_joined.Given as goal

-- the values of the rows so far
abbrev pub invariant-rows : goal.invariant-rows
invariant-rows l = (test : Tree → Bool) → list_any test (map tree l.values.items) ≡ list_any (λ d. list_any test (joined_by l.lookup.local d)) (rows_referred (take l.row-index l.rows))
