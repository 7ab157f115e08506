use Rattle.std.proofs.Common.{◌≡◌, drop}
use Rattle.std.specs.List.{list_all}
use Rattle.dv_core.specs.Storable.{is_within_limits}
use Rattle.dv_core.proofs.find.has_too_large.Given as goal

-- what still has to be within the limits
abbrev pub invariant-rows : goal.invariant-rows
invariant-rows l = list_all is_within_limits (drop l.row-index l.rows) ≡ list_all is_within_limits l.fn.rows
