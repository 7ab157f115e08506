use Rattle.std.proofs.Common.{◌≡◌, drop}
use Rattle.dv_views.specs.Inner.ById.{at_ids_through}
use Rattle.dv_views.proofs.standing.are_at_ids.Given as goal

-- rows are at their `_id`s after the stages that are left exactly if they are after all stages
abbrev pub invariant-stages : goal.invariant-stages
invariant-stages l = at_ids_through l.are (drop l.stage-index l.stages) ≡ at_ids_through l.before l.fn.stages
