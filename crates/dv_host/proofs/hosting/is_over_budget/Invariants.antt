use Rattle.std.proofs.Common.{◌≡◌, ◌-◌, ◌^◌, min, take}
use Rattle.std.specs.List.{sum_by}
use Rattle.dv_host.proofs.hosting.is_over_budget.Given as goal

abbrev pub invariant-links : goal.invariant-links
invariant-links g l = l.kept ≡ min (sum_by (λ link. link.unfinished) (take l.link-index l.links)) (2 ^ 64 - 1)
