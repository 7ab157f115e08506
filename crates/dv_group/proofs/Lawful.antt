-- The laws that others cite.
use Rattle.dv_group.proofs.Bounds.{group-bound}
use Rattle.dv_group.proofs.Forgetting.{group-forgets}

pub ruleset lawful = (group-bound, group-forgets)
