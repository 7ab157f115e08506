-- The laws that others cite.
use Rattle.dv_join.proofs.Bounds.{left-bound, lookup-forgets}

pub ruleset lawful = (left-bound, lookup-forgets)
