use Rattle.std.proofs.Common.{sym, subst, ◌++◌, List}
use Rattle.dv_wire.specs.declared.events.Said.{Said}
use Rattle.dv_wire.specs.Playing.{Plays}
use Rattle.dv_wire.proofs.Plays.{plays_joined, plays_parted}
use Rattle.dv_wire.proofs.laws.schedules_may_be_joined.Goals as goal

pub returns : goal.returns
returns c = λ old new first second all. (
  plays_parted old new first second all,
  λ parts. subst (λ (ss : List Said). Plays old (first ++ second) ss new) (sym parts.3) (plays_joined old parts.2 new first second parts.0 parts.1 parts.4 parts.5),
)
