use Rattle.std.proofs.Common.{◌∙◌, ap}
use Rattle.dv_keyed.specs.Inner.Pairs.{has_pair}
use Rattle.dv_index.proofs.making.add_keys.Goals as goal

pub add_first-requires : goal.add_first-requires
add_first-requires c = λ k. ap (λ l. has_pair k l c.args.pairs.now) c.in_ok-id.ensures ∙ c.requires.first k
