use Rattle.std.proofs.Common.{rules}
use Rattle.dv_candidates.specs.Candidates.{whole}
use Rattle.dv_path.specs.Inner.GatheredKeys.{gathered-keys}
use Rattle.dv_path.specs.LeafKeys.{is_key_of}
use Rattle.dv_candidates.specs.View.{seen}
use Rattle.dv_gather.specs.Joining.{joined_by, local_values}
use Rattle.dv_gather.proofs.lookup.Lookup.local_keys.Goals as goal

pub returns : goal.returns
unfolding joined_by
returns c =
    gathered-keys seen _ is_key_of local_values (λ t x u h. search (rules, h.1, h)) (whole c.args.row.now c.args.self.now.local) c.new.result c.in_ok-keys.keys c.new.ensures.empty c.in_ok-keys.ensures.outcome
