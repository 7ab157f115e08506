use Rattle.std.proofs.Common.{◌∙◌, ap, map, subst}
use Rattle.dv_keyed.specs.Inner.Decided.{HasKeyBetween}
use Rattle.dv_keyed.specs.Inner.Keys.{has_key}
use Rattle.dv_keyed.specs.Inner.Pairs.{has_pair}
use Rattle.dv_keyed.proofs.Ordered.{now}
use Rattle.dv_keyed.proofs.tried.ids_between.Goals as goal

pub returns : goal.returns
returns c i =
    let pairs = c.as_pairs.ensures ∙ c.pairs.ensures in
    (λ e. subst (HasKeyBetween c.args.ends i) pairs (c.in_ok-add_ids_inside.ensures.only i (ap (λ ids. has_key i (map now ids)) c.new-ids.ensures.items) e), λ u. c.in_ok-add_ids_inside.ensures.all u.0 i u.1 (ap (has_pair u.0 i) pairs ∙ u.2))
