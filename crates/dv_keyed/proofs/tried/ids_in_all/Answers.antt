use Rattle.std.proofs.Common.{◌∙◌, ap}
use Rattle.dv_keyed.specs.Inner.Interval.{is_in_all}
use Rattle.dv_keyed.specs.Inner.Pairs.{has_pair}
use Rattle.dv_keyed.proofs.tried.ids_in_all.Goals as goal

pub returns : goal.returns
returns c = λ k i inside there.
    c.in_ok-add_ids_inside.ensures.all k i (c.in_ok-ends.ensures k (ap (λ p. is_in_all k p c.args.filter.now) c.path.ensures ∙ inside)) (ap (has_pair k i) (c.as_pairs.ensures ∙ c.pairs.ensures) ∙ there)
