use Rattle.std.proofs.Common.{Bor, ◌∙◌, map}
use Rattle.std.specs.Ordering.{is_eq}
use Rattle.dv_order.specs.Key.{KeyTree, key_order}
use Rattle.dv_keyed.specs.Inner.Keys.{has_key}
use Rattle.dv_keyed.specs.Inner.Pairs.{has_pair}
use Rattle.dv_keyed.specs.Inner.PairLaws.{same-id}
use Rattle.dv_keyed.proofs.Several.{taken-back}
use Rattle.dv_keyed.proofs.pairs.Pairs.add_fresh.Goals as goal

pub returns-in-Err-clause-err : goal.returns-in-Err-clause-err
returns-in-Err-clause-err c = λ k i.
    c.take_out_each.ensures k i
    ∙ c.in-Err.ensures.err k i
    ∙ taken-back (has_pair k i c.args.self.now) (has_key k (map (λ (x : Bor KeyTree). x.now) c.args.fresh.now)) (is_eq (key_order i c.args.id.now)) (λ same among. same-id k i c.args.id.now c.args.self.now same ∙ c.requires k among)
