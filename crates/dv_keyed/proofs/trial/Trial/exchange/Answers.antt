use Rattle.std.proofs.Common.{Bor, ◌∙◌, ◌||◌, ◌&&◌, ap, map}
use Rattle.std.proofs.lemmas.Result.{on_ok_weaker}
use Rattle.std.specs.Ordering.{is_eq}
use Rattle.dv_order.specs.Key.{KeyTree, key_order}
use Rattle.dv_keyed.specs.Inner.Keys.{has_key}
use Rattle.dv_keyed.specs.Inner.Pairs.{has_pair}
use Rattle.dv_keyed.specs.Inner.PairLaws.{keys-left}
use Rattle.dv_keyed.proofs.trial.Trial.exchange.Goals as goal

pub returns-clause-gone : goal.returns-clause-gone
returns-clause-gone c = on_ok_weaker c.add_each-2.result (λ known k i.
    let moved = c.args.moved.now in
    let lost = ap (map (λ (x : Bor KeyTree). x.now)) c.as_slice.ensures.value ∙ c.in_ok-lost.ensures in
    c.in_ok-add_each.ensures.ok k i
    ∙ ap (λ b. has_pair k i c.args.self.now.gone || (b && is_eq (key_order i moved.id))) (ap (has_key k) lost ∙ keys-left moved.old moved.new k)) c.add_each-2.ensures.ok

pub returns-clause-come : goal.returns-clause-come
returns-clause-come c = on_ok_weaker c.add_each-2.result (λ known k i.
    let moved = c.args.moved.now in
    let gained = ap (map (λ (x : Bor KeyTree). x.now)) c.as_slice-2.ensures.value ∙ c.in_ok-gained.ensures in
    known k i
    ∙ ap (λ b. has_pair k i c.args.self.now.come || (b && is_eq (key_order i moved.id))) (ap (has_key k) gained ∙ keys-left moved.new moved.old k)) c.add_each-2.ensures.ok
