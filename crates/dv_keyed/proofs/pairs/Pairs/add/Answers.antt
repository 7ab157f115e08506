use Rattle.std.proofs.Common.{Bor, ◌∙◌, ap, map}
use Rattle.std.proofs.lemmas.Result.{on_ok_weaker}
use Rattle.dv_order.specs.Key.{KeyTree}
use Rattle.dv_keyed.proofs.Several.{added-fresh, fresh-absent}
use Rattle.dv_keyed.proofs.pairs.Pairs.add.Goals as goal

pub add_fresh-requires : goal.add_fresh-requires
add_fresh-requires c = λ k among.
    let fresh = map (λ (x : Bor KeyTree). x.now) c.as_slice.result.now in
    fresh-absent c.args.keys.now fresh c.args.self.now c.args.id.now (ap (map (λ (x : Bor KeyTree). x.now)) c.as_slice.ensures.value ∙ c.in_ok-fresh.ensures) k among

pub returns-clause-ok : goal.returns-clause-ok
returns-clause-ok c =
    let fresh = map (λ (x : Bor KeyTree). x.now) c.as_slice.result.now in
    on_ok_weaker c.add_fresh.result (λ known k i. known k i ∙ added-fresh c.args.keys.now fresh c.args.self.now c.args.id.now (ap (map (λ (x : Bor KeyTree). x.now)) c.as_slice.ensures.value ∙ c.in_ok-fresh.ensures) k i) c.add_fresh.ensures.ok
