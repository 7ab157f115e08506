use Rattle.std.proofs.Common.{Bor, ◌≡◌, ◌∙◌, map, subst, true}
use Rattle.dv_order.specs.Key.{KeyTree}
use Rattle.dv_keyed.specs.Inner.Decided.{IsClosed}
use Rattle.dv_keyed.specs.Inner.Keys.{has_key}
use Rattle.dv_keyed.specs.Inner.Pairs.{IsOnlyKey, has_pair}
use Rattle.dv_index.proofs.Gathered.{between-all}
use Rattle.dv_index.proofs.search.found_between.Goals as goal
use Rattle.dv_value.specs.Inner.ListLaws.{some-is}

pub returns : goal.returns
returns c =
    let ids = map (λ (l : Bor KeyTree). l.now) c.in_ok-ids.ids.items in
    let index = c.args.index.now in
    let ends = c.in-Some.ends in
    let closed = some-is ends (λ ends. IsClosed ends c.path.result.now c.args.filter.now) _ c.in-Some.is c.in_ok-ends.ensures in
    c.in_ok-all.ensures
    ∙ between-all c.a_closed_range_is_decided_by_its_ends.ensures index ends c.args.filter.now (subst (λ p. IsClosed ends p c.args.filter.now) c.path.ensures closed) (subst (λ ps. (k i : KeyTree) → has_pair k i ps ≡ true → IsOnlyKey k i ps) c.pairs.ensures (c.has_several.ensures c.if-has_several.false)) (λ i. has_key i ids) c.in_ok-ids.ensures c.args.collection.now c.requires c.law_ascending.ensures.ascending
