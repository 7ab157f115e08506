-- Each key is met once.
use Rattle.std.proofs.Common.{rules, ◌≡◌, ◌∙◌, ◌∷◌, ap, cond, subst, sym, List}
use Rattle.std.proofs.lemmas.Map.Keys.{sorted_tail}
use Rattle.std.specs.List.Sorted.{IsStrictlySortedBy}
use Rattle.std.specs.Ordering.{is_eq}
use Rattle.dv_change.specs.Changes.{Positioned}
use Rattle.dv_change.specs.Inner.Ordered.{gone}
use Rattle.dv_order.specs.Key.{KeyTree, key_order}
use Rattle.dv_join.specs.Inner.Indexed.{under}
use Rattle.dv_join.proofs.Indexes.{is_one_of, none-again, one-key}
use Rattle.dv_join.proofs.index.RowsByKey.take_out.Goals as goal

pub keys-init : goal.keys-init
keys-init c =
    let all : c.into_iter-key-iterator.result ≡ c.difference-key-items.result = search rules in
    record {
      sorted = subst (λ (ks : List KeyTree). IsStrictlySortedBy key_order ks) (sym all) c.difference-key-items.ensures.ordered;
      under = λ k. ap (λ b. cond b (gone c.args.pos.now (under k c.args.self.now)) (under k c.args.self.now)) (ap (λ (ks : List KeyTree). is_one_of ks k) all ∙ c.difference-key-items.ensures.members k);
    }

pub keys-preserved : goal.keys-preserved
keys-preserved c =
    let key = c.in-Some.key.now in
    let rest = c.next.new.self in
    let goes : Positioned → Positioned = gone c.args.pos.now in
    let step : c.keys.key-iterator ≡ key ∷ rest = search rules in
    let sorted : IsStrictlySortedBy key_order (key ∷ rest) = subst (λ (ks : List KeyTree). IsStrictlySortedBy key_order ks) step c.keys.invariant.sorted in
    record {
      sorted = sorted_tail key_order key rest sorted;
      under = λ k.
          one-key goes (under k c.keys.self) (under k c.set_under.new.self) (is_eq (key_order k key)) (is_one_of rest k)
          (c.in_ok-set_under.ensures k ∙ ap (λ m. cond (is_eq (key_order k m)) (goes (under k c.keys.self)) (under k c.keys.self)) c.in_ok-try_clone.ensures) (none-again k key rest sorted)
          ∙ ap (λ ks. cond (is_one_of ks k) (goes (under k c.keys.self)) (under k c.keys.self)) (sym step)
          ∙ c.keys.invariant.under k;
    }
