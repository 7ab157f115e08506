-- Each key is met once.
use Rattle.std.proofs.Common.{rules, ◌≡◌, ◌∙◌, ◌∷◌, ap, cond, subst, sym, List}
use Rattle.std.proofs.lemmas.Map.Keys.{sorted_tail}
use Rattle.std.specs.List.Sorted.{IsStrictlySortedBy}
use Rattle.std.specs.Ordering.{is_eq}
use Rattle.dv_order.specs.Key.{KeyTree, key_order}
use Rattle.dv_join.specs.Inner.Indexed.{row_set, under}
use Rattle.dv_join.proofs.Indexes.{is_one_of, none-again, one-key}
use Rattle.dv_join.proofs.index.RowsByKey.set.Goals as goal

pub keys-preserved : goal.keys-preserved
keys-preserved c =
    let key = c.in-Some.key in
    let rest = c.next.new.self in
    let set = row_set c.args.pos.now c.args.row.now in
    let step : c.keys.key-iterator ≡ key ∷ rest = search rules in
    let sorted : IsStrictlySortedBy key_order (key ∷ rest) = subst (λ (ks : List KeyTree). IsStrictlySortedBy key_order ks) step c.keys.invariant.sorted in
    record {
      sorted = sorted_tail key_order key rest sorted;
      under = λ k.
          one-key set (under k c.keys.self) (under k c.set_under.new.self) (is_eq (key_order k key)) (is_one_of rest k) (c.in_ok-set_under.ensures k) (none-again k key rest sorted)
          ∙ ap (λ ks. cond (is_one_of ks k) (set (under k c.keys.self)) (under k c.keys.self)) (sym step)
          ∙ c.keys.invariant.under k;
    }
