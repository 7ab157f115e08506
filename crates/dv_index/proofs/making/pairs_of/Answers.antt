use Rattle.std.proofs.Common.{rules, ◌≡◌, ◌∙◌, ◌||◌, ◌&&◌, not, true, false, List, ap, sym, subst}
use Rattle.std.proofs.Math.Bool.{or-false, and-true, or_assoc}
use Rattle.std.specs.List.{AllByRecursion, list_any}
use Rattle.std.specs.Ordering.{is_eq}
use Rattle.dv_coll.specs.Collection.{HasId, IsAscending, id_key}
use Rattle.dv_order.specs.Key.{key_order}
use Rattle.dv_path.specs.LeafKeys.{is_leaf_key}
use Rattle.dv_value.specs.Tree.{Field}
use Rattle.dv_keyed.specs.Inner.Pairs.{has_pair, is_under_another}
use Rattle.dv_index.specs.Unique.{are_apart}
use Rattle.dv_index.proofs.Built.{IsElsewhere, no-pair-yet, some-has, some-has-found, still-apart}
use Rattle.dv_index.proofs.Picked.{tail-ascends}
use Rattle.dv_index.proofs.Shared.{any-never}
use Rattle.dv_index.proofs.Taken.{all-others, broken-by, has-some, still-apart-from}
use Rattle.dv_index.proofs.making.pairs_of.Goals as goal

pub add_keys-requires-clause-identified : goal.add_keys-requires-clause-identified
add_keys-requires-clause-identified c = (subst (AllByRecursion HasId) c.in-Some.ensures.steps c.loop-document.invariant.identified).0

pub add_keys-requires-clause-first : goal.add_keys-requires-clause-first
add_keys-requires-clause-first c =
    no-pair-yet c.in-Some.document.now c.next.new.self (subst IsAscending c.in-Some.ensures.steps c.loop-document.invariant.ascending) c.loop-document.pairs (λ k i there. subst (IsElsewhere i) c.in-Some.ensures.steps (c.loop-document.invariant.apart k i there))

pub loop-document-init : goal.loop-document-init
loop-document-init c =
    let path = c.args.path.now in
    let all = c.into_iter-document-iterator.ensures.into_iter_gives ∙ c.iter-document-items.ensures.documents in
    let none = c.new-pairs.ensures in
    record {
      keys = λ k id. (λ j. has_pair k id (none j) || some-has k id path (all j));
      identified = subst (AllByRecursion HasId) (sym all) c.iter-document-items.ensures.identified;
      ascending = subst IsAscending (sym all) c.iter-document-items.ensures.ascending;
      unbroken = λ unique.
          sym ((λ j. are_apart path (all j) && not (list_any (has-some path (none j)) (all j))) ∙ ap (λ b. are_apart path c.args.documents.now && not b) (any-never c.args.documents.now) ∙ and-true (are_apart path c.args.documents.now));
      apart = λ k i there. let no : false ≡ true = ap (has_pair k i) (sym none) ∙ there in absurd cc;
    }

pub loop-document-preserved : goal.loop-document-preserved
loop-document-preserved c = record {
  keys = λ k id.
      let path = c.args.path.now in
      let was = has_pair k id c.loop-document.pairs in
      let rest = some-has k id path c.next.new.self in
      let d = c.in-Some.document.now in
      ap (λ b. b || rest) (c.in_ok-add_keys.ensures.ok k id)
      ∙ or_assoc was (is_eq (key_order id (id_key d)) && is_leaf_key k path d) rest
      ∙ ap (λ ds. was || some-has k id path ds) (sym c.in-Some.ensures.steps)
      ∙ c.loop-document.invariant.keys k id;
  identified = (subst (AllByRecursion HasId) c.in-Some.ensures.steps c.loop-document.invariant.identified).1;
  ascending = tail-ascends c.in-Some.document.now c.next.new.self (subst IsAscending c.in-Some.ensures.steps c.loop-document.invariant.ascending);
  unbroken = λ unique.
      let d = c.in-Some.document.now in
      c.loop-document.invariant.unbroken unique
      ∙ ap (λ (ds : List (List Field)). are_apart c.args.path.now ds && not (list_any (has-some c.args.path.now c.loop-document.pairs) ds)) c.in-Some.ensures.steps
      ∙ still-apart-from c.args.path.now d c.loop-document.pairs c.add_keys.new.pairs c.in_ok-add_keys.ensures.ok c.next.new.self
      (sym (all-others (λ k. is_leaf_key k c.args.path.now d) (id_key d) c.loop-document.pairs (λ k i there. (subst (IsElsewhere i) c.in-Some.ensures.steps (c.loop-document.invariant.apart k i there)).0)) ∙ sym (ap (λ u. u && is_under_another (λ k. is_leaf_key k c.args.path.now d) (id_key d) c.loop-document.pairs) unique) ∙ c.in_ok-add_keys.ensures.free);
  apart = λ k i there.
      still-apart c.in-Some.document.now c.next.new.self (subst IsAscending c.in-Some.ensures.steps c.loop-document.invariant.ascending) c.loop-document.pairs (λ l j held. subst (IsElsewhere j) c.in-Some.ensures.steps (c.loop-document.invariant.apart l j held))
      (is_leaf_key k c.args.path.now c.in-Some.document.now) k i (sym (c.in_ok-add_keys.ensures.ok k i) ∙ there);
}

pub returns-clause-pairs : goal.returns-clause-pairs
returns-clause-pairs c = λ k id.
    let path = c.args.path.now in
    let was = has_pair k id c.loop-document.pairs in
    c.in_ok-packed.ensures k id
    ∙ sym (or-false was)
    ∙ ap (λ ds. was || some-has k id path ds) (sym c.in-None.ensures.steps.0)
    ∙ c.loop-document.invariant.keys k id
    ∙ some-has-found k id path c.args.documents.now c.iter-document-items.ensures.ascending

pub returns-in_err-add_keys-clause-duplicate : goal.returns-in_err-add_keys-clause-duplicate
returns-in_err-add_keys-clause-duplicate c = λ duplicate.
    let path = c.args.path.now in
    let d = c.in-Some.document.now in
    let ps = c.loop-document.pairs in
    let under : c.args.unique && is_under_another (λ k. is_leaf_key k path d) (id_key d) ps ≡ true = search rules in
    broken-by path d ps c.next.new.self c.args.documents.now c.args.unique (λ k i there. (subst (IsElsewhere i) c.in-Some.ensures.steps (c.loop-document.invariant.apart k i there)).0) under
    (λ unique. c.loop-document.invariant.unbroken unique ∙ ap (λ (ds : List (List Field)). are_apart path ds && not (list_any (has-some path ps) ds)) c.in-Some.ensures.steps)
