use Rattle.std.proofs.Common.{◌≡◌, ◌∙◌, ◌||◌, ◌&&◌, ◌==◌, ◌∷◌, [], Bool, true, false, ap, sym}
use Rattle.std.proofs.lemmas.Result.{on_ok_weaker}
use Rattle.std.proofs.Math.Bool.{or-false, or_assoc}
use Rattle.std.specs.List.{list_any}
use Rattle.std.specs.Ordering.{is_eq}
use Rattle.dv_order.specs.Key.{KeyTree, key_order}
use Rattle.dv_path.specs.LeafKeys.{leaf_values}
use Rattle.dv_gather.specs.Inner.KeySets.{AreKeysOf}
use Rattle.dv_gather.specs.Inner.Places.{is_under}
use Rattle.dv_gather.proofs.Placed.{if-some}
use Rattle.dv_gather.proofs.joining.add_place.Goals as goal

and-either : (was b a c : Bool) → (was || (b && a)) || (b && c) ≡ was || (b && (a || c))
and-either was true a c = or_assoc was a c
and-either was false a c = or-false (was || false)

pub keys-preserved : goal.keys-preserved
keys-preserved c = λ k i.
    let was = is_under c.keys.places k i in
    let here = c.args.place == i in
    let test = λ (m : KeyTree). is_eq (key_order k m) in
    ap (λ b. b || (here && list_any test c.next.new.self)) (c.in_ok-add_under.ensures k i)
    ∙ and-either was here (test c.in-Some-key.key) (list_any test c.next.new.self)
    ∙ ap (λ ks. was || (here && list_any test ks)) (sym c.in-Some-key.ensures.steps)
    ∙ c.keys.invariant k i

pub returns-in-Some : goal.returns-in-Some
returns-in-Some c =
    let key = c.in-Some.key in
    let own = if-some (λ k. AreKeysOf (k ∷ []) (leaf_values c.args.lookup.now.foreign c.args.document.now)) c.in_ok-key.field-0 key c.in-Some.is c.in_ok-key.ensures.foreign in
    on_ok_weaker c.add_under.result (λ known k i. known k i ∙ ap (λ b. is_under c.args.places.now k i || ((c.args.place == i) && b)) (sym (or-false (is_eq (key_order k key))) ∙ own k)) c.add_under.ensures
