use Rattle.std.proofs.Common.{◌∙◌, ◌||◌, Bool, true, false, ◌≡◌, refl, ap, map}
use Rattle.std.proofs.lemmas.Result.{on_ok_weaker}
use Rattle.dv_value.specs.Tree.{array, elements_of}
use Rattle.dv_order.specs.Key.{value}
use Rattle.dv_order.specs.Order.{canon}
use Rattle.dv_keyed.specs.Inner.Keys.{has_key}
use Rattle.dv_keyed.specs.Inner.Pairs.{has_pair}
use Rattle.dv_keyed.proofs.before.add_empty_before.Goals as goal

or-true : (a : Bool) → a || true ≡ true
or-true true = refl
or-true false = refl

pub returns-clause-added : goal.returns-clause-added
returns-clause-added c = on_ok_weaker c.add_ids_at.result (λ known i first there.
    let was = has_key i (map (λ l. l.now) c.args.ids.now.items) in
    known i ∙ ap (λ k. was || has_pair k i c.args.index.now) c.in_ok-key.ensures
    ∙ ap (λ vs. was || has_pair (value (canon (array (elements_of vs)))) i c.args.index.now) c.new.ensures
    ∙ ap (λ b. was || b) there ∙ or-true was) c.add_ids_at.ensures
