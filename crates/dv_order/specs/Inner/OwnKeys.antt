-- Of `OwnKeys`, what only bodies and proofs need.
use Rattle.std.specs.Prelude.{◌≡◌}
use Rattle.std.proofs.Common.{sym, ◌∙◌}
use Rattle.std.specs.declared.cmp.Ordering.TheVariants.{Equal}
use Rattle.dv_order.specs.Key.{KeyTree, key_at, key_order}
use Rattle.dv_order.specs.Inner.SameOrder.{same_key}
use Rattle.dv_order.specs.OwnKeys.{IsOwn}

-- two such keys that compare as equal are the same key
pub own_keys_are_one : (k l : KeyTree) → IsOwn k → IsOwn l → key_order k l ≡ Equal → k ≡ l
own_keys_are_one k l own-k own-l e =
    let beside : key_order (key_at own-k.of) (key_at own-l.of) ≡ Equal = (λ i. key_order (sym own-k.is i) (sym own-l.is i)) ∙ e in
    own-k.is ∙ same_key own-k.of own-l.of beside ∙ sym own-l.is
