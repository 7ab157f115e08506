-- Keys that are equal: the same values have them.
use Rattle.std.proofs.Common.{◌≡◌, ◌∙◌, ap, refl, Bool, true, ◌||◌, List, [], ◌∷◌}
use Rattle.std.specs.List.{list_any}
use Rattle.std.specs.Cmp.{eq_by_cmp_equiv}
use Rattle.std.specs.Ordering.{is_eq}
use Rattle.dv_value.specs.Tree.{Tree}
use Rattle.dv_order.specs.Order.{canon}
use Rattle.dv_order.specs.Key.{KeyTree, value, key_order}
use Rattle.dv_order.specs.Inner.KeyLaws.{key_order_total}
use Rattle.dv_path.specs.LeafKeys.{is_key_of, is_some_key}

pub any-same : {X : Type 0} (p q : X → Bool) → ((x : X) → p x ≡ q x) → (xs : List X) → list_any p xs ≡ list_any q xs
any-same p q same [] = refl
any-same p q same (x ∷ xs) = ap (λ b. b || list_any p xs) (same x) ∙ ap (λ b. q x || b) (any-same p q same xs)

-- equal keys are those of the same values
pub alike : (k l : KeyTree) (vs : List Tree) → is_eq (key_order k l) ≡ true → is_some_key k vs ≡ is_some_key l vs
alike k l vs e = any-same (is_key_of k) (is_key_of l) (λ v. (eq_by_cmp_equiv key_order_total).congr k l (value (canon v)) e) vs
