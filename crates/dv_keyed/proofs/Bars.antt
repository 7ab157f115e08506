-- One key or another, and keys before a bar.
use Rattle.std.proofs.Common.{◌≡◌, ◌∙◌, ◌&&◌, ◌||◌, Bool, refl, ap, sym, true, false, not}
use Rattle.std.specs.Ordering.{is_eq, is_le, is_lt, ordering_reverse}
use Rattle.std.specs.declared.cmp.Ordering.{Ordering}
use Rattle.std.specs.declared.cmp.Ordering.TheVariants.{Less, Equal, Greater}
use Rattle.dv_value.specs.Tree.{Tree}
use Rattle.dv_order.specs.Key.{KeyTree, no_element, value, key_order}
use Rattle.dv_order.specs.Inner.KeyLaws.{key_order_total}
use Rattle.dv_path.specs.SortKey.{stands_first}
use Rattle.dv_path.specs.declared.direction.Direction.{Direction}
use Rattle.dv_keyed.specs.declared.before.Bar.{Bar}
use Rattle.dv_keyed.specs.Inner.Ahead.{is_until, stands_ahead}

pub by-kind : (P : KeyTree → Type 0) → P no_element → ((v : Tree) → P (value v)) → (k : KeyTree) → P k
by-kind P none some no_element = none
by-kind P none some (value v) = some v

pub turned : (o : Ordering) → not (is_le o) ≡ is_lt (ordering_reverse o)
turned Less = refl
turned Equal = refl
turned Greater = refl

pub before-end : (k bar : KeyTree) → is_lt (key_order k bar) ≡ true → not (is_le (key_order bar k)) ≡ true
before-end k bar e = turned (key_order bar k) ∙ sym (ap is_lt (key_order_total.antisymm k bar)) ∙ e

-- ---- documents before the bar are sorted before its key, or by it
pub by-bar : (P : Type 0) (direction : Direction) (bar : Bar) (k i : KeyTree) → stands_ahead direction bar k i ≡ true → (stands_first direction k bar.key.now ≡ true → P) → (is_eq (key_order k bar.key.now) ≡ true → is_until i bar.until ≡ true → P) → P
by-bar P direction bar k i e before tied = at (stands_first direction k bar.key.now) (is_eq (key_order k bar.key.now)) e before tied
  where
    at : (a b : Bool) → a || (b && is_until i bar.until) ≡ true → (a ≡ true → P) → (b ≡ true → is_until i bar.until ≡ true → P) → P
    at true b f first later = first refl
    at false true f first later = later refl f
    at false false f first later = absurd cc
