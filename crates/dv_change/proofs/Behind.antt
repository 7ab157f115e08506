-- Two places whose first parts have the same code.
use Rattle.std.specs.Prelude.{◌≡◌, ℕ}
use Rattle.std.proofs.Common.{ap, sym, ◌∙◌}
use Rattle.std.specs.declared.cmp.Ordering.TheVariants.{Less, Equal, Greater}
use Rattle.std.specs.Ordering.{ordering_then}
use Rattle.std.specs.Cmp.{tied_itself}
use Rattle.dv_change.specs.declared.place.Place.{Place}
use Rattle.dv_change.specs.declared.place.Place.TheVariants.{One, Two}
use Rattle.dv_change.specs.Positions.{PosTree, part_order, pos_order}
use Rattle.dv_change.specs.Inner.PositionLaws.{part_order_total}
use Rattle.dv_change.specs.Inner.PartCodes.{part_top, part_high, part_low, part_of_code, first_top, first_high, first_low}
use Rattle.dv_change.specs.Inner.Places.{parts_of, IsCodeOf, IsValid}
use Rattle.dv_change.specs.Inner.PlaceLaws.{code_order, told_order}
use Rattle.dv_order.specs.Inner.TotalOrder.{then_Equal}

-- the first parts have the same code
abbrev pub AreAlike : PosTree → PosTree → Type 0
AreAlike a b = (first_top a ≡ first_top b) × (first_high a ≡ first_high b) × (first_low a ≡ first_low b)

module _ (t h l u i m : ℕ) (a : IsCodeOf (part_of_code t h l) t h l) (b : IsCodeOf (part_of_code u i m) u i m)
    (tops : part_top (part_of_code t h l) ≡ part_top (part_of_code u i m)) (highs : part_high (part_of_code t h l) ≡ part_high (part_of_code u i m)) (lows : part_low (part_of_code t h l) ≡ part_low (part_of_code u i m)) where
  top : t ≡ u
  top = sym a.0 ∙ tops ∙ b.0

  high : h ≡ i
  high = sym a.1 ∙ highs ∙ b.1

  low : l ≡ m
  low = sym a.2 ∙ lows ∙ b.2

  pub beside : part_order (part_of_code t h l) (part_of_code u i m) ≡ Equal
  beside = (λ j. part_order (part_of_code t h l) (part_of_code (sym top j) (sym high j) (sym low j))) ∙ tied_itself part_order_total (part_of_code t h l)

pub one_one : (p q : Place) (t l h u m i : ℕ) → p ≡ One t l h → q ≡ One u m i → IsValid p → IsValid q → AreAlike (parts_of p) (parts_of q) → Equal ≡ pos_order (parts_of p) (parts_of q)
one_one p q t l h u m i e f = rw (e, f) (λ a b s. sym (ap (λ r. ordering_then r Equal) (beside t h l u i m a b s.0 s.1 s.2)))

pub one_two : (p q : Place) (t l h u v m i n : ℕ) → p ≡ One t l h → q ≡ Two u v m i n → IsValid p → IsValid q → AreAlike (parts_of p) (parts_of q) → Less ≡ pos_order (parts_of p) (parts_of q)
one_two p q t l h u v m i n e f = rw (e, f) (λ a b s. sym (ap (λ r. ordering_then r Less) (beside t h l u i 0 a b.0 s.0 s.1 s.2)))

pub two_one : (p q : Place) (t x l h y u m i : ℕ) → p ≡ Two t x l h y → q ≡ One u m i → IsValid p → IsValid q → AreAlike (parts_of p) (parts_of q) → Greater ≡ pos_order (parts_of p) (parts_of q)
two_one p q t x l h y u m i e f = rw (e, f) (λ a b s. sym (ap (λ r. ordering_then r Greater) (beside t h 0 u i m a.0 b s.0 s.1 s.2)))

pub two_two : (p q : Place) (t x l h y u v m i n : ℕ) → p ≡ Two t x l h y → q ≡ Two u v m i n → IsValid p → IsValid q → AreAlike (parts_of p) (parts_of q) → code_order x y l v n m ≡ pos_order (parts_of p) (parts_of q)
two_two p q t x l h y u v m i n e f = rw (e, f) (λ a b s.
    told_order x y l v n m a.1 b.1 ∙ sym (then_Equal (part_order (part_of_code x y l) (part_of_code v n m)))
    ∙ sym (ap (λ r. ordering_then r (ordering_then (part_order (part_of_code x y l) (part_of_code v n m)) Equal)) (beside t h 0 u i 0 a.0 b.0 s.0 s.1 s.2)))
