-- Codes of parts: three numbers, which order two parts if they differ. Some parts are determined by their codes.
use Rattle.std.specs.Prelude.{◌≡◌, ℕ, suc, ◌-◌, ◌^◌, ◌<◌, ◌≤◌, nat_lt, cond, [], ◌∷◌, refl}
use Rattle.std.proofs.Common.{inl, inr, sym, arith}
use Rattle.std.specs.declared.cmp.Ordering.TheVariants.{Less}
use Rattle.std.specs.Cmp.{nat_cmp_is}
use Rattle.dv_order.specs.Order.{class}
use Rattle.dv_order.specs.Key.{KeyTree, no_element, value, key_class}
use Rattle.dv_value.specs.Tree.{Tree, int32}
use Rattle.dv_order.specs.Codes.{key_high, key_low, key_of_code}
use Rattle.dv_order.specs.Inner.CodeLaws.{IsAhead, class_ahead, key_ahead}
use Rattle.dv_change.specs.declared.position.Part.{Part}
use Rattle.dv_change.specs.declared.position.Part.TheVariants.{Up, Down, At}
use Rattle.dv_change.specs.Positions.{PosTree, part_order}

-- the kind and the class: 1 to 13 for ascending keys, 18 to 30 for descending ones, 32 for numbers
abbrev pub part_top : Part → ℕ
part_top (Up k) = suc (key_class k)
part_top (Down k) = 30 - key_class k
part_top (At n) = 32

abbrev pub part_high : Part → ℕ
part_high (Up k) = key_high k
part_high (Down k) = 2 ^ 64 - 1 - key_high k
part_high (At n) = n

-- the second number; descending keys and numbers have none
abbrev pub part_low : Part → ℕ
part_low (Up k) = key_low k
part_low (Down k) = 0
part_low (At n) = 0

-- the part that a code determines, if it determines one
abbrev pub part_of_code : ℕ → ℕ → ℕ → Part
part_of_code top high low =
    cond (nat_lt top 16) (Up (key_of_code (top - 1) high low))
    (cond (nat_lt top 32) (Down (key_of_code (30 - top) (2 ^ 64 - 1 - high) 0)) (At high))

-- the code of the first part; 0 comes before all codes
abbrev pub first_top : PosTree → ℕ
first_top [] = 0
first_top (p ∷ ps) = part_top p

abbrev pub first_high : PosTree → ℕ
first_high [] = 0
first_high (p ∷ ps) = part_high p

abbrev pub first_low : PosTree → ℕ
first_low [] = 0
first_low (p ∷ ps) = part_low p

class_within : (v : Tree) → class v ≤ 12
class_within (int32 n) = omega arith
class_within v = omega arith

pub key_class_within : (k : KeyTree) → key_class k ≤ 12
key_class_within no_element = omega arith
key_class_within (value v) = class_within v

-- of two parts, the one with the lower kind and class comes first
pub top_ahead : (a b : Part) → part_top a < part_top b → part_order a b ≡ Less
top_ahead (Up k) (Up l) h = class_ahead k l (omega arith)
top_ahead (Up k) (Down l) h = refl
top_ahead (Up k) (At n) h = refl
top_ahead (Down k) (Up l) h = absurd (omega (arith, key_class_within k, key_class_within l))
top_ahead (Down k) (Down l) h = class_ahead l k (omega (arith, key_class_within k, key_class_within l))
top_ahead (Down k) (At n) h = refl
top_ahead (At m) (Up l) h = absurd (omega (arith, key_class_within l))
top_ahead (At m) (Down l) h = absurd (omega arith)
top_ahead (At m) (At n) h = absurd (omega arith)

high_only : (a c : ℕ) → IsAhead a 0 c 0 → a < c
high_only a c (inl h) = h
high_only a c (inr h) = absurd (omega (arith, h.1))

-- and of two of one kind and class, the one with the lower numbers
pub part_ahead : (a b : Part) → part_top a ≡ part_top b → IsAhead (part_high a) (part_low a) (part_high b) (part_low b) → part_order a b ≡ Less
part_ahead (Up k) (Up l) e h = key_ahead k l (omega (arith, e)) h
part_ahead (Up k) (Down l) e h = absurd (omega (arith, e, key_class_within k, key_class_within l))
part_ahead (Up k) (At n) e h = absurd (omega (arith, e, key_class_within k))
part_ahead (Down k) (Up l) e h = absurd (omega (arith, e, key_class_within k, key_class_within l))
part_ahead (Down k) (Down l) e h = key_ahead l k (omega (arith, e, key_class_within k, key_class_within l)) (inl (omega (arith, high_only _ _ h)))
part_ahead (Down k) (At n) e h = absurd (omega (arith, e))
part_ahead (At m) (Up l) e h = absurd (omega (arith, e, key_class_within l))
part_ahead (At m) (Down l) e h = absurd (omega (arith, e))
part_ahead (At m) (At n) e h = sym (nat_cmp_is m n Less (high_only m n h))
