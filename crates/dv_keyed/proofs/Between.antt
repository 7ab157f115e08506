-- Ends that are moved closer together, and ends between which no key is.
use Rattle.std.proofs.Common.{◌≡◌, ◌∙◌, ◌⊎◌, inl, inr, map, ℕ, ◌+◌, ◌<◌, get_or, length, List, ◌∷◌, drop, refl, ap, sym, Bool, true, false, not, ◌&&◌}
use Rattle.std.specs.BTreeMap.Range.{is_from_start, is_past_end, range_contains}
use Rattle.std.specs.Ordering.{is_gt, is_lt, is_le, ordering_reverse}
use Rattle.std.specs.declared.cmp.Ordering.{Ordering}
use Rattle.std.specs.declared.cmp.Ordering.TheVariants.{Less, Equal, Greater}
use Rattle.std.specs.declared.ops.Bound.{Bound}
use Rattle.std.specs.declared.ops.Bound.TheVariants.{Included, Excluded}
use Rattle.std.proofs.lemmas.Cmp.{alike_right}
use Rattle.std.proofs.lemmas.Bool.{and_parts}
use Rattle.dv_order.specs.Key.{KeyTree, key_order}
use Rattle.dv_order.specs.Inner.KeyLaws.{key_order_total, is-less}
use Rattle.dv_match.specs.declared.form.Member as memory
use Rattle.dv_match.specs.declared.form.Condition as held
use Rattle.dv_match.specs.Filter.{Members, conditions_of, members_of, filters_of}
use Rattle.dv_match.specs.View.{condition, member}
use Rattle.dv_keyed.proofs.Ends.{not-greater}
use Rattle.dv_keyed.specs.Inner.Interval.{is_in_all, is_in_bounds, is_in_each, is_in_member, is_in_filters}
use Rattle.dv_value.specs.Inner.ListLaws.{drop-read}

not-so : (b : Bool) → not b ≡ true → b ≡ false
not-so true e = absurd cc
not-so false e = refl

-- ---- each end by itself
module _ (low high next-low next-high other-low other-high : Bound KeyTree) (k : KeyTree) where
  pub narrowed : (is_from_start key_order low k ≡ true → is_from_start key_order other-low k ≡ true → is_from_start key_order next-low k ≡ true) → (is_past_end key_order high k ≡ false → is_past_end key_order other-high k ≡ false → is_past_end key_order next-high k ≡ false) → range_contains key_order low high k ≡ true → range_contains key_order other-low other-high k ≡ true → range_contains key_order next-low next-high k ≡ true
  narrowed raised lowered e f =
      let was = and_parts (is_from_start key_order low k) (not (is_past_end key_order high k)) e in
      let is = and_parts (is_from_start key_order other-low k) (not (is_past_end key_order other-high k)) f in
      λ j. raised was.0 is.0 j && not (lowered (not-so (is_past_end key_order high k) was.1) (not-so (is_past_end key_order other-high k) is.1) j)

-- ---- no key between ends in the wrong order
gt-turned : (o : Ordering) → is_gt (ordering_reverse o) ≡ is_lt o
gt-turned Less = refl
gt-turned Equal = refl
gt-turned Greater = refl

through : (a k b : KeyTree) (o p : Ordering) → key_order a k ≡ o → key_order k b ≡ p → is_gt o ≡ false → is_gt p ≡ false → is_gt (key_order a b) ≡ false
through a k b Greater p e f g h = absurd cc
through a k b o Greater e f g h = absurd cc
through a k b Equal p e f g h = ap is_gt (key_order_total.congr a k b e) ∙ ap is_gt f ∙ h
through a k b Less Equal e f g h = ap is_gt (sym (alike_right key_order_total k b a f) ∙ e)
through a k b Less Less e f g h = ap is_gt (key_order_total.trans a k b e f)

no-both : (a b : Bool) → (a ≡ true → b ≡ false → ⊥) → a && not b ≡ false
no-both true false h = absurd (h refl refl)
no-both true true h = refl
no-both false b h = refl

turned-less : (o : Ordering) → is_le (ordering_reverse o) ≡ false → o ≡ Less
turned-less Less e = refl
turned-less Equal e = absurd cc
turned-less Greater e = absurd cc

turned-round : (o : Ordering) → is_le o ≡ false → is_gt o ≡ false → ⊥
turned-round Less e f = absurd cc
turned-round Equal e f = absurd cc
turned-round Greater e f = absurd cc

from-low : (low : Bound KeyTree) (a k : KeyTree) → (low ≡ Included a) ⊎ (low ≡ Excluded a) → is_from_start key_order low k ≡ true → is_gt (key_order a k) ≡ false
from-low low a k which e = elim which [
  | inl is ↦ not-greater (key_order a k) (ap (λ b. is_from_start key_order b k) (sym is) ∙ e)
  | inr is ↦ let less = is-less (key_order a k) (ap (λ b. is_from_start key_order b k) (sym is) ∙ e) in ap is_gt less
]

up-to-high : (high : Bound KeyTree) (b k : KeyTree) → (high ≡ Included b) ⊎ (high ≡ Excluded b) → is_past_end key_order high k ≡ false → is_gt (key_order k b) ≡ false
up-to-high high b k which e = elim which [
  | inl is ↦ ap is_gt (key_order_total.antisymm k b) ∙ gt-turned (key_order b k) ∙ ap (λ x. is_past_end key_order x k) (sym is) ∙ e
  | inr is ↦ ap is_gt (turned-less (key_order k b) (ap is_le (sym (key_order_total.antisymm b k)) ∙ ap (λ x. is_past_end key_order x k) (sym is) ∙ e))
]

pub none-between : (low high : Bound KeyTree) (a b k : KeyTree) → (low ≡ Included a) ⊎ (low ≡ Excluded a) → (high ≡ Included b) ⊎ (high ≡ Excluded b) → is_le (key_order a b) ≡ false → range_contains key_order low high k ≡ false
none-between low high a b k start end wrong =
    no-both (is_from_start key_order low k) (is_past_end key_order high k) (λ from upto. turned-round (key_order a b) wrong (through a k b (key_order a k) (key_order k b) refl refl (from-low low a k start from) (up-to-high high b k end upto)))

pub none-inside : (low high : Bound KeyTree) (a b k : KeyTree) → low ≡ Excluded a → high ≡ Excluded b → is_lt (key_order a b) ≡ false → range_contains key_order low high k ≡ false
none-inside low high a b k start end wrong =
    no-both (is_from_start key_order low k) (is_past_end key_order high k) (λ from upto.
    let less = key_order_total.trans a k b (is-less (key_order a k) (ap (λ x. is_from_start key_order x k) (sym start) ∙ from)) (turned-less (key_order k b) (ap is_le (sym (key_order_total.antisymm b k)) ∙ ap (λ x. is_past_end key_order x k) (sym end) ∙ upto)) in
    let so : true ≡ false = sym (ap is_lt less) ∙ wrong in absurd cc)

-- ---- if all parts of a list pass, the next one passes, and so does the rest
module _ {X : Type 0} (all : List X → Bool) (one : X → Bool) (more : (x : X) (xs : List X) → all (x ∷ xs) ≡ one x && all xs) (xs : List X) (i : ℕ) where
  pub next-passes : (x : X) → i < length xs → x ≡ get_or xs i x → all (drop i xs) ≡ true → (one x ≡ true) × (all (drop (i + 1) xs) ≡ true)
  next-passes x within is e =
      and_parts (one x) (all (drop (i + 1) xs)) (sym (ap all (drop-read xs i x within is) ∙ more x (drop (i + 1) xs)) ∙ e)

pub more-conditions : (k : KeyTree) (c : held.Condition) (cs : List held.Condition) → is_in_each k (conditions_of (map condition (c ∷ cs))) ≡ is_in_bounds k (condition c) && is_in_each k (conditions_of (map condition cs))
more-conditions k c cs = refl

module _ (k : KeyTree) (path : List (List ℕ)) where
  abbrev pub of-members : List memory.Member → Bool
  of-members ms = is_in_all k path (members_of (map member ms))

  abbrev pub of-filters : List Members → Bool
  of-filters fs = is_in_filters k path (filters_of fs)

  pub more-members : (m : memory.Member) (ms : List memory.Member) → of-members (m ∷ ms) ≡ is_in_member k path (member m) && of-members ms
  unfolding is_in_all
  more-members m ms = refl

  pub more-filters : (f : Members) (fs : List Members) → of-filters (f ∷ fs) ≡ is_in_all k path f && of-filters fs
  unfolding is_in_filters
  more-filters f fs = refl
