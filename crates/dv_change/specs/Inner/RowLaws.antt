-- The value at each position after a put and after a removal; and lists that are equal since each position has the same value.
use Rattle.std.specs.Prelude.{◌≡◌, Bool, true, false, cond, List, [], ◌∷◌, Some, None, refl}
use Rattle.std.proofs.Common.{ap, sym, ◌∙◌}
use Rattle.std.specs.declared.cmp.Ordering.{Ordering}
use Rattle.std.specs.declared.cmp.Ordering.TheVariants.{Less, Equal, Greater}
use Rattle.std.specs.Ordering.{is_eq, match_ordering, ordering_reverse}
use Rattle.std.specs.BTreeMap.{is_at}
use Rattle.std.specs.Cmp.{Equal-is, alike_right, eq_by_cmp_equiv, tied_itself}
use Rattle.std.specs.FinMap.{nat_cmp-IsAntisymmetric}
use Rattle.std.specs.List.{AllByRecursion}
use Rattle.std.specs.List.Sorted.{IsStrictlySortedBy}
use Rattle.std.specs.Map.{keys_of}
use Rattle.std.proofs.lemmas.Map.{lookup-none, lookup-remove_entry}
use Rattle.std.proofs.lemmas.Map.Entries.{lookup_head, lookup_tail, none_past_head, none_below_head}
use Rattle.std.proofs.lemmas.Map.Keys.{IsDistinct-from_sorted}
use Rattle.dv_order.specs.Inner.OwnKeys.{own_keys_are_one}
use Rattle.dv_order.specs.Inner.SameOrder.{both_Equal}
use Rattle.dv_change.specs.declared.position.Part.{Part}
use Rattle.dv_change.specs.declared.position.Part.TheVariants.{Up, Down, At}
use Rattle.dv_change.specs.Positions.{IsExact, IsExactPart, PosTree, part_order, pos_order}
use Rattle.dv_change.specs.Inner.PositionLaws.{pos_order_total}
use Rattle.dv_change.specs.Inner.Changes.{IsPositioned}
use Rattle.dv_change.specs.Inner.Ordered.{found_at, gone, put}

-- ---- exact positions

part_exact : (a b : Part) → IsExactPart a → IsExactPart b → part_order a b ≡ Equal → a ≡ b
part_exact (Up k) (Up l) x y e = ap Up (own_keys_are_one k l x y e)
part_exact (Down k) (Down l) x y e = ap Down (sym (own_keys_are_one l k y x e))
part_exact (At m) (At n) x y e = ap At (nat_cmp-IsAntisymmetric m n e)
part_exact (Up k) (Down l) x y e = cc
part_exact (Up k) (At n) x y e = cc
part_exact (Down k) (Up l) x y e = cc
part_exact (Down k) (At n) x y e = cc
part_exact (At m) (Up l) x y e = cc
part_exact (At m) (Down l) x y e = cc

-- exact positions that are equal in the order are identical
pub pos_exact : (p q : PosTree) → IsExact p → IsExact q → pos_order p q ≡ Equal → p ≡ q
pos_exact [] [] x y e = refl
pos_exact [] (b ∷ q) x y e = cc
pos_exact (a ∷ p) [] x y e = cc
pos_exact (a ∷ p) (b ∷ q) x y e =
    let parts = both_Equal (part_order a b) (pos_order p q) e in
    let first = part_exact a b x.0 y.0 parts.0 in
    let rest = pos_exact p q x.1 y.1 parts.1 in
    λ i. first i ∷ rest i

-- ---- what holds of all

pub all-implied : {K : Type 0} (P Q : K → Type 0) → ((k : K) → P k → Q k) → (ks : List K) → AllByRecursion P ks → AllByRecursion Q ks
all-implied P Q f [] all = tt
all-implied P Q f (k ∷ ks) all = (f k all.0, all-implied P Q f ks all.1)

-- ---- tests

twice : {A : Type 0} (b c : Bool) (x y z : A) → c ≡ b → cond b x z ≡ cond c x (cond b y z)
twice true true x y z e = refl
twice true false x y z e = cc
twice false true x y z e = cc
twice false false x y z e = refl

apart : {A : Type 0} (b c : Bool) (x y z w : A) → (b ≡ true → c ≡ true → ⊥) → w ≡ cond c x z → cond b y w ≡ cond c x (cond b y z)
apart true true x y z w never e = absurd (never refl refl)
apart true false x y z w never e = refl
apart false true x y z w never e = e
apart false false x y z w never e = e

-- either way round
pub at_back : (p q : PosTree) → is_eq (pos_order p q) ≡ is_eq (pos_order q p)
at_back p q = (eq_by_cmp_equiv pos_order_total).symm p q

below_not_beside : (r : Ordering) → r ≡ Greater → r ≡ Equal → ⊥
below_not_beside r g e = cc

module _ {V : Type 0} where
  -- positions that are equal in the order have the same value
  pub at-like : (p q : PosTree) → pos_order p q ≡ Equal → (es : List (PosTree × V)) → found_at p es ≡ found_at q es
  at-like p q e [] = refl
  at-like p q e (x ∷ es) = λ i. cond (is_eq (pos_order_total.congr p q x.0 e i)) (Some x.1) (at-like p q e es i)

  pub at-put : (q p : PosTree) (v : V) (es : List (PosTree × V)) → found_at q (put p v es) ≡ cond (is_eq (pos_order q p)) (Some v) (found_at q es)
  at-put q p v [] = refl
  at-put q p v (e ∷ es) = by (pos_order p e.0) refl (at-put q p v es)
    where
      by : (r : Ordering) → pos_order p e.0 ≡ r → found_at q (put p v es) ≡ cond (is_eq (pos_order q p)) (Some v) (found_at q es) → found_at q (match_ordering r ((p, v) ∷ e ∷ es) ((e.0, v) ∷ es) (e ∷ put p v es)) ≡ cond (is_eq (pos_order q p)) (Some v) (found_at q (e ∷ es))
      by Less h rest = refl
      by Equal h rest = twice (is_eq (pos_order q e.0)) (is_eq (pos_order q p)) (Some v) (Some e.1) (found_at q es) (ap is_eq (alike_right pos_order_total p e.0 q h))
      by Greater h rest = apart (is_eq (pos_order q e.0)) (is_eq (pos_order q p)) (Some v) (Some e.1) (found_at q es) (found_at q (put p v es)) (λ b c. below_not_beside (pos_order p e.0) h (sym (pos_order_total.congr q p e.0 ((Equal-is (pos_order q p)).0 c)) ∙ (Equal-is (pos_order q e.0)).0 b)) rest

  pub at-gone : (q p : PosTree) (es : List (PosTree × V)) → IsStrictlySortedBy pos_order (keys_of es) → found_at q (gone p es) ≡ cond (is_eq (pos_order p q)) None (found_at q es)
  at-gone q p es ascending = lookup-remove_entry (eq_by_cmp_equiv pos_order_total) (is_at (pos_order p)) ((eq_by_cmp_equiv pos_order_total).congr p) q es (IsDistinct-from_sorted pos_order (keys_of es) ascending)

  -- ---- in order

  pub all-put : (P : PosTree → Type 0) (p : PosTree) (v : V) (es : List (PosTree × V)) → AllByRecursion P (keys_of es) → P p → AllByRecursion P (keys_of (put p v es))
  all-put P p v [] all here = (here, tt)
  all-put P p v (e ∷ es) all here = by (pos_order p e.0) (all-put P p v es all.1 here)
    where
      by : (r : Ordering) → AllByRecursion P (keys_of (put p v es)) → AllByRecursion P (keys_of (match_ordering r ((p, v) ∷ e ∷ es) ((e.0, v) ∷ es) (e ∷ put p v es)))
      by Less rest = (here, all)
      by Equal rest = all
      by Greater rest = (all.0, rest)

  pub all-gone : (P : PosTree → Type 0) (p : PosTree) (es : List (PosTree × V)) → AllByRecursion P (keys_of es) → AllByRecursion P (keys_of (gone p es))
  all-gone P p [] all = tt
  all-gone P p (e ∷ es) all = by (is_eq (pos_order p e.0)) (all-gone P p es all.1)
    where
      by : (b : Bool) → AllByRecursion P (keys_of (gone p es)) → AllByRecursion P (keys_of (cond b es (e ∷ gone p es)))
      by true rest = all.1
      by false rest = (all.0, rest)

  sorted-put : (p : PosTree) (v : V) (es : List (PosTree × V)) → IsStrictlySortedBy pos_order (keys_of es) → IsStrictlySortedBy pos_order (keys_of (put p v es))
  unfolding IsStrictlySortedBy
  sorted-put p v [] s = (tt, tt)
  sorted-put p v (e ∷ es) s = by (pos_order p e.0) refl (sorted-put p v es s.1)
    where
      by : (r : Ordering) → pos_order p e.0 ≡ r → IsStrictlySortedBy pos_order (keys_of (put p v es)) → IsStrictlySortedBy pos_order (keys_of (match_ordering r ((p, v) ∷ e ∷ es) ((e.0, v) ∷ es) (e ∷ put p v es)))
      by Less h rest = ((h, all-implied (λ y. pos_order e.0 y ≡ Less) (λ y. pos_order p y ≡ Less) (λ y below. pos_order_total.trans p e.0 y h below) (keys_of es) s.0), s)
      by Equal h rest = s
      by Greater h rest = (all-put (λ y. pos_order e.0 y ≡ Less) p v es s.0 (pos_order_total.antisymm e.0 p ∙ ap ordering_reverse h), rest)

  sorted-gone : (p : PosTree) (es : List (PosTree × V)) → IsStrictlySortedBy pos_order (keys_of es) → IsStrictlySortedBy pos_order (keys_of (gone p es))
  unfolding IsStrictlySortedBy
  sorted-gone p [] s = tt
  sorted-gone p (e ∷ es) s = by (is_eq (pos_order p e.0)) (sorted-gone p es s.1)
    where
      by : (b : Bool) → IsStrictlySortedBy pos_order (keys_of (gone p es)) → IsStrictlySortedBy pos_order (keys_of (cond b es (e ∷ gone p es)))
      by true rest = s.1
      by false rest = (all-gone (λ y. pos_order e.0 y ≡ Less) p es s.0, rest)

  pub positioned-none : IsPositioned {V = V} []
  unfolding IsStrictlySortedBy
  positioned-none = record { ascending = tt; exact = tt }

  pub positioned-put : (p : PosTree) (v : V) (es : List (PosTree × V)) → IsPositioned es → IsExact p → IsPositioned (put p v es)
  positioned-put p v es are x = record { ascending = sorted-put p v es are.ascending; exact = all-put IsExact p v es are.exact x }

  pub positioned-gone : (p : PosTree) (es : List (PosTree × V)) → IsPositioned es → IsPositioned (gone p es)
  positioned-gone p es are = record { ascending = sorted-gone p es are.ascending; exact = all-gone IsExact p es are.exact }

  pub positioned-tail : (e : PosTree × V) (es : List (PosTree × V)) → IsPositioned (e ∷ es) → IsPositioned es
  unfolding IsStrictlySortedBy
  positioned-tail e es are = record { ascending = are.ascending.1; exact = are.exact.1 }

  -- what is below all others is put before them
  pub put-front : (p : PosTree) (v : V) (es : List (PosTree × V)) → AllByRecursion (λ q. pos_order p q ≡ Less) (keys_of es) → put p v es ≡ (p, v) ∷ es
  put-front p v [] below = refl
  put-front p v (e ∷ es) below = ap (λ r. match_ordering r ((p, v) ∷ e ∷ es) ((e.0, v) ∷ es) (e ∷ put p v es)) below.0

  -- ---- lists with the same value at each position

  own : (e : PosTree × V) (es : List (PosTree × V)) → found_at e.0 (e ∷ es) ≡ Some e.1
  own e es = lookup_head (is_at (pos_order e.0)) e es (ap is_eq (tied_itself pos_order_total e.0))

  -- there is nothing below the first
  pub below : (p : PosTree) (e : PosTree × V) (es : List (PosTree × V)) → IsPositioned (e ∷ es) → pos_order p e.0 ≡ Less → found_at p (e ∷ es) ≡ None
  below p e es are h = lookup-none (is_at (pos_order p)) (e ∷ es) (none_below_head pos_order_total p e es are.ascending h)

  -- after the first, there is nothing at its position
  pub past : (p : PosTree) (e : PosTree × V) (es : List (PosTree × V)) → IsPositioned (e ∷ es) → is_eq (pos_order p e.0) ≡ true → found_at p es ≡ None
  past p e es are h = lookup-none (is_at (pos_order p)) es (none_past_head (eq_by_cmp_equiv pos_order_total) p e es (IsDistinct-from_sorted pos_order (keys_of (e ∷ es)) are.ascending) h)

  -- lists with the same value at each exact position are equal
  pub same_rows : (xs ys : List (PosTree × V)) → IsPositioned xs → IsPositioned ys → ((q : PosTree) → IsExact q → found_at q xs ≡ found_at q ys) → xs ≡ ys
  same_rows [] [] a b h = refl
  same_rows [] (y ∷ ys) a b h = let o = own y ys in let e = h y.0 b.exact.0 in cc
  same_rows (x ∷ xs) [] a b h = let o = own x xs in let e = h x.0 a.exact.0 in cc
  same_rows (x ∷ xs) (y ∷ ys) a b h = by (λ others. same_rows xs ys (positioned-tail x xs a) (positioned-tail y ys b) others) (pos_order x.0 y.0) refl
    where
      by : (((q : PosTree) → IsExact q → found_at q xs ≡ found_at q ys) → xs ≡ ys) → (r : Ordering) → pos_order x.0 y.0 ≡ r → x ∷ xs ≡ y ∷ ys
      by behind Less g = let o = own x xs in let e = h x.0 a.exact.0 in let n = below x.0 y ys b g in cc
      by behind Greater g =
          let turned : pos_order y.0 x.0 ≡ Less = pos_order_total.antisymm y.0 x.0 ∙ ap ordering_reverse g in
          let o = own y ys in let e = h y.0 b.exact.0 in let n = below y.0 x xs a turned in cc
      by behind Equal g =
          let pos : x.0 ≡ y.0 = pos_exact x.0 y.0 a.exact.0 b.exact.0 g in
          let there : found_at x.0 (y ∷ ys) ≡ Some y.1 = lookup_head (is_at (pos_order x.0)) y ys (ap is_eq g) in
          let o = own x xs in let e = h x.0 a.exact.0 in
          let row : x.1 ≡ y.1 = cc in
          let rest : xs ≡ ys = behind (λ q exact. others q exact pos (is_eq (pos_order q x.0)) refl) in
          λ i. (pos i, row i) ∷ rest i
        where
          others : (q : PosTree) → IsExact q → x.0 ≡ y.0 → (t : Bool) → is_eq (pos_order q x.0) ≡ t → found_at q xs ≡ found_at q ys
          others q exact pos true t = past q x xs a t ∙ sym (past q y ys b (ap (λ p. is_eq (pos_order q p)) (sym pos) ∙ t))
          others q exact pos false t = sym (lookup_tail (is_at (pos_order q)) x xs t) ∙ h q exact ∙ lookup_tail (is_at (pos_order q)) y ys (ap (λ p. is_eq (pos_order q p)) (sym pos) ∙ t)
