-- A change of a row makes two changes of the rows of groups at most: one at the key that it had, and one at the key that it has.
use Rattle.std.specs.Prelude.{◌≡◌, ◌||◌, ◌+◌, ◌≤◌, Bool, true, false, cond, List, [], ◌∷◌, ◌++◌, filter, length, Option, None, Some, is_none, ⊤, refl}
use Rattle.std.proofs.Common.{ap, arith, ◌∙◌}
use Rattle.std.specs.declared.cmp.Ordering.TheVariants.{Less}
use Rattle.std.specs.Cmp.{Equal-is, tied_itself}
use Rattle.std.specs.List.{AllByRecursion}
use Rattle.std.specs.List.Sorted.{IsStrictlySortedBy}
use Rattle.std.specs.Map.{keys_of}
use Rattle.std.specs.Option.{option_map}
use Rattle.std.specs.Ordering.{is_eq}
use Rattle.std.proofs.lemmas.List.{length-append, length-map}
use Rattle.dv_order.specs.Key.{KeyTree}
use Rattle.dv_row.specs.Row.{Row}
use Rattle.dv_change.specs.declared.change.Change.{Change}
use Rattle.dv_change.specs.declared.change.Change.TheVariants.{Gone}
use Rattle.dv_change.specs.declared.position.Part.TheVariants.{Up}
use Rattle.dv_change.specs.Changes.{Positioned, at, forget, with_change}
use Rattle.dv_change.specs.Inner.Changes.{IsExactChange, IsPositioned, position_changed, row_in}
use Rattle.dv_change.specs.Difference.{diff, gones, puts}
use Rattle.dv_change.specs.Inner.DiffLaws.{all-filter, positioned-filter, puts-length}
use Rattle.dv_change.specs.Inner.PositionLaws.{pos_order_total}
use Rattle.dv_change.specs.Positions.{PosTree, pos_order}
use Rattle.dv_change.specs.Inner.RowLaws.{all-implied, at_back}
use Rattle.dv_gather.specs.Grouping.{Grouping, row_shown}
use Rattle.dv_group.specs.Inner.Grouped.{or-right}
use Rattle.dv_group.specs.Inner.Members.{row_key, rows_with, shown_of, with_shown}
use Rattle.dv_group.specs.Placed.{grouped_at}
use Rattle.dv_group.proofs.Owed.{all-put_some, group-owed, shown-are}

-- ---- positions apart from each other

abbrev IsApart : PosTree → PosTree → Type 0
IsApart p q = is_eq (pos_order p q) ≡ false

abbrev AreApart : List PosTree → Type 0
AreApart [] = ⊤
AreApart (q ∷ qs) = AllByRecursion (IsApart q) qs × AreApart qs

less-apart : (qs : List PosTree) → IsStrictlySortedBy pos_order qs → AreApart qs
unfolding IsStrictlySortedBy
less-apart [] up = tt
less-apart (q ∷ qs) up = (all-implied (λ p. pos_order q p ≡ Less) (IsApart q) (λ p less. ap is_eq less) qs up.0, less-apart qs up.1)

all-both : (P : PosTree → Type 0) (ps qs : List PosTree) → AllByRecursion P ps → AllByRecursion P qs → AllByRecursion P (ps ++ qs)
all-both P [] qs some others = others
all-both P (p ∷ ps) qs some others = (some.0, all-both P ps qs some.1 others)

apart-both : (ps qs : List PosTree) → AreApart ps → AreApart qs → AllByRecursion (λ p. AllByRecursion (IsApart p) qs) ps → AreApart (ps ++ qs)
apart-both [] qs some others between = others
apart-both (p ∷ ps) qs some others between = (all-both (IsApart p) ps qs some.0 between.0, apart-both ps qs some.1 others between.1)

not-both : (p q a : PosTree) → IsApart p q → is_eq (pos_order p a) ≡ true → is_eq (pos_order q a) ≡ true → ⊥
not-both p q a apart here there =
    let beside : is_eq (pos_order p q) ≡ true = ap is_eq (pos_order_total.congr p a q ((Equal-is (pos_order p a)).0 here)) ∙ at_back a q ∙ there in
    cc

module _ (a b : PosTree) where
  -- a position is one of two
  abbrev IsOne : PosTree → Type 0
  IsOne p = is_eq (pos_order p a) || is_eq (pos_order p b) ≡ true

  -- of three, two are equal
  no-three : (xa xb ya yb za zb : Bool) → (xa ≡ true → ya ≡ true → ⊥) → (xb ≡ true → yb ≡ true → ⊥) → (xa ≡ true → za ≡ true → ⊥) → (xb ≡ true → zb ≡ true → ⊥) → (ya ≡ true → za ≡ true → ⊥) → (yb ≡ true → zb ≡ true → ⊥)
      → xa || xb ≡ true → ya || yb ≡ true → za || zb ≡ true → ⊥
  no-three true xb true yb za zb xya xyb xza xzb yza yzb x y z = xya refl refl
  no-three true xb false true true zb xya xyb xza xzb yza yzb x y z = xza refl refl
  no-three true xb false true false true xya xyb xza xzb yza yzb x y z = yzb refl refl
  no-three true xb false true false false xya xyb xza xzb yza yzb x y z = cc
  no-three true xb false false za zb xya xyb xza xzb yza yzb x y z = cc
  no-three false true ya true za zb xya xyb xza xzb yza yzb x y z = xyb refl refl
  no-three false true true false true zb xya xyb xza xzb yza yzb x y z = yza refl refl
  no-three false true true false false true xya xyb xza xzb yza yzb x y z = xzb refl refl
  no-three false true true false false false xya xyb xza xzb yza yzb x y z = cc
  no-three false true false false za zb xya xyb xza xzb yza yzb x y z = cc
  no-three false false ya yb za zb xya xyb xza xzb yza yzb x y z = cc

  two-at-most : (qs : List PosTree) → AreApart qs → AllByRecursion IsOne qs → length qs ≤ 2
  two-at-most [] apart all = omega arith
  two-at-most (x ∷ []) apart all = omega arith
  two-at-most (x ∷ y ∷ []) apart all = omega arith
  two-at-most (x ∷ y ∷ z ∷ qs) apart all =
      absurd (no-three (is_eq (pos_order x a)) (is_eq (pos_order x b)) (is_eq (pos_order y a)) (is_eq (pos_order y b)) (is_eq (pos_order z a)) (is_eq (pos_order z b))
      (not-both x y a apart.0.0) (not-both x y b apart.0.0) (not-both x z a apart.0.1.0) (not-both x z b apart.0.1.0) (not-both y z a apart.1.0.0) (not-both y z b apart.1.0.0) all.0 all.1.0 all.1.1.0)

  -- ---- differences at two positions

  none-apart : (p : PosTree) (es : Positioned) → is_none (at p es) ≡ true → AllByRecursion (IsApart p) (keys_of es)
  none-apart p [] none = tt
  none-apart p (e ∷ es) none = by (is_eq (pos_order p e.0)) refl none (none-apart p es)
    where
      by : (b : Bool) → is_eq (pos_order p e.0) ≡ b → is_none (cond b (Some e.1) (at p es)) ≡ true → (is_none (at p es) ≡ true → AllByRecursion (IsApart p) (keys_of es)) → AllByRecursion (IsApart p) (keys_of (e ∷ es))
      by true is none rest = absurd (let no : false ≡ true = none in cc)
      by false is none rest = (is, rest none)

  abbrev goes : Positioned → PosTree × Row → Bool
  goes new e = is_none (at e.0 new)

  all-gone : (new es : Positioned) → AllByRecursion (λ p. AllByRecursion (IsApart p) (keys_of new)) (keys_of (filter (goes new) es))
  all-gone new [] = tt
  all-gone new (e ∷ es) = by (goes new e) refl (all-gone new es)
    where
      by : (b : Bool) → goes new e ≡ b → AllByRecursion (λ p. AllByRecursion (IsApart p) (keys_of new)) (keys_of (filter (goes new) es)) → AllByRecursion (λ p. AllByRecursion (IsApart p) (keys_of new)) (keys_of (cond b (e ∷ filter (goes new) es) (filter (goes new) es)))
      by true is rest = (none-apart e.0 new is, rest)
      by false is rest = rest

  diff-two : (old new : Positioned) → IsPositioned old → IsPositioned new → AllByRecursion IsOne (keys_of old) → AllByRecursion IsOne (keys_of new) → length (diff old new) ≤ 2
  diff-two old new are-old are-new all-old all-new =
      let left = filter (goes new) old in
      let two = two-at-most (keys_of left ++ keys_of new) (apart-both (keys_of left) (keys_of new) (less-apart (keys_of left) (positioned-filter (goes new) old are-old).ascending) (less-apart (keys_of new) are-new.ascending) (all-gone new old))
      (all-both IsOne (keys_of left) (keys_of new) (all-filter (goes new) IsOne old all-old) all-new) in
      omega (arith, two, length-append (gones old new) (puts old new), length-append (keys_of left) (keys_of new), length-map left (λ (e : PosTree × Row). Gone e.0), puts-length old new, length-map left (λ (e : PosTree × Row). e.0), length-map new (λ (e : PosTree × Row). e.0))

-- ---- the rows of the groups of two keys

abbrev place : Option KeyTree → PosTree
place None = []
place (Some k) = Up k ∷ []

module _ (g : Grouping) (under : KeyTree → Positioned) (key other : Option KeyTree) where
  itself : (p : PosTree) → is_eq (pos_order p p) ≡ true
  itself p = ap is_eq (tied_itself pos_order_total p)

  first-one : (some : Option KeyTree) (rows : Positioned) → AllByRecursion (IsOne (place some) (place other)) (keys_of rows) → AllByRecursion (IsOne (place some) (place other)) (keys_of (with_shown g under some rows))
  first-one None rows all = all
  first-one (Some k) rows all = all-put_some (IsOne (Up k ∷ []) (place other)) (Up k ∷ []) (row_shown g (forget (under k))) rows all (ap (λ b. b || is_eq (pos_order (Up k ∷ []) (place other))) (itself (Up k ∷ [])))

  second-one : (some : Option KeyTree) (rows : Positioned) → AllByRecursion (IsOne (place key) (place some)) (keys_of rows) → AllByRecursion (IsOne (place key) (place some)) (keys_of (with_shown g under some rows))
  second-one None rows all = all
  second-one (Some k) rows all = all-put_some (IsOne (place key) (Up k ∷ [])) (Up k ∷ []) (row_shown g (forget (under k))) rows all (or-right (is_eq (pos_order (Up k ∷ []) (place key))) (is_eq (pos_order (Up k ∷ []) (Up k ∷ []))) (itself (Up k ∷ [])))

  shown-one : AllByRecursion (IsOne (place key) (place other)) (keys_of (shown_of g under key other))
  shown-one = second-one other (with_shown g under key []) (first-one key [] tt)

pub group-bound : (g : Grouping) (rows : Positioned) (change : Change) → IsPositioned rows → IsExactChange change → length (diff (grouped_at g rows) (grouped_at g (with_change rows change))) ≤ 2
group-bound g rows change are exact =
    let key = option_map (row_key g) (at (position_changed change) rows) in
    let other = option_map (row_key g) (row_in change) in
    let was = λ (k : KeyTree). rows_with g k rows in
    let now = λ (k : KeyTree). rows_with g k (with_change rows change) in
    rw (group-owed g rows change are exact was now (λ k. refl) (λ k. refl))
    (diff-two (place key) (place other) (shown_of g was key other) (shown_of g now key other) (shown-are g rows change are exact was now (λ k. refl) (λ k. refl) was) (shown-are g rows change are exact was now (λ k. refl) (λ k. refl) now) (shown-one g was key other) (shown-one g now key other))
