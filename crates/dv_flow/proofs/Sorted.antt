-- Without positions, a sort of rows at positions is the sort of the rows.
use Rattle.std.specs.Prelude.{◌≡◌, Bool, true, false, cond, List, [], ◌∷◌, ◌++◌, fold, map, refl}
use Rattle.std.proofs.Common.{ap, subst, sym, ◌∙◌}
use Rattle.std.specs.declared.cmp.Ordering.{Ordering}
use Rattle.std.specs.declared.cmp.Ordering.TheVariants.{Less, Equal, Greater}
use Rattle.std.specs.Cmp.{IsStrictWeakOrder}
use Rattle.std.specs.Ordering.{is_lt, ordering_reverse, ordering_then}
use Rattle.std.specs.List.{AllByRecursion}
use Rattle.std.specs.List.Sorted.{IsStrictlySortedBy}
use Rattle.std.specs.Map.{keys_of}
use Rattle.std.proofs.lemmas.List.MinMax.{ranks_by}
use Rattle.std.proofs.lemmas.Map.Keys.{sorted_head, sorted_tail}
use Rattle.dv_value.specs.Tree.{Field}
use Rattle.dv_order.specs.Key.{KeyTree}
use Rattle.dv_path.specs.declared.direction.Direction.{Direction}
use Rattle.dv_path.specs.declared.direction.Direction.TheVariants.{Ascending, Descending}
use Rattle.dv_path.specs.SortKey.{sort_key, stands_first}
use Rattle.dv_path.specs.SortSpec.{Part}
use Rattle.dv_sort.specs.Sorting.{ordered, placed, stable, stands_before}
use Rattle.dv_change.specs.Changes.{Positioned, forget, in_row_order}
use Rattle.dv_change.specs.Inner.Changes.{IsPositioned}
use Rattle.dv_change.specs.Inner.Ordered.{put}
use Rattle.dv_change.specs.Inner.PositionLaws.{part_order_total, pos_order_total}
use Rattle.dv_change.specs.Positions.{PosTree, part_order, pos_order}
use Rattle.dv_flow.specs.Placed.{part_at, sort_place, sorted_at}

-- ---- sorting puts the first element before its ties

module _ {X : Type 0} (before : X → X → Bool) where
  -- sorted elements and one more, put before all that are not ordered before it
  abbrev fronted : X → List X → List X
  fronted x [] = x ∷ []
  fronted x (y ∷ ys) = cond (before y x) (y ∷ fronted x ys) (x ∷ y ∷ ys)

module _ {X : Type 0} (before : X → X → Bool) (o : IsStrictWeakOrder before) where
  placed-fronted : (x y : X) (zs : List X) → placed before x (fronted before y zs) ≡ fronted before y (placed before x zs)
  placed-fronted x y [] = refl
  placed-fronted x y (z ∷ zs) = by (before z y) (before x z) (before x y) refl refl refl (placed-fronted x y zs)
    where
      by : (b c d : Bool) → before z y ≡ b → before x z ≡ c → before x y ≡ d → placed before x (fronted before y zs) ≡ fronted before y (placed before x zs)
          → placed before x (cond b (z ∷ fronted before y zs) (y ∷ z ∷ zs)) ≡ fronted before y (cond c (x ∷ z ∷ zs) (z ∷ placed before x zs))
      by true true true zy xz xy rest = rw (xz, xy, zy) refl
      by true true false zy xz xy rest = let never = o.chain x y z xy (o.one_way z y zy) in absurd cc
      by true false d zy xz xy rest = rw (xz, zy) (ap (λ ws. z ∷ ws) rest)
      by false true true zy xz xy rest = rw (xy, zy) refl
      by false true false zy xz xy rest = rw (xy, xz) refl
      by false false true zy xz xy rest = let never = o.chain x z y xz zy in absurd cc
      by false false false zy xz xy rest = rw (xy, xz, zy) refl

  folded-fronted : (y : X) (zs xs : List X) → fold (λ ws x. placed before x ws) (fronted before y zs) xs ≡ fronted before y (fold (λ ws x. placed before x ws) zs xs)
  folded-fronted y zs [] = refl
  folded-fronted y zs (x ∷ xs) = ap (λ ys. fold (λ ws w. placed before w ws) ys xs) (placed-fronted x y zs) ∙ folded-fronted y (placed before x zs) xs

  ordered-first : (x : X) (xs : List X) → ordered before (x ∷ xs) ≡ fronted before x (ordered before xs)
  ordered-first x xs = folded-fronted x [] xs

-- ---- rows are ordered as their places are

first-is : (d : Direction) (k l : KeyTree) → stands_first d k l ≡ is_lt (part_order (part_at d k) (part_at d l))
first-is Ascending k l = refl
first-is Descending k l = refl

decided : (r rest : Ordering) → cond (is_lt r) true (cond (is_lt (ordering_reverse r)) false (is_lt rest)) ≡ is_lt (ordering_then r rest)
decided Less rest = refl
decided Equal rest = refl
decided Greater rest = refl

before-is : (parts : List Part) (d e : List Field) → stands_before parts d e ≡ is_lt (pos_order (sort_place parts d) (sort_place parts e))
before-is [] d e = refl
before-is (part ∷ parts) d e =
    let k = sort_key d part.0 part.1 in
    let l = sort_key e part.0 part.1 in
    let a = part_at part.1 k in
    let b = part_at part.1 l in
    let back : stands_first part.1 l k ≡ is_lt (ordering_reverse (part_order a b)) = first-is part.1 l k ∙ ap is_lt (part_order_total.antisymm b a) in
    (λ i. cond (first-is part.1 k l i) true (cond (back i) false (before-is parts d e i))) ∙ decided (part_order a b) (pos_order (sort_place parts d) (sort_place parts e))

before-ranks : (parts : List Part) → IsStrictWeakOrder (stands_before parts)
before-ranks parts = subst IsStrictWeakOrder (λ i d e. sym (before-is parts d e) i) (ranks_by pos_order_total (sort_place parts))

-- the places decide first, then what follows them
places-first : (parts : List Part) (d e : List Field) (p q : PosTree) → pos_order (sort_place parts d ++ p) (sort_place parts e ++ q) ≡ ordering_then (pos_order (sort_place parts d) (sort_place parts e)) (pos_order p q)
places-first [] d e p q = refl
places-first (part ∷ parts) d e p q = by (part_order (part_at part.1 (sort_key d part.0 part.1)) (part_at part.1 (sort_key e part.0 part.1))) (places-first parts d e p q)
  where
    both : Ordering
    both = pos_order (sort_place parts d ++ p) (sort_place parts e ++ q)

    places : Ordering
    places = pos_order (sort_place parts d) (sort_place parts e)

    by : (r : Ordering) → both ≡ ordering_then places (pos_order p q) → ordering_then r both ≡ ordering_then (ordering_then r places) (pos_order p q)
    by Less rest = refl
    by Equal rest = rest
    by Greater rest = refl

turned : (r : Ordering) → ordering_then r Less ≡ cond (is_lt (ordering_reverse r)) Greater Less
turned Less = refl
turned Equal = refl
turned Greater = refl

-- ---- rows at positions

module _ (parts : List Part) where
  abbrev row_of : PosTree × List Field → PosTree × List Field
  row_of e = (sort_place parts e.1 ++ e.0, e.1)

  abbrev comes_before : PosTree × List Field → PosTree × List Field → Bool
  comes_before e f = stands_before parts e.1 f.1

  -- the later of two rows comes first only if the sort orders it before the other one
  earlier-row : (e f : PosTree × List Field) → pos_order e.0 f.0 ≡ Less → pos_order (sort_place parts e.1 ++ e.0) (sort_place parts f.1 ++ f.0) ≡ cond (comes_before f e) Greater Less
  earlier-row e f less =
      let ones = sort_place parts e.1 in
      let others = sort_place parts f.1 in
      let back : comes_before f e ≡ is_lt (ordering_reverse (pos_order ones others)) = before-is parts f.1 e.1 ∙ ap is_lt (pos_order_total.antisymm others ones) in
      places-first parts e.1 f.1 e.0 f.0 ∙ ap (ordering_then (pos_order ones others)) less ∙ turned (pos_order ones others) ∙ ap (λ b. cond b Greater Less) (sym back)

  put-fronted : (e : PosTree × List Field) (es : Positioned) → AllByRecursion (λ q. pos_order e.0 q ≡ Less) (keys_of es) → put (sort_place parts e.1 ++ e.0) e.1 (map row_of es) ≡ map row_of (fronted comes_before e es)
  put-fronted e [] below = refl
  put-fronted e (f ∷ es) below = by (comes_before f e) (earlier-row e f below.0) (put-fronted e es below.1)
    where
      pos : PosTree
      pos = sort_place parts e.1 ++ e.0

      by : (b : Bool) → pos_order pos (sort_place parts f.1 ++ f.0) ≡ cond b Greater Less → put pos e.1 (map row_of es) ≡ map row_of (fronted comes_before e es)
          → put pos e.1 (row_of f ∷ map row_of es) ≡ map row_of (cond b (f ∷ fronted comes_before e es) (e ∷ f ∷ es))
      by true h rest = rw h (ap (λ fs. row_of f ∷ fs) rest)
      by false h rest = rw h refl

  all-fronted : (P : PosTree → Type 0) (e : PosTree × List Field) (es : Positioned) → P e.0 → AllByRecursion P (keys_of es) → AllByRecursion P (keys_of (fronted comes_before e es))
  all-fronted P e [] here all = (here, tt)
  all-fronted P e (f ∷ es) here all = by (comes_before f e) (all-fronted P e es here all.1)
    where
      by : (b : Bool) → AllByRecursion P (keys_of (fronted comes_before e es)) → AllByRecursion P (keys_of (cond b (f ∷ fronted comes_before e es) (e ∷ f ∷ es)))
      by true rest = (all.0, rest)
      by false rest = (here, all)

  fronted-forgets : (e : PosTree × List Field) (es : Positioned) → forget (fronted comes_before e es) ≡ fronted (stands_before parts) e.1 (forget es)
  fronted-forgets e [] = refl
  fronted-forgets e (f ∷ es) = by (comes_before f e) (fronted-forgets e es)
    where
      by : (b : Bool) → forget (fronted comes_before e es) ≡ fronted (stands_before parts) e.1 (forget es)
          → forget (cond b (f ∷ fronted comes_before e es) (e ∷ f ∷ es)) ≡ cond b (f.1 ∷ fronted (stands_before parts) e.1 (forget es)) (e.1 ∷ f.1 ∷ forget es)
      by true rest = ap (λ ds. f.1 ∷ ds) rest
      by false rest = refl

  -- rows sorted one by one, beginning with the last
  abbrev fronts : Positioned → Positioned
  fronts [] = []
  fronts (e ∷ rows) = fronted comes_before e (fronts rows)

  all-fronts : (P : PosTree → Type 0) (rows : Positioned) → AllByRecursion P (keys_of rows) → AllByRecursion P (keys_of (fronts rows))
  all-fronts P [] all = tt
  all-fronts P (e ∷ rows) all = all-fronted P e (fronts rows) all.0 (all-fronts P rows all.1)

  in_order-fronts : (rows : Positioned) → IsStrictlySortedBy pos_order (keys_of rows) → in_row_order (map row_of rows) ≡ map row_of (fronts rows)
  in_order-fronts [] up = refl
  in_order-fronts (e ∷ rows) up =
      ap (put (sort_place parts e.1 ++ e.0) e.1) (in_order-fronts rows (sorted_tail pos_order e.0 (keys_of rows) up))
      ∙ put-fronted e (fronts rows) (all-fronts (λ q. pos_order e.0 q ≡ Less) rows (sorted_head pos_order e.0 (keys_of rows) up))

  rows-forget : (rows : Positioned) → forget (map row_of rows) ≡ forget rows
  rows-forget [] = refl
  rows-forget (e ∷ rows) = ap (λ ds. e.1 ∷ ds) (rows-forget rows)

  fronts-forget : (rows : Positioned) → forget (fronts rows) ≡ ordered (stands_before parts) (forget rows)
  fronts-forget [] = refl
  fronts-forget (e ∷ rows) =
      fronted-forgets e (fronts rows) ∙ ap (fronted (stands_before parts) e.1) (fronts-forget rows) ∙ sym (ordered-first (stands_before parts) (before-ranks parts) e.1 (forget rows))

  pub sort_forgets : (rows : Positioned) → IsPositioned rows → forget (sorted_at parts rows) ≡ stable parts (forget rows)
  unfolding sorted_at stable
  sort_forgets rows are = ap forget (in_order-fronts rows are.ascending) ∙ rows-forget (fronts rows) ∙ fronts-forget rows
