-- Without positions, unwinding returns for rows at positions what it returns for the rows.
use Rattle.std.specs.Prelude.{◌≡◌, ◌<◌, ◌≤◌, ℕ, suc, List, [], ◌∷◌, ◌++◌, length, refl}
use Rattle.std.proofs.Common.{ap, arith, lt-ltb, ◌∙◌}
use Rattle.std.specs.declared.cmp.Ordering.{Ordering}
use Rattle.std.specs.declared.cmp.Ordering.TheVariants.{Less, Equal, Greater}
use Rattle.std.specs.Cmp.{tied_itself}
use Rattle.std.specs.Ordering.{ordering_then}
use Rattle.std.specs.List.{AllByRecursion, flat_map}
use Rattle.std.specs.List.Sorted.{IsStrictlySortedBy}
use Rattle.std.specs.Map.{keys_of}
use Rattle.std.proofs.lemmas.List.{map-append}
use Rattle.std.proofs.lemmas.Map.Keys.{sorted_head, sorted_tail}
use Rattle.dv_value.specs.Tree.{Field}
use Rattle.dv_row.specs.declared.unwind.Unwind.{Unwind}
use Rattle.dv_row.specs.Unwinding.{unwound}
use Rattle.dv_change.specs.declared.position.Part.TheVariants.{At}
use Rattle.dv_change.specs.Changes.{Positioned, forget, in_row_order}
use Rattle.dv_change.specs.Inner.Changes.{HaveOneLength, IsPositioned}
use Rattle.dv_change.specs.Inner.Ordered.{put}
use Rattle.dv_change.specs.Inner.PositionLaws.{part_order_total}
use Rattle.dv_change.specs.Positions.{PosTree, part_order, pos_order}
use Rattle.dv_change.specs.Inner.RowLaws.{put-front}
use Rattle.dv_flow.specs.Inner.Gathered.{all-both}
use Rattle.dv_flow.specs.Placed.{rows_numbered, unwound_at}

-- a position is before those of all these rows
abbrev IsBelow : PosTree → Positioned → Type 0
IsBelow p es = AllByRecursion (λ q. pos_order p q ≡ Less) (keys_of es)

abbrev Ascend : Positioned → Type 0
Ascend es = IsStrictlySortedBy pos_order (keys_of es)

-- ---- rows in order

-- rows in order stay as they are
in_order-stays : (es : Positioned) → Ascend es → in_row_order es ≡ es
in_order-stays [] up = refl
in_order-stays (e ∷ es) up = ap (put e.0 e.1) (in_order-stays es (sorted_tail pos_order e.0 (keys_of es) up)) ∙ put-front e.0 e.1 es (sorted_head pos_order e.0 (keys_of es) up)

-- some rows, followed by others
ascend-both : (es fs : Positioned) → Ascend es → Ascend fs → AllByRecursion (λ p. IsBelow p fs) (keys_of es) → Ascend (es ++ fs)
unfolding IsStrictlySortedBy
ascend-both [] fs some others below = others
ascend-both (e ∷ es) fs some others below = (all-both (λ q. pos_order e.0 q ≡ Less) es fs some.0 below.0, ascend-both es fs some.1 others below.1)

-- ---- positions that continue others

-- if both continue one position, the numbers decide
pub less-numbered : (p : PosTree) (i j : ℕ) → i < j → pos_order (p ++ At i ∷ []) (p ++ At j ∷ []) ≡ Less
less-numbered [] i j less = rw (lt-ltb i j less) refl
less-numbered (a ∷ p) i j less = ap (λ r. ordering_then r (pos_order (p ++ At i ∷ []) (p ++ At j ∷ []))) (tied_itself part_order_total a) ∙ less-numbered p i j less

-- if they continue two different positions of one length, these decide
less-behind : (p q s t : PosTree) → length p ≡ length q → pos_order p q ≡ Less → pos_order (p ++ s) (q ++ t) ≡ Less
less-behind [] [] s t long less = cc
less-behind [] (b ∷ q) s t long less = absurd (omega arith)
less-behind (a ∷ p) [] s t long less = cc
less-behind (a ∷ p) (b ∷ q) s t long less = by (part_order a b) less (λ rest. less-behind p q s t (omega (arith, long)) rest)
  where
    by : (r : Ordering) → ordering_then r (pos_order p q) ≡ Less → (pos_order p q ≡ Less → pos_order (p ++ s) (q ++ t) ≡ Less) → ordering_then r (pos_order (p ++ s) (q ++ t)) ≡ Less
    by Less h behind = refl
    by Equal h behind = behind h
    by Greater h behind = cc

-- ---- numbered rows

all-numbered : (P : PosTree → Type 0) (i : ℕ) (p : PosTree) (ds : List (List Field)) → ((j : ℕ) → i ≤ j → P (p ++ At j ∷ [])) → AllByRecursion P (keys_of (rows_numbered i p ds))
all-numbered P i p [] each = tt
all-numbered P i p (d ∷ ds) each = (each i (omega arith), all-numbered P (suc i) p ds (λ j above. each j (omega arith)))

ascend-numbered : (i : ℕ) (p : PosTree) (ds : List (List Field)) → Ascend (rows_numbered i p ds)
unfolding IsStrictlySortedBy
ascend-numbered i p [] = tt
ascend-numbered i p (d ∷ ds) = (all-numbered (λ q. pos_order (p ++ At i ∷ []) q ≡ Less) (suc i) p ds (λ j above. less-numbered p i j (omega arith)), ascend-numbered (suc i) p ds)

numbered-forgets : (i : ℕ) (p : PosTree) (ds : List (List Field)) → forget (rows_numbered i p ds) ≡ ds
numbered-forgets i p [] = refl
numbered-forgets i p (d ∷ ds) = ap (λ es. d ∷ es) (numbered-forgets (suc i) p ds)

-- ---- the rows of each row

module _ (u : Unwind) where
  abbrev rows_of : PosTree × List Field → Positioned
  rows_of e = rows_numbered 0 e.0 (unwound u e.1)

  rows-forget : (rows : Positioned) → forget (flat_map rows_of rows) ≡ flat_map (unwound u) (forget rows)
  rows-forget [] = refl
  rows-forget (e ∷ rows) = map-append (λ (f : PosTree × List Field). f.1) (rows_of e) (flat_map rows_of rows) ∙ (λ i. numbered-forgets 0 e.0 (unwound u e.1) i ++ rows-forget rows i)

  module _ (n : ℕ) where
    abbrev AreLong : Positioned → Type 0
    AreLong rows = AllByRecursion (λ p. length p ≡ n) (keys_of rows)

    rows-below : (p : PosTree) (i : ℕ) (rows : Positioned) → length p ≡ n → AreLong rows → IsBelow p rows → IsBelow (p ++ At i ∷ []) (flat_map rows_of rows)
    rows-below p i [] long all below = tt
    rows-below p i (f ∷ rows) long all below =
        let here = all-numbered (λ q. pos_order (p ++ At i ∷ []) q ≡ Less) 0 f.0 (unwound u f.1) (λ j above. less-behind p f.0 (At i ∷ []) (At j ∷ []) (omega (arith, long, all.0)) below.0) in
        all-both (λ q. pos_order (p ++ At i ∷ []) q ≡ Less) (rows_of f) (flat_map rows_of rows) here (rows-below p i rows long all.1 below.1)

    ascend-rows : (rows : Positioned) → Ascend rows → AreLong rows → Ascend (flat_map rows_of rows)
    unfolding IsStrictlySortedBy
    ascend-rows [] up all = tt
    ascend-rows (e ∷ rows) up all =
        let below = all-numbered (λ p. IsBelow p (flat_map rows_of rows)) 0 e.0 (unwound u e.1) (λ i above. rows-below e.0 i rows all.0 all.1 up.0) in
        ascend-both (rows_of e) (flat_map rows_of rows) (ascend-numbered 0 e.0 (unwound u e.1)) (ascend-rows rows up.1 all.1) below

  pub unwind_forgets : (rows : Positioned) → IsPositioned rows → HaveOneLength rows → forget (unwound_at u rows) ≡ flat_map (unwound u) (forget rows)
  unfolding unwound_at
  unwind_forgets rows are one = ap forget (in_order-stays (flat_map rows_of rows) (ascend-rows one.0 rows are.ascending one.1)) ∙ rows-forget rows
