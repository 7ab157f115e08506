-- Rows at positions that are put into an empty list one after the other are its rows afterwards.
use Rattle.std.proofs.Common.{◌≡◌, ℕ, zero, suc, List, [], ◌∷◌, ◌++◌, length, fold, None, Some, cond, refl, ap, sym, subst, ◌∙◌, append_assoc, append-nil}
use Rattle.std.specs.BTreeMap.{insert_entry}
use Rattle.std.specs.List.{AllByRecursion}
use Rattle.std.specs.List.Sorted.{IsStrictlySortedBy}
use Rattle.std.specs.Map.{keys_of}
use Rattle.std.specs.Ordering.{is_eq, match_ordering, ordering_reverse}
use Rattle.std.specs.declared.cmp.Ordering.TheVariants.{Less, Greater}
use Rattle.dv_value.specs.Tree.{Field}
use Rattle.dv_change.specs.declared.change.Change.{Change}
use Rattle.dv_change.specs.declared.change.Change.TheVariants.{Put}
use Rattle.dv_change.specs.Changes.{Positioned, at, with_change, with_changes}
use Rattle.dv_change.specs.Inner.Changes.{IsExactChange, IsPositioned}
use Rattle.dv_change.specs.Inner.Told.{told_along}
use Rattle.dv_change.specs.Inputs.{input_changed_at}
use Rattle.dv_change.specs.Inner.PositionLaws.{pos_order_total}
use Rattle.dv_change.specs.Positions.{IsExact, PosTree, pos_order}
use Rattle.dv_views.specs.Inner.Filled.{firsts_of, puts_of}

-- ---- one list among others

pub changed_mid : (i : ℕ) (c : Change) (front back : List Positioned) (rows : Positioned) → i ≡ length front → input_changed_at i c (front ++ rows ∷ back) ≡ front ++ with_change rows c ∷ back
changed_mid i c [] back rows e = ap (λ n. input_changed_at n c (rows ∷ back)) e
changed_mid zero c (x ∷ front) back rows e = absurd cc
changed_mid (suc i) c (x ∷ front) back rows e = ap (λ ys. x ∷ ys) (changed_mid i c front back rows cc)

pub longer : (i : ℕ) (front : List Positioned) (rows : Positioned) → i ≡ length front → suc i ≡ length (front ++ rows ∷ [])
longer i [] rows e = ap suc e
longer zero (x ∷ front) rows e = absurd cc
longer (suc i) (x ∷ front) rows e = ap suc (longer i front rows cc)

-- ---- rows in order

abbrev AreBelow : Positioned → PosTree → Type 0
AreBelow rows pos = AllByRecursion (λ p. pos_order p pos ≡ Less) (keys_of rows)

turned : (p q : PosTree) → pos_order q p ≡ Less → pos_order p q ≡ Greater
turned p q below = pos_order_total.antisymm p q ∙ ap ordering_reverse below

put-last : (rows : Positioned) (pos : PosTree) (row : List Field) → AreBelow rows pos → insert_entry pos_order rows pos row ≡ rows ++ (pos, row) ∷ []
put-last [] pos row below = refl
put-last (e ∷ rows) pos row below =
    ap (λ o. match_ordering o ((pos, row) ∷ e ∷ rows) ((e.0, row) ∷ rows) (e ∷ insert_entry pos_order rows pos row)) (turned pos e.0 below.0) ∙ ap (λ (es : Positioned). e ∷ es) (put-last rows pos row below.1)

below-mid : (front back : Positioned) (e : PosTree × List Field) (p : PosTree) → AllByRecursion (λ q. pos_order p q ≡ Less) (keys_of (front ++ e ∷ back)) → pos_order p e.0 ≡ Less
below-mid [] back e p all = all.0
below-mid (f ∷ front) back e p all = below-mid front back e p all.1

below-all : (front back : Positioned) (e : PosTree × List Field) → IsStrictlySortedBy pos_order (keys_of (front ++ e ∷ back)) → AreBelow front e.0
unfolding IsStrictlySortedBy
below-all [] back e ascending = tt
below-all (f ∷ front) back e ascending = (below-mid front back e f.0 ascending.0, below-all front back e ascending.1)

abbrev put_in : Positioned → PosTree × List Field → Positioned
put_in rows e = with_change rows (Put e.0 e.1)

filled : (front back : Positioned) → IsStrictlySortedBy pos_order (keys_of (front ++ back)) → fold put_in front back ≡ front ++ back
filled front [] ascending = sym (append-nil front)
filled front (e ∷ back) ascending =
    ap (λ (rows : Positioned). fold put_in rows back) (put-last front e.0 e.1 (below-all front back e ascending))
    ∙ filled (front ++ e ∷ []) back (subst (λ (all : Positioned). IsStrictlySortedBy pos_order (keys_of all)) (sym (append_assoc front (e ∷ []) back)) ascending)
    ∙ append_assoc front (e ∷ []) back

-- ---- rows that are inserted where there were none

puts-fold : (es rows : Positioned) → with_changes rows (puts_of es) ≡ fold put_in rows es
puts-fold [] rows = refl
puts-fold (e ∷ es) rows = puts-fold es (put_in rows e)

-- afterwards they are all of its rows
pub puts_lead : (es : Positioned) → IsPositioned es → with_changes [] (puts_of es) ≡ es
puts_lead es are = puts-fold es [] ∙ filled [] es are.ascending

none-at : (rows : Positioned) (pos : PosTree) → AreBelow rows pos → at pos rows ≡ None
none-at [] pos below = refl
none-at (e ∷ rows) pos below = ap (λ o. cond (is_eq o) (Some e.1) (at pos rows)) (turned pos e.0 below.0) ∙ none-at rows pos below.1

told-behind : (front back : Positioned) → IsStrictlySortedBy pos_order (keys_of (front ++ back)) → firsts_of back ≡ told_along front (puts_of back)
told-behind front [] ascending = refl
told-behind front (e ∷ back) ascending =
    let below = below-all front back e ascending in
    let none = none-at front e.0 below in
    let rest : firsts_of back ≡ told_along (put_in front e) (puts_of back) =
    told-behind (front ++ e ∷ []) back (subst (λ (all : Positioned). IsStrictlySortedBy pos_order (keys_of all)) (sym (append_assoc front (e ∷ []) back)) ascending)
    ∙ ap (λ (rows : Positioned). told_along rows (puts_of back)) (sym (put-last front e.0 e.1 below)) in
    λ i. record { pos = e.0; old = sym none i; new = Some e.1 } ∷ rest i

-- they come with no row that was there before
pub firsts_told : (es : Positioned) → IsPositioned es → firsts_of es ≡ told_along [] (puts_of es)
firsts_told es are = told-behind [] es are.ascending

puts-exact : (es : Positioned) → AllByRecursion IsExact (keys_of es) → AllByRecursion IsExactChange (puts_of es)
puts-exact [] all = tt
puts-exact (e ∷ es) all = (all.0, puts-exact es all.1)

pub puts_exact : (es : Positioned) → IsPositioned es → AllByRecursion IsExactChange (puts_of es)
puts_exact es are = puts-exact es are.exact
