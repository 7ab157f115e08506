-- Rows at their `_id`s, between two keys.
use Rattle.std.proofs.Common.{◌≡◌, ◌&&◌, Bor, Bool, true, false, not, List, [], ◌∷◌, map, filter, Option, Some, None, is_some, cond, refl, ap, sym, subst, ◌∙◌}
use Rattle.std.specs.Prelude.{MatchOption}
use Rattle.std.specs.BTreeMap.Range.{IsLeBy, IsLtBy, is_from_start, is_past_end, range_contains}
use Rattle.std.specs.List.{AllByRecursion}
use Rattle.std.specs.List.Sorted.{IsStrictlySortedBy}
use Rattle.std.specs.Map.{keys_of, values_of}
use Rattle.std.specs.Ordering.{is_gt, is_le, is_lt}
use Rattle.std.specs.Range.Bound.{IsForward, bound_map}
use Rattle.std.specs.declared.cmp.Ordering.TheVariants.{Less}
use Rattle.std.specs.declared.ops.Bound.{Bound}
use Rattle.std.specs.declared.ops.Bound.TheVariants.{Included, Excluded, Unbounded}
use Rattle.dv_value.specs.Tree.{Tree, array, binary, no_elements, element}
use Rattle.dv_order.specs.Key.{KeyTree, key_order, value}
use Rattle.dv_order.specs.Order.{canon}
use Rattle.dv_order.specs.Inner.TotalOrder.{then_Equal}
use Rattle.dv_change.specs.declared.position.Part.TheVariants.{Up}
use Rattle.dv_change.specs.Changes.{Positioned, forget}
use Rattle.dv_change.specs.Positions.{PosTree, pos_order}
use Rattle.dv_coll.specs.Collection.{HasId, IsAscending, IsNoArray, id_key}
use Rattle.dv_coll.specs.Inner.Walk.{walked}
use Rattle.dv_pipe.specs.Sources.{Row}
use Rattle.dv_views.specs.Inner.ById.{AreAtIds, BeginsWithId}

abbrev up : KeyTree → PosTree
up k = Up k ∷ []

-- ---- positions of keys are ordered as the keys

from-start : (low : Bound KeyTree) (k : KeyTree) → is_from_start pos_order (bound_map up low) (up k) ≡ is_from_start key_order low k
from-start (Included a) k = ap is_le (then_Equal (key_order a k))
from-start (Excluded a) k = ap is_lt (then_Equal (key_order a k))
from-start Unbounded k = refl

past-end : (high : Bound KeyTree) (k : KeyTree) → is_past_end pos_order (bound_map up high) (up k) ≡ is_past_end key_order high k
past-end (Included b) k = ap is_lt (then_Equal (key_order b k))
past-end (Excluded b) k = ap is_le (then_Equal (key_order b k))
past-end Unbounded k = refl

same-range : (low high : Bound KeyTree) (k : KeyTree) → range_contains pos_order (bound_map up low) (bound_map up high) (up k) ≡ range_contains key_order low high k
same-range low high k = λ i. from-start low k i && not (past-end high k i)

forward : (low high : Bound KeyTree) → IsForward (IsLeBy key_order) (IsLtBy key_order) low high → IsForward (IsLeBy pos_order) (IsLtBy pos_order) (bound_map up low) (bound_map up high)
forward Unbounded high h = tt
forward (Included a) (Included b) h = ap is_gt (then_Equal (key_order a b)) ∙ h
forward (Included a) (Excluded b) h = ap is_gt (then_Equal (key_order a b)) ∙ h
forward (Included a) Unbounded h = tt
forward (Excluded a) (Included b) h = ap is_gt (then_Equal (key_order a b)) ∙ h
forward (Excluded a) (Excluded b) h = then_Equal (key_order a b) ∙ h
forward (Excluded a) Unbounded h = tt

-- ---- the rows between two ends

pub runs_forward : (low high : Bound KeyTree) (start end : Bound PosTree) → start ≡ bound_map up low → end ≡ bound_map up high → IsForward (IsLeBy key_order) (IsLtBy key_order) low high → IsForward (IsLeBy pos_order) (IsLtBy pos_order) start end
runs_forward low high start end is ends h = subst (λ (ps : Bound PosTree × Bound PosTree). IsForward (IsLeBy pos_order) (IsLtBy pos_order) ps.0 ps.1) (λ i. (sym is i, sym ends i)) (forward low high h)

between-ids : (low high : Bound KeyTree) (rows : Positioned) → AreAtIds rows → values_of (filter (λ e. range_contains pos_order (bound_map up low) (bound_map up high) e.0) rows) ≡ filter (λ d. range_contains key_order low high (id_key d)) (forget rows)
between-ids low high [] are = refl
between-ids low high (e ∷ rows) are =
    let same : range_contains pos_order (bound_map up low) (bound_map up high) e.0 ≡ range_contains key_order low high (id_key e.1) =
    ap (range_contains pos_order (bound_map up low) (bound_map up high)) are.0.1 ∙ same-range low high (id_key e.1) in
    ap (λ (b : Bool). values_of (cond b (e ∷ others) others)) same ∙ by (range_contains key_order low high (id_key e.1)) (between-ids low high rows are.1)
  where
    others : Positioned
    others = filter (λ e. range_contains pos_order (bound_map up low) (bound_map up high) e.0) rows

    by : (b : Bool) → values_of others ≡ filter (λ d. range_contains key_order low high (id_key d)) (forget rows)
        → values_of (cond b (e ∷ others) others) ≡ cond b (e.1 ∷ filter (λ d. range_contains key_order low high (id_key d)) (forget rows)) (filter (λ d. range_contains key_order low high (id_key d)) (forget rows))
    by true rest = ap (λ (ds : List Row). e.1 ∷ ds) rest
    by false rest = rest

pub found_between : (backwards : Bool) (low high : Bound KeyTree) (start end : Bound PosTree) (rows range : Positioned) → start ≡ bound_map up low → end ≡ bound_map up high → AreAtIds rows → range ≡ filter (λ e. range_contains pos_order start end e.0) rows
    → walked backwards (values_of range) ≡ walked backwards (filter (λ d. range_contains key_order low high (id_key d)) (forget rows))
found_between backwards low high start end rows range is ends are found =
    ap (λ (es : Positioned). walked backwards (values_of es)) (found ∙ (λ i. filter (λ e. range_contains pos_order (is i) (ends i) e.0) rows)) ∙ ap (walked backwards) (between-ids low high rows are)

-- ---- rows in order

later : (p : PosTree) (k : KeyTree) → p ≡ up k → (rows : Positioned) → AreAtIds rows → AllByRecursion (λ q. pos_order p q ≡ Less) (keys_of rows) → AllByRecursion (λ l. key_order k l ≡ Less) (map id_key (forget rows))
later p k is [] are all = tt
later p k is (e ∷ rows) are all =
    (sym (then_Equal (key_order k (id_key e.1))) ∙ (λ i. pos_order (sym is i) (sym are.0.1 i)) ∙ all.0, later p k is rows are.1 all.1)

pub ids_ascend : (rows : Positioned) → AreAtIds rows → IsStrictlySortedBy pos_order (keys_of rows) → IsAscending (forget rows)
unfolding IsStrictlySortedBy
ids_ascend [] are up = tt
ids_ascend (e ∷ rows) are up = (later e.0 (id_key e.1) are.0.1 rows are.1 up.0, ids_ascend rows are.1 up.1)

-- ---- arrays

abbrev is_array_key : KeyTree → Bool
is_array_key k = range_contains key_order (Included (value (array no_elements))) (Excluded (value (binary 0 []))) k

plain : (v : Tree) → is_array_key (value (canon v)) ≡ false → IsNoArray v
plain (array no_elements) out = absurd cc
plain (array (element v vs)) out = absurd cc
plain v out = tt

has-id : (d : Row) → BeginsWithId d → is_array_key (id_key d) ≡ false → HasId d
has-id [] begins out = absurd begins
has-id (f ∷ fs) begins out = (begins, plain f.1 out)

-- if no row is in the range of arrays, each has an `_id` that is no array
pub no_arrays : (rows : Positioned) → AreAtIds rows → filter (λ d. is_array_key (id_key d)) (forget rows) ≡ [] → AllByRecursion HasId (forget rows)
no_arrays [] are none = tt
no_arrays (e ∷ rows) are none = by (is_array_key (id_key e.1)) refl none (no_arrays rows are.1)
  where
    others : List Row
    others = filter (λ d. is_array_key (id_key d)) (forget rows)

    by : (b : Bool) → is_array_key (id_key e.1) ≡ b → cond b (e.1 ∷ others) others ≡ [] → (others ≡ [] → AllByRecursion HasId (forget rows)) → HasId e.1 × AllByRecursion HasId (forget rows)
    by true is none rest = absurd cc
    by false is none rest = (has-id e.1 are.0.0 is, rest none)

-- if no row is returned, none is left
pub none_left : (r : Option (Bor Row)) (before after : List Row) → is_some r ≡ false → MatchOption r ((before ≡ []) × (after ≡ [])) (λ x. before ≡ x.now ∷ after) → before ≡ []
none_left None before after none goes = goes.0
none_left (Some x) before after none goes = absurd cc
