-- Rows are split into groups by their keys; which values count in groups.
use Rattle.std.proofs.Common.{◌≡◌, ◌∙◌, ap, refl, Bool, true, false, not, ◌||◌, ◌&&◌, List, [], ◌∷◌, ◌++◌, ℤ, pos, ◌+ℤ◌, filter, map, arith, append-nil, Some, None, if◌then◌else◌}
use Rattle.std.specs.List.{list_any, list_all}
use Rattle.std.specs.Ordering.{is_eq, match_ordering}
use Rattle.std.specs.declared.cmp.Ordering.{Ordering}
use Rattle.std.specs.declared.cmp.Ordering.TheVariants.{Less, Equal, Greater}
use Rattle.std.proofs.lemmas.Int.{ints}
use Rattle.std.proofs.lemmas.Bool.{and_from}
use Rattle.dv_value.specs.Tree.{Tree, int32, int64, string, document, array, boolean, binary, object_id, date, null, timestamp, min_key, max_key, elements_of}
use Rattle.dv_order.specs.Order.{order}
use Rattle.dv_row.specs.Expressions.{Expression, value_of}
use Rattle.dv_row.specs.Row.{Row}
use Rattle.dv_gather.specs.Inner.Counting.{is_number}
use Rattle.dv_gather.specs.Grouping.{Grouping, key_in, keyed, with_present, values_over, group_row, grouped}
use Rattle.dv_gather.specs.Groups.{Keyed, with_key, keys_from, group_keys, documents_under_key, groups_of}
use Rattle.dv_gather.specs.Sums.{addend, total, is_int64, spelled, sum_of}
use Rattle.dv_gather.proofs.GroupRows.{values-more}

-- ---- groups

under-filter : (k : Tree) (rows : List Keyed) → documents_under_key k rows ≡ map (λ row. row.1) (filter (λ row. is_eq (order k row.0)) rows)
under-filter k [] = refl
under-filter k (d ∷ ds) = go (is_eq (order k d.0)) (under-filter k ds)
  where
    others : List Keyed
    others = filter (λ row. is_eq (order k row.0)) ds

    go : (b : Bool) → documents_under_key k ds ≡ map (λ row. row.1) others → (if b then d.1 ∷ documents_under_key k ds else documents_under_key k ds) ≡ map (λ (row : Keyed). row.1) (if b then d ∷ others else others)
    go true rest = ap (λ l. d.1 ∷ l) rest
    go false rest = rest

each-under : (rows : List Keyed) (ks : List Tree) → map (λ k. documents_under_key k rows) ks ≡ map (λ k. map (λ row. row.1) (filter (λ row. is_eq (order k row.0)) rows)) ks
each-under rows [] = refl
each-under rows (k ∷ ks) = ap (λ l. l ∷ map (λ k. documents_under_key k rows) ks) (under-filter k rows) ∙ ap (λ l. map (λ row. row.1) (filter (λ row. is_eq (order k row.0)) rows) ∷ l) (each-under rows ks)

pub groups_filter : (rows : List Keyed) → groups_of rows ≡ map (λ k. map (λ row. row.1) (filter (λ row. is_eq (order k row.0)) rows)) (group_keys rows)
unfolding groups_of
groups_filter rows = each-under rows (group_keys rows)

under-keyed : (g : Grouping) (k : Tree) (rows : List Row) → documents_under_key k (map (keyed g) rows) ≡ filter (λ d. is_eq (order k (key_in g d))) rows
under-keyed g k [] = refl
under-keyed g k (d ∷ ds) = ap (λ l. if is_eq (order k (key_in g d)) then d ∷ l else l) (under-keyed g k ds)

each-row : (g : Grouping) (rows : List Row) (ks : List Tree) → map (group_row g) (map (λ k. documents_under_key k (map (keyed g) rows)) ks) ≡ map (λ k. group_row g (filter (λ d. is_eq (order k (key_in g d))) rows)) ks
each-row g rows [] = refl
each-row g rows (k ∷ ks) = ap (λ l. group_row g l ∷ map (group_row g) (map (λ k. documents_under_key k (map (keyed g) rows)) ks)) (under-keyed g k rows) ∙ ap (λ l. group_row g (filter (λ d. is_eq (order k (key_in g d))) rows) ∷ l) (each-row g rows ks)

pub grouped_filter : (g : Grouping) (rows : List Row) → grouped g rows ≡ map (λ k. group_row g (filter (λ d. is_eq (order k (key_in g d))) rows)) (group_keys (map (keyed g) rows))
unfolding grouped groups_of
grouped_filter g rows = each-row g rows (group_keys (map (keyed g) rows))

-- ---- keys

and-first : (a b : Bool) → a && b ≡ true → a ≡ true
and-first true b h = refl
and-first false b h = absurd cc

and-second : (a b : Bool) → a && b ≡ true → b ≡ true
and-second true b h = h
and-second false b h = absurd cc

module _ (holds : Tree → Bool) where
  all-with : (k : Tree) (ks : List Tree) → holds k ≡ true → list_all holds ks ≡ true → list_all holds (with_key k ks) ≡ true
  all-with k [] own all = and_from (holds k) true own refl
  all-with k (l ∷ ls) own all = go (order k l) (all-with k ls own (and-second (holds l) (list_all holds ls) all))
    where
      go : (o : Ordering) → list_all holds (with_key k ls) ≡ true → list_all holds (match_ordering o (k ∷ l ∷ ls) (l ∷ ls) (l ∷ with_key k ls)) ≡ true
      go Less rest = and_from (holds k) (list_all holds (l ∷ ls)) own all
      go Equal rest = all
      go Greater rest = and_from (holds l) (list_all holds (with_key k ls)) (and-first (holds l) (list_all holds ls) all) rest

  all-from : (ks : List Tree) (rows : List Keyed) → list_all holds ks ≡ true → list_all (λ row. holds row.0) rows ≡ true → list_all holds (keys_from ks rows) ≡ true
  all-from ks [] have all = have
  all-from ks (d ∷ ds) have all = all-from (with_key d.0 ks) ds (all-with d.0 ks (and-first (holds d.0) (list_all (λ row. holds row.0) ds) all) have) (and-second (holds d.0) (list_all (λ row. holds row.0) ds) all)

  pub no_other_key : (rows : List Keyed) → list_all (λ row. holds row.0) rows ≡ true → list_all holds (group_keys rows) ≡ true
  no_other_key rows all = all-from [] rows refl all

-- ---- sums

nothing-added : (v : Tree) → is_number v ≡ false → (addend v ≡ pos 0) × (is_int64 v ≡ false)
nothing-added (int32 n) h = absurd cc
nothing-added (int64 n) h = absurd cc
nothing-added (string s) h = (refl, refl)
nothing-added (document fs) h = (refl, refl)
nothing-added (array vs) h = (refl, refl)
nothing-added (boolean b) h = (refl, refl)
nothing-added (binary s bs) h = (refl, refl)
nothing-added (object_id id) h = (refl, refl)
nothing-added (date n) h = (refl, refl)
nothing-added null h = (refl, refl)
nothing-added (timestamp n) h = (refl, refl)
nothing-added min_key h = (refl, refl)
nothing-added max_key h = (refl, refl)

and-nothing : (n : ℤ) → pos 0 +ℤ n ≡ n
and-nothing n = omega (arith, ints)

total-numbers : (vs : List Tree) → total vs ≡ total (filter is_number vs)
total-numbers [] = refl
total-numbers (v ∷ vs) = go (is_number v) refl (total-numbers vs)
  where
    go : (b : Bool) → is_number v ≡ b → total vs ≡ total (filter is_number vs) → addend v +ℤ total vs ≡ total (if b then v ∷ filter is_number vs else filter is_number vs)
    go true is rest = ap (λ n. addend v +ℤ n) rest
    go false is rest = ap (λ n. n +ℤ total vs) (nothing-added v is).0 ∙ and-nothing (total vs) ∙ rest

wide-numbers : (vs : List Tree) → list_any is_int64 vs ≡ list_any is_int64 (filter is_number vs)
wide-numbers [] = refl
wide-numbers (v ∷ vs) = go (is_number v) refl (wide-numbers vs)
  where
    go : (b : Bool) → is_number v ≡ b → list_any is_int64 vs ≡ list_any is_int64 (filter is_number vs) → is_int64 v || list_any is_int64 vs ≡ list_any is_int64 (if b then v ∷ filter is_number vs else filter is_number vs)
    go true is rest = ap (λ b. is_int64 v || b) rest
    go false is rest = ap (λ b. b || list_any is_int64 vs) (nothing-added v is).1 ∙ rest

pub sum_numbers : (vs : List Tree) → sum_of vs ≡ sum_of (filter is_number vs)
sum_numbers vs = ap (λ b. spelled (not b) (total vs)) (wide-numbers vs) ∙ ap (spelled (not (list_any is_int64 (filter is_number vs)))) (total-numbers vs)

-- ---- values of rows

pub pushed_last : (e : Expression) (rows : List Row) (row : Row) (v : Tree) → value_of e row ≡ Some v → array (elements_of (values_over e (rows ++ row ∷ []))) ≡ array (elements_of (values_over e rows ++ v ∷ []))
pushed_last e rows row v is = ap (λ l. array (elements_of l)) (values-more e rows row ∙ ap (λ c. values_over e rows ++ with_present c []) is)

pub missing_left_out : (e : Expression) (rows : List Row) (row : Row) → value_of e row ≡ None → values_over e (rows ++ row ∷ []) ≡ values_over e rows
missing_left_out e rows row is = values-more e rows row ∙ ap (λ c. values_over e rows ++ with_present c []) is ∙ append-nil (values_over e rows)
