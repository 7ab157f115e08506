-- Laws of groups, sums and lookups.
use Rattle.std.proofs.Common.{◌≡◌, ◌∙◌, ap, sym, refl, true, false, not, ◌||◌, List, [], ◌∷◌, ◌++◌, ℕ, ℤ, pos, ◌+ℤ◌, ◌-ℤ◌, ◌<◌, ◌^◌, nat_lt, suc, filter, length, map, arith, Ok, if◌then◌else◌}
use Rattle.std.specs.List.{list_any}
use Rattle.std.specs.List.Sorted.{IsStrictlySortedBy}
use Rattle.std.specs.Ordering.{is_eq}
use Rattle.std.specs.declared.cmp.Ordering.{Ordering}
use Rattle.std.specs.declared.cmp.Ordering.TheVariants.{Less, Equal, Greater}
use Rattle.std.proofs.lemmas.Bool.Decides.{nat_tests}
use Rattle.std.proofs.lemmas.Int.{ints}
use Rattle.dv_value.specs.Tree.{Tree, int32, int64, array, no_elements}
use Rattle.dv_value.specs.Spelling.{IsValue}
use Rattle.dv_order.specs.Order.{order}
use Rattle.dv_row.specs.Expressions.{constant, value_of}
use Rattle.dv_row.specs.Row.{Row}
use Rattle.dv_row.specs.Inner.Valid.{AreValid, of-ok}
use Rattle.dv_gather.specs.GroupParsing.{group_in}
use Rattle.dv_gather.specs.Inner.Valid.{IsSoundGroup, IsSoundLookup, grouped-valid, group_in-sound, looked_up-valid, lookup_in-sound}
use Rattle.dv_gather.specs.declared.lookup.Lookup as lookups
use Rattle.dv_gather.specs.Grouping.{Grouping, grouped, values_over}
use Rattle.dv_gather.specs.Groups.{Keyed, group_keys}
use Rattle.dv_gather.specs.Inner.GroupLaws.{Above, above-same, any-equal, key_there, keys_ascend}
use Rattle.dv_gather.specs.Lookups.{looked_up, lookup_in, set_field}
use Rattle.dv_gather.specs.Sums.{total, is_int64, spelled, sum_of}

-- ---- keys

none-above : (x : Tree) (ks : List Tree) → Above x ks → filter (λ k. is_eq (order x k)) ks ≡ []
none-above x [] h = refl
none-above x (k ∷ ks) h = ap (λ o. if is_eq o then k ∷ filter (λ k. is_eq (order x k)) ks else filter (λ k. is_eq (order x k)) ks) h.0 ∙ none-above x ks h.1

one-equal : (x : Tree) (ks : List Tree) → IsStrictlySortedBy order ks → any-equal x ks ≡ true → length (filter (λ k. is_eq (order x k)) ks) ≡ 1
unfolding IsStrictlySortedBy
one-equal x [] h some = absurd (let same : false ≡ true = some in cc)
one-equal x (k ∷ ks) h some = go (order x k) refl (one-equal x ks h.1)
  where
    others : List Tree
    others = filter (λ k. is_eq (order x k)) ks

    go : (o : Ordering) → order x k ≡ o → (any-equal x ks ≡ true → length others ≡ 1) → length (if is_eq o then k ∷ others else others) ≡ 1
    go Less e rest = rest (sym (ap (λ o. is_eq o || any-equal x ks) e) ∙ some)
    go Equal e rest = ap (λ l. suc (length l)) (none-above x ks (above-same x k ks e h.0))
    go Greater e rest = rest (sym (ap (λ o. is_eq o || any-equal x ks) e) ∙ some)

pub one_key : (before after : List Keyed) (row : Keyed) → length (filter (λ k. is_eq (order row.0 k)) (group_keys (before ++ row ∷ after))) ≡ 1
one_key before after row = one-equal row.0 (group_keys (before ++ row ∷ after)) (keys_ascend (before ++ row ∷ after)) (key_there before after row)

-- ---- sums

abbrev ones : List Row → List Tree
ones = values_over (constant (int32 (pos 1)))

ones-total : (rows : List Row) → total (ones rows) ≡ pos (length rows)
unfolding value_of
ones-total [] = refl
ones-total (d ∷ rows) = ap (λ n. pos 1 +ℤ n) (ones-total rows) ∙ one-more (length rows)
  where
    one-more : (n : ℕ) → pos 1 +ℤ pos n ≡ pos (suc n)
    one-more n = omega (arith, ints)

ones-narrow : (rows : List Row) → list_any is_int64 (ones rows) ≡ false
unfolding value_of
ones-narrow [] = refl
ones-narrow (d ∷ rows) = ones-narrow rows

pub ones_count : (rows : List Row) → length rows < 2 ^ 31 → sum_of (ones rows) ≡ int32 (pos (length rows))
unfolding spelled
ones_count rows few =
    let fits : nat_lt (length rows) (2 ^ 31) ≡ true = grind (arith, nat_tests) in
    ap (λ b. spelled (not b) (total (ones rows))) (ones-narrow rows) ∙ ap (spelled true) (ones-total rows) ∙ ap (λ b. if b then int32 (pos (length rows)) else spelled false (pos (length rows))) fits

pub opposites : (n : ℤ) → sum_of (int64 n ∷ int64 (pos 0 -ℤ n) ∷ []) ≡ int64 (pos 0)
unfolding spelled
opposites n =
    let nothing : n +ℤ ((pos 0 -ℤ n) +ℤ pos 0) ≡ pos 0 = omega (arith, ints) in
    ap (spelled false) nothing

-- ---- lookups

pub nothing_found : (lookup : lookups.Lookup) (rows : List Row) → looked_up lookup rows [] ≡ map (set_field lookup.target (array no_elements)) rows
unfolding looked_up
nothing_found lookup rows = refl

-- ---- validity

pub grouped_valid : (v : Tree) (group : Grouping) (rows : List Row) → IsValue v → group_in v ≡ Ok group → AreValid rows → AreValid (grouped group rows)
grouped_valid v group rows value is valid = grouped-valid group rows (of-ok IsSoundGroup (group_in v) group is (group_in-sound v value)) valid

pub looked_up_valid : (v : Tree) (lookup : lookups.Lookup) (rows others : List Row) → IsValue v → lookup_in v ≡ Ok lookup → AreValid rows → AreValid others → AreValid (looked_up lookup rows others)
looked_up_valid v lookup rows others value is valid fine = looked_up-valid lookup rows others (of-ok IsSoundLookup (lookup_in v) lookup is (lookup_in-sound v value)) valid fine
