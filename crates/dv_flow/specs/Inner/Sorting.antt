-- Rows in the order of a sort, by positions.
use Rattle.std.specs.Prelude.{◌≡◌, ℕ, zero, suc, ◌+◌, Bool, true, false, cond, List, [], ◌∷◌, ◌++◌, length, map, drop, Option, None, Some, refl}
use Rattle.std.proofs.Common.{ap, arith, sym, ◌∙◌}
use Rattle.std.specs.declared.cmp.Ordering.TheVariants.{Equal}
use Rattle.std.specs.Cmp.{Equal-is}
use Rattle.std.specs.Ordering.{is_eq}
use Rattle.std.specs.List.{AllByRecursion, best_of, flat_map}
use Rattle.dv_value.specs.Tree.{Field, Tree, array, list_of_elements, null}
use Rattle.dv_order.specs.Key.{KeyTree, key_at}
use Rattle.dv_order.specs.OwnKeys.{IsOwn}
use Rattle.dv_order.specs.Inner.SameOrder.{both_Equal}
use Rattle.dv_candidates.specs.Candidates.{Candidate, whole}
use Rattle.dv_path.specs.declared.direction.Direction.{Direction}
use Rattle.dv_path.specs.declared.direction.Direction.TheVariants.{Ascending, Descending}
use Rattle.dv_path.specs.SortKey as keys
use Rattle.dv_path.specs.SortKey.{array_keys, earliest, sort_key, stands_first}
use Rattle.dv_path.specs.SortSpec as sorts
use Rattle.dv_change.specs.Changes.{Positioned, at, in_row_order}
use Rattle.dv_change.specs.Inner.Changes.{HaveOneLength, IsPositioned, alone}
use Rattle.dv_change.specs.Positions.{IsExact, IsExactPart, PosTree, part_order, pos_order}
use Rattle.dv_flow.specs.Inner.Gathered.{all-in_order, all-made, positioned-gathered, single-gathered}
use Rattle.dv_flow.specs.Placed.{part_at, sort_place, sorted_at}

-- ---- a sort key is the key of some value, or the one that no value has

own : (v : Option Tree) → IsOwn (key_at v)
own v = record { of = v; is = refl }

own-array : (vs : List Tree) → AllByRecursion IsOwn (array_keys vs)
own-array [] = (own None, tt)
own-array (v ∷ vs) = (own (Some v), each vs)
  where
    each : (ws : List Tree) → AllByRecursion IsOwn (map (λ w. key_at (Some w)) ws)
    each [] = tt
    each (w ∷ ws) = (own (Some w), each ws)

own-candidate : (c : Candidate) → AllByRecursion IsOwn (keys.sort_keys_of c)
own-candidate None = (own (Some null), tt)
own-candidate (Some (array vs)) = own-array (list_of_elements vs)
own-candidate (Some v) = (own (Some v), tt)

own-some : (ks ls : List KeyTree) → AllByRecursion IsOwn ks → AllByRecursion IsOwn ls → AllByRecursion IsOwn (ks ++ ls)
own-some [] ls a b = b
own-some (k ∷ ks) ls a b = (a.0, own-some ks ls a.1 b)

own-candidates : (cs : List Candidate) → AllByRecursion IsOwn (flat_map keys.sort_keys_of cs)
own-candidates [] = tt
own-candidates (c ∷ cs) = own-some (keys.sort_keys_of c) (flat_map keys.sort_keys_of cs) (own-candidate c) (own-candidates cs)

own-best : (d : Direction) (k : KeyTree) (ks : List KeyTree) → IsOwn k → AllByRecursion IsOwn ks → IsOwn (best_of (stands_first d) k ks)
own-best d k [] one all = one
own-best d k (l ∷ ks) one all = own-best d (cond (stands_first d l k) l k) ks (by (stands_first d l k)) all.1
  where
    by : (b : Bool) → IsOwn (cond b l k)
    by true = all.0
    by false = one

own-earliest : (d : Direction) (ks : List KeyTree) → AllByRecursion IsOwn ks → IsOwn (earliest d ks)
own-earliest d [] all = own (Some null)
own-earliest d (k ∷ ks) all = own-best d k ks all.0 all.1

own-sort_key : (fields : List Field) (path : List (List ℕ)) (d : Direction) → IsOwn (sort_key fields path d)
unfolding sort_key
own-sort_key fields path d = own-earliest d (flat_map keys.sort_keys_of (whole fields path)) (own-candidates (whole fields path))

-- ---- places

exact-part : (d : Direction) (k : KeyTree) → IsOwn k → IsExactPart (part_at d k)
exact-part Ascending k one = one
exact-part Descending k one = one

exact-places : (parts : List sorts.Part) (d : List Field) (p : PosTree) → IsExact p → IsExact (sort_place parts d ++ p)
exact-places [] d p x = x
exact-places (part ∷ parts) d p x = (exact-part part.1 (sort_key d part.0 part.1) (own-sort_key d part.0 part.1), exact-places parts d p x)

places-length : (parts : List sorts.Part) (d : List Field) (p : PosTree) → length (sort_place parts d ++ p) ≡ length parts + length p
places-length [] d p = omega arith
places-length (part ∷ parts) d p = omega (arith, places-length parts d p)

abbrev row_of : List sorts.Part → PosTree × List Field → PosTree × List Field
row_of parts e = (sort_place parts e.1 ++ e.0, e.1)

abbrev rows_of : List sorts.Part → PosTree × List Field → Positioned
rows_of parts e = row_of parts e ∷ []

one-each : (parts : List sorts.Part) (rows : Positioned) → map (row_of parts) rows ≡ flat_map (rows_of parts) rows
one-each parts [] = refl
one-each parts (e ∷ rows) = ap (λ es. row_of parts e ∷ es) (one-each parts rows)

sorted-gathered : (parts : List sorts.Part) (rows : Positioned) → sorted_at parts rows ≡ in_row_order (flat_map (rows_of parts) rows)
unfolding sorted_at
sorted-gathered parts rows = ap in_row_order (one-each parts rows)

-- a position that is the sort keys of a row followed by p has the origin p
behind-of : (parts : List sorts.Part) (d : List Field) (q p : PosTree) → pos_order q (sort_place parts d ++ p) ≡ Equal → pos_order (drop (length parts) q) p ≡ Equal
behind-of [] d q p e = e
behind-of (part ∷ parts) d [] p e = cc
behind-of (part ∷ parts) d (a ∷ q) p e =
    let both = both_Equal (part_order a (part_at part.1 (sort_key d part.0 part.1))) (pos_order q (sort_place parts d ++ p)) e in
    behind-of parts d q p both.1

sort-apart : (parts : List sorts.Part) (e : PosTree × List Field) (q : PosTree) → is_eq (pos_order (drop (length parts) q) e.0) ≡ false → at q (rows_of parts e) ≡ None
sort-apart parts e q other = by (is_eq (pos_order q (sort_place parts e.1 ++ e.0))) refl
  where
    by : (b : Bool) → is_eq (pos_order q (sort_place parts e.1 ++ e.0)) ≡ b → at q (rows_of parts e) ≡ None
    by true here = let there = behind-of parts e.1 q e.0 ((Equal-is (pos_order q (sort_place parts e.1 ++ e.0))).0 here) in cc
    by false here = rw here refl

drop-exact : (n : ℕ) (q : PosTree) → IsExact q → IsExact (drop n q)
drop-exact zero q x = x
drop-exact (suc n) [] x = tt
drop-exact (suc n) (a ∷ q) x = drop-exact n q x.1

pub sort_exact : (parts : List sorts.Part) (q : PosTree) → IsExact q → IsExact (drop (length parts) q)
sort_exact parts q x = drop-exact (length parts) q x

pub sort_empty : (parts : List sorts.Part) → sorted_at parts [] ≡ []
unfolding sorted_at
sort_empty parts = refl

pub sort_ordered : (parts : List sorts.Part) (rows : Positioned) → IsPositioned rows → IsPositioned (sorted_at parts rows)
sort_ordered parts rows are = rw (sorted-gathered parts rows) (positioned-gathered (rows_of parts) (λ e x. (exact-places parts e.1 e.0 x, tt)) rows are)

pub sort_even : (parts : List sorts.Part) (rows : Positioned) → IsPositioned rows → HaveOneLength rows → HaveOneLength (sorted_at parts rows)
sort_even parts rows are one =
    let n = length parts + one.0 in
    rw (sorted-gathered parts rows) (n, all-in_order (λ q. length q ≡ n) (flat_map (rows_of parts) rows) (all-made (rows_of parts) (λ p. length p ≡ one.0) (λ q. length q ≡ n) (λ e l. (places-length parts e.1 e.0 ∙ ap (λ m. length parts + m) l, tt)) rows one.1))

pub sort_single : (parts : List sorts.Part) (rows : Positioned) (q p : PosTree) → IsPositioned rows → IsExact q → IsExact p → pos_order (drop (length parts) q) p ≡ Equal → at q (sorted_at parts rows) ≡ at q (sorted_at parts (alone p (at p rows)))
sort_single parts rows q p are x y e =
    ap (at q) (sorted-gathered parts rows)
    ∙ single-gathered (rows_of parts) (drop (length parts)) (sort-apart parts) rows q p are x y e
    ∙ sym (ap (at q) (sorted-gathered parts (alone p (at p rows))))
