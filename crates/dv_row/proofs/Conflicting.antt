-- Conflicts among paths: the order of the paths doesn't matter; if they are in order, it is enough to compare neighbours.
use Rattle.std.proofs.Common.{◌≡◌, ◌∙◌, ap, ap₂, sym, refl, Bool, true, false, ◌&&◌, ◌||◌, not, ◌==◌, List, [], ◌∷◌, ◌++◌, ℕ, zero, suc, ◌+◌, ◌<◌, ◌≤◌, arith, length, get_or, Some, slice_get, if◌then◌else◌}
use Rattle.std.specs.List.{list_any, sum_by}
use Rattle.std.specs.List.Sorted.{IsPermutation}
use Rattle.std.specs.Cmp.Lexicographic.{nat_list_cmp_total}
use Rattle.std.specs.Ordering.{ordering_then, ordering_reverse, is_lt}
use Rattle.std.specs.Str.{bytes_eq}
use Rattle.std.specs.declared.cmp.Ordering.{Ordering}
use Rattle.std.specs.declared.cmp.Ordering.TheVariants.{Less, Equal, Greater}
use Rattle.std.proofs.lemmas.Bool.Decides.{nat_tests}
use Rattle.std.proofs.lemmas.List.Sorted.{sum_by-IsPermutation, length_permutation}
use Rattle.std.proofs.lemmas.List.Sums.{sum_by-cons}
use Rattle.std.proofs.lemmas.Map.Lookups.{exact_bytes}
use Rattle.std.proofs.lemmas.Slice.Eq.{bytes_eq-Decides}
use Rattle.dv_row.specs.Inner.Conflicts.{paths_conflict}
use Rattle.dv_row.specs.ProjectParsing.{one_begins}
use Rattle.dv_row.specs.Inner.Ways.{name_order, way_order}
use Rattle.dv_value.specs.Inner.ByteLaws.{bytes_eq-symmetric}

abbrev Way : Type 0
Way = List (List ℕ)

begins-itself : (p : Way) → one_begins p p ≡ true
begins-itself [] = refl
begins-itself (n ∷ p) = ap₂ (λ a b. a && b) ((bytes_eq-Decides n n).1 refl) (begins-itself p)

pub begins-back : (p q : Way) → one_begins p q ≡ one_begins q p
begins-back [] [] = refl
begins-back [] (m ∷ q) = refl
begins-back (n ∷ p) [] = refl
begins-back (n ∷ p) (m ∷ q) = ap₂ (λ a b. a && b) (bytes_eq-symmetric n m) (begins-back p q)

-- ---- pairs, counted: of each path with each other one twice, and with itself once

abbrev hit : Way → Way → ℕ
hit p q = if one_begins p q then 1 else 0

abbrev pairs : List Way → ℕ
pairs [] = 0
pairs (p ∷ ps) = sum_by (hit p) ps + pairs ps

sum-same : (f g : Way → ℕ) → ((p : Way) → f p ≡ g p) → (ps : List Way) → sum_by f ps ≡ sum_by g ps
sum-same f g h [] = refl
sum-same f g h (p ∷ ps) = sum_by-cons f p ps ∙ ap₂ (λ m n. m + n) (h p) (sum-same f g h ps) ∙ sym (sum_by-cons g p ps)

sum-both : (f g : Way → ℕ) (ps : List Way) → sum_by (λ p. f p + g p) ps ≡ sum_by f ps + sum_by g ps
sum-both f g [] = refl
sum-both f g (p ∷ ps) = let rest = sum-both f g ps in omega (arith, sum_by-cons (λ p. f p + g p) p ps, sum_by-cons f p ps, sum_by-cons g p ps, rest)

abbrev square : List Way → List Way → ℕ
square ps qs = sum_by (λ p. sum_by (hit p) qs) ps

squared : (ps : List Way) → square ps ps ≡ length ps + (pairs ps + pairs ps)
squared [] = refl
squared (p ∷ ps) =
    let m = sum_by (hit p) ps in
    let itself : hit p p ≡ 1 = ap (λ b. if b then 1 else 0) (begins-itself p) in
    let back : sum_by (λ q. hit q p) ps ≡ m = sum-same (λ q. hit q p) (hit p) (λ q. ap (λ b. if b then 1 else 0) (begins-back q p)) ps in
    let others : sum_by (λ q. sum_by (hit q) (p ∷ ps)) ps ≡ sum_by (λ q. hit q p) ps + square ps ps = sum-same (λ q. sum_by (hit q) (p ∷ ps)) (λ q. hit q p + sum_by (hit q) ps) (λ q. sum_by-cons (hit q) p ps) ps ∙ sum-both (λ q. hit q p) (λ q. sum_by (hit q) ps) ps in
    let all : square (p ∷ ps) (p ∷ ps) ≡ sum_by (hit p) (p ∷ ps) + sum_by (λ q. sum_by (hit q) (p ∷ ps)) ps = sum_by-cons (λ q. sum_by (hit q) (p ∷ ps)) p ps in
    let rest = squared ps in
    omega (arith, all, sum_by-cons (hit p) p ps, itself, back, others, rest)

any-hit : (p : Way) (ps : List Way) → list_any (one_begins p) ps ≡ not (sum_by (hit p) ps == 0)
any-hit p [] = refl
any-hit p (q ∷ ps) = go (one_begins p q) (any-hit p ps) ∙ ap (λ n. not (n == 0)) (sym (sum_by-cons (hit p) q ps))
  where
    go : (b : Bool) → list_any (one_begins p) ps ≡ not (sum_by (hit p) ps == 0) → (b || list_any (one_begins p) ps) ≡ not (((if b then 1 else 0) + sum_by (hit p) ps) == 0)
    go true e = grind (arith, nat_tests)
    go false e = let none : sum_by (hit p) ps ≡ 0 + sum_by (hit p) ps = omega arith in e ∙ ap (λ n. not (n == 0)) none

or-zero : (m n : ℕ) → (not (m == 0) || not (n == 0)) ≡ not ((m + n) == 0)
or-zero zero n = let none : n ≡ 0 + n = omega arith in ap (λ n. not (n == 0)) none
or-zero (suc m) n = grind (arith, nat_tests)

conflict-counted : (ps : List Way) → paths_conflict ps ≡ not (pairs ps == 0)
conflict-counted [] = refl
conflict-counted (p ∷ ps) = ap₂ (λ a b. a || b) (any-hit p ps) (conflict-counted ps) ∙ or-zero (sum_by (hit p) ps) (pairs ps)

pub conflict-permuted : (ps qs : List Way) → IsPermutation ps qs → paths_conflict ps ≡ paths_conflict qs
conflict-permuted ps qs moved =
    let inner : square qs qs ≡ square qs ps = sum-same (λ p. sum_by (hit p) qs) (λ p. sum_by (hit p) ps) (λ p. sum_by-IsPermutation (hit p) ps qs moved) qs in
    let outer : square qs ps ≡ square ps ps = sum_by-IsPermutation (λ p. sum_by (hit p) ps) ps qs moved in
    let same : pairs ps ≡ pairs qs = omega (arith, inner, outer, squared ps, squared qs, length_permutation ps qs moved) in
    conflict-counted ps ∙ ap (λ n. not (n == 0)) same ∙ sym (conflict-counted qs)

-- ---- neighbours

-- a path that begins another one begins each path between the two
begins-between : (p q r : Way) → is_lt (way_order q p) ≡ false → is_lt (way_order r q) ≡ false → one_begins p r ≡ true → one_begins p q ≡ true
begins-between [] q r h k e = refl
begins-between (a ∷ p) [] r h k e = absurd cc
begins-between (a ∷ p) (b ∷ q) [] h k e = absurd cc
begins-between (a ∷ p) (b ∷ q) (c ∷ r) h k e = go (name_order b a) refl (λ first second. begins-between p q r first second (right (bytes_eq a c) (one_begins p r) e))
  where
    left : (x y : Bool) → (x && y) ≡ true → x ≡ true
    left true y e = refl
    left false y e = absurd cc

    right : (x y : Bool) → (x && y) ≡ true → y ≡ true
    right true y e = e
    right false y e = absurd cc

    same : a ≡ c
    same = (bytes_eq-Decides a c).0 (left (bytes_eq a c) (one_begins p r) e)

    back : name_order c b ≡ ordering_reverse (name_order b a)
    back = ap (λ n. name_order n b) (sym same) ∙ nat_list_cmp_total.antisymm a b

    go : (o : Ordering) → name_order b a ≡ o → (is_lt (way_order q p) ≡ false → is_lt (way_order r q) ≡ false → one_begins p q ≡ true) → one_begins (a ∷ p) (b ∷ q) ≡ true
    go Less l rest = let no : true ≡ false = sym (ap (λ o. is_lt (ordering_then o (way_order q p))) l) ∙ h in absurd cc
    go Greater l rest = let no : true ≡ false = sym (ap (λ o. is_lt (ordering_then o (way_order r q))) (back ∙ ap ordering_reverse l)) ∙ k in absurd cc
    go Equal l rest =
        let first : is_lt (way_order q p) ≡ false = sym (ap (λ o. is_lt (ordering_then o (way_order q p))) l) ∙ h in
        let second : is_lt (way_order r q) ≡ false = sym (ap (λ o. is_lt (ordering_then o (way_order r q))) (back ∙ ap ordering_reverse l)) ∙ k in
        ap₂ (λ x y. x && y) ((bytes_eq-Decides a b).1 (sym (exact_bytes b a l))) (rest first second)

none-begun : (p q : Way) (rs : List Way) → one_begins p q ≡ false → is_lt (way_order q p) ≡ false → ((k : ℕ) (d : Way) → k < length rs → is_lt (way_order (get_or rs k d) q) ≡ false) → list_any (one_begins p) rs ≡ false
none-begun p q [] e h far = refl
none-begun p q (r ∷ rs) e h far = ap₂ (λ a b. a || b) (go (one_begins p r) refl) (none-begun p q rs e h (λ k d l. far (suc k) d (omega (arith, l))))
  where
    go : (b : Bool) → one_begins p r ≡ b → one_begins p r ≡ false
    go false f = f
    go true f = let no : true ≡ false = sym (begins-between p q r h (far 0 r (omega arith)) f) ∙ e in absurd cc

pub none-near : (ps : List Way) → ((i j : ℕ) (d : Way) → i ≤ j → j < length ps → is_lt (way_order (get_or ps j d) (get_or ps i d)) ≡ false) → ((k : ℕ) (d : Way) → k + 1 < length ps → one_begins (get_or ps k d) (get_or ps (k + 1) d) ≡ false) → paths_conflict ps ≡ false
none-near [] far near = refl
none-near (p ∷ []) far near = refl
none-near (p ∷ q ∷ ps) far near =
    let apart = near 0 p (omega arith) in
    ap₂ (λ a b. a || b) (ap₂ (λ a b. a || b) apart (none-begun p q ps apart (far 0 1 p (omega arith) (omega arith)) (λ k d l. far 1 (suc (suc k)) d (omega arith) (omega (arith, l)))))
    (none-near (q ∷ ps) (λ i j d upto l. far (suc i) (suc j) d (omega (arith, upto)) (omega (arith, l))) (λ k d l. let next : suc (k + 1) ≡ suc k + 1 = omega arith in ap (λ n. one_begins (get_or (q ∷ ps) k d) (get_or (p ∷ q ∷ ps) n d)) next ∙ near (suc k) d (omega (arith, l))))

pub near-conflicts : (ps : List Way) (k : ℕ) (q r : Way) → slice_get ps k ≡ Some q → slice_get ps (k + 1) ≡ Some r → one_begins q r ≡ true → paths_conflict ps ≡ true
near-conflicts [] k q r here next e = absurd cc
near-conflicts (p ∷ []) zero q r here next e = absurd cc
near-conflicts (p ∷ []) (suc k) q r here next e = absurd cc
near-conflicts (p ∷ s ∷ ps) zero q r here next e =
    let first : p ≡ q = cc in
    let second : s ≡ r = cc in
    ap (λ b. (b || list_any (one_begins p) ps) || paths_conflict (s ∷ ps)) (ap₂ one_begins first second ∙ e)
near-conflicts (p ∷ s ∷ ps) (suc k) q r here next e =
    let place : suc (k + 1) ≡ suc k + 1 = omega arith in
    ap (λ b. list_any (one_begins p) (s ∷ ps) || b) (near-conflicts (s ∷ ps) k q r here (ap (slice_get (p ∷ s ∷ ps)) place ∙ next) e) ∙ or-true (list_any (one_begins p) (s ∷ ps))
  where
    or-true : (b : Bool) → b || true ≡ true
    or-true true = refl
    or-true false = refl

-- ---- one path more

pub any-pushed : {X : Type 0} (test : X → Bool) (ps : List X) (q : X) → list_any test (ps ++ q ∷ []) ≡ (list_any test ps || test q)
any-pushed test [] q = or-false (test q)
  where
    or-false : (b : Bool) → (b || false) ≡ b
    or-false true = refl
    or-false false = refl
any-pushed test (p ∷ ps) q = ap (λ b. test p || b) (any-pushed test ps q) ∙ regroup (test p) (list_any test ps) (test q)
  where
    regroup : (a b c : Bool) → (a || (b || c)) ≡ ((a || b) || c)
    regroup true b c = refl
    regroup false b c = refl

-- the path comes after the others
pub conflict-pushed : (ps : List Way) (q : Way) → paths_conflict (ps ++ q ∷ []) ≡ (paths_conflict ps || list_any (one_begins q) ps)
conflict-pushed [] q = refl
conflict-pushed (p ∷ ps) q =
    ap₂ (λ a b. a || b) (any-pushed (one_begins p) ps q ∙ ap (λ b. list_any (one_begins p) ps || b) (begins-back p q)) (conflict-pushed ps q)
    ∙ among (list_any (one_begins p) ps) (one_begins q p) (paths_conflict ps) (list_any (one_begins q) ps)
  where
    among : (a x h b : Bool) → ((a || x) || (h || b)) ≡ ((a || h) || (x || b))
    among true x h b = refl
    among false true true b = refl
    among false true false b = refl
    among false false h b = refl
