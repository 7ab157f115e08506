-- The order of documents by their keys: any two of them compare.
use Rattle.std.proofs.Common.{◌≡◌, ◌∙◌, ap, sym, refl, subst, cond, arith, ◌<◌, true, false, ℕ, List, [], ◌∷◌, length}
use Rattle.std.specs.Cmp.{IsTotalOrder, IsStrictWeakOrder, nat_cmp_total, ranks, on_total, then_total, back_total, tied_itself}
use Rattle.std.specs.Ordering.{MatchOrdering, nat_cmp, is_lt, on, then_cmp, ordering_then, ordering_reverse}
use Rattle.std.specs.declared.cmp.Ordering.{Ordering}
use Rattle.std.specs.declared.cmp.Ordering.TheVariants.{Less, Equal, Greater}
use Rattle.std.proofs.lemmas.List.MinMax.{ranks_by}
use Rattle.dv_value.specs.Tree.{Field}
use Rattle.dv_order.specs.Key.{KeyTree, no_element}
use Rattle.dv_order.specs.Inner.KeyLaws.{key_order_total}
use Rattle.dv_path.specs.declared.direction.Direction.{Direction}
use Rattle.dv_path.specs.declared.direction.Direction.TheVariants.{Ascending, Descending}
use Rattle.dv_path.specs.SortKey.{sort_key, stands_first}
use Rattle.dv_path.specs.SortSpec.{Part}
use Rattle.dv_sort.specs.Sorting.{stands_before}
use Rattle.dv_sort.specs.Inner.Keys.{row_keys, directed, keys_order}

directed_total : (d : Direction) → IsTotalOrder (directed d)
directed_total Ascending = key_order_total
directed_total Descending = back_total key_order_total

-- ---- lists of keys: first whether there is one, then the first, then the others

abbrev some : List KeyTree → ℕ
some [] = 0
some (k ∷ ks) = 1

abbrev head : List KeyTree → KeyTree
head [] = no_element
head (k ∷ ks) = k

abbrev tail : List KeyTree → List KeyTree
tail [] = []
tail (k ∷ ks) = ks

abbrev in_steps : Part → (List KeyTree → List KeyTree → Ordering) → List KeyTree → List KeyTree → Ordering
in_steps p rest = then_cmp (on some nat_cmp) (then_cmp (on head (directed p.1)) (on tail rest))

none-left : (parts : List Part) → keys_order parts [] [] ≡ Equal
none-left [] = refl
none-left (p ∷ parts) = refl

ranked-less : (x y : ℕ) (o : Ordering) → MatchOrdering o (x < y) (x ≡ y) (y < x) → x < y → o ≡ Less
ranked-less x y Less r h = refl
ranked-less x y Equal r h = absurd (omega arith)
ranked-less x y Greater r h = absurd (omega arith)

ranked-greater : (x y : ℕ) (o : Ordering) → MatchOrdering o (x < y) (x ≡ y) (y < x) → y < x → o ≡ Greater
ranked-greater x y Less r h = absurd (omega arith)
ranked-greater x y Equal r h = absurd (omega arith)
ranked-greater x y Greater r h = refl

less : (x y : ℕ) → x < y → nat_cmp x y ≡ Less
less x y h = ranked-less x y (nat_cmp x y) (ranks x y) h

greater : (x y : ℕ) → y < x → nat_cmp x y ≡ Greater
greater x y h = ranked-greater x y (nat_cmp x y) (ranks x y) h

in_steps-is : (p : Part) (parts : List Part) (ks ls : List KeyTree) → in_steps p (keys_order parts) ks ls ≡ keys_order (p ∷ parts) ks ls
in_steps-is p parts [] [] = ap (λ o. ordering_then o (keys_order parts [] [])) (tied_itself (directed_total p.1) no_element) ∙ none-left parts
in_steps-is p parts [] (l ∷ ls) = sym (less 0 (length (l ∷ ls)) (omega arith))
in_steps-is p parts (k ∷ ks) [] = sym (greater (length (k ∷ ks)) 0 (omega arith))
in_steps-is p parts (k ∷ ks) (l ∷ ls) = refl

keys_order_total : (parts : List Part) → IsTotalOrder (keys_order parts)
keys_order_total [] = subst IsTotalOrder (λ i ks ls. by_length ks ls i) (on_total length nat_cmp_total)
  where
    by_length : (ks ls : List KeyTree) → nat_cmp (length ks) (length ls) ≡ keys_order [] ks ls
    by_length ks ls = refl
keys_order_total (p ∷ parts) = subst IsTotalOrder (λ i ks ls. in_steps-is p parts ks ls i) (then_total (on_total some nat_cmp_total) (then_total (on_total head (directed_total p.1)) (on_total tail (keys_order_total parts))))

-- ---- documents by their keys

first-is : (d : Direction) (k l : KeyTree) → stands_first d k l ≡ is_lt (directed d k l)
first-is Ascending k l = refl
first-is Descending k l = refl

decided : (o : Ordering) (rest : Ordering) → cond (is_lt o) true (cond (is_lt (ordering_reverse o)) false (is_lt rest)) ≡ is_lt (ordering_then o rest)
decided Less rest = refl
decided Equal rest = refl
decided Greater rest = refl

pub before-is : (parts : List Part) (d e : List Field) → stands_before parts d e ≡ is_lt (keys_order parts (row_keys parts d) (row_keys parts e))
before-is [] d e = refl
before-is (p ∷ parts) d e =
    let k = sort_key d p.0 p.1 in
    let l = sort_key e p.0 p.1 in
    let back : stands_first p.1 l k ≡ is_lt (ordering_reverse (directed p.1 k l)) = first-is p.1 l k ∙ ap is_lt ((directed_total p.1).antisymm l k) in
    ap (λ b. cond b true (cond (stands_first p.1 l k) false (stands_before parts d e))) (first-is p.1 k l)
    ∙ ap (λ b. cond (is_lt (directed p.1 k l)) true (cond b false (stands_before parts d e))) back
    ∙ ap (λ b. cond (is_lt (directed p.1 k l)) true (cond (is_lt (ordering_reverse (directed p.1 k l))) false b)) (before-is parts d e)
    ∙ decided (directed p.1 k l) (keys_order parts (row_keys parts d) (row_keys parts e))

pub ranks-by-keys : {X : Type 0} (parts : List Part) (keys : X → List KeyTree) → IsStrictWeakOrder (λ x y. is_lt (keys_order parts (keys x) (keys y)))
ranks-by-keys parts keys = ranks_by (keys_order_total parts) keys

pub before-ranks : (parts : List Part) → IsStrictWeakOrder (stands_before parts)
before-ranks parts = subst IsStrictWeakOrder (λ i d e. sym (before-is parts d e) i) (ranks-by-keys parts (row_keys parts))
