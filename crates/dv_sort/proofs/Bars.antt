-- A row that isn't before the bar is not in the prefix.
use Rattle.std.proofs.Common.{◌≡◌, ◌∙◌, ◌+◌, ◌<◌, ◌≤◌, ap, sym, refl, subst, cond, Bool, true, false, not, ℕ, zero, suc, List, [], ◌∷◌, ◌++◌, length, length-append, fold, take, arith, Option, Some, None, IfSome}
use Rattle.std.specs.Cmp.{IsStrictWeakOrder}
use Rattle.std.specs.List.{AllByRecursion, slice_get}
use Rattle.std.specs.Option.{option_map}
use Rattle.std.specs.Ordering.{is_lt}
use Rattle.std.proofs.lemmas.List.{take-take, take-append-le}
use Rattle.std.proofs.lemmas.List.Elements.{recursion_from_All}
use Rattle.dv_value.specs.Tree.{Field}
use Rattle.dv_order.specs.Key.{KeyTree}
use Rattle.dv_path.specs.SortSpec.{Part}
use Rattle.dv_sort.specs.declared.row.Row.{Row}
use Rattle.dv_sort.specs.Inner.Bar.{AreBefore, IsBar, is_behind}
use Rattle.dv_sort.specs.Front.{with_row, front_of}
use Rattle.dv_sort.specs.Keys.{documents}
use Rattle.dv_sort.specs.Inner.Keys.{row_keys, keys_order, HasKeysOf, AreKeyed}
use Rattle.dv_sort.specs.Sorting.{stands_before, placed, ordered, stable}
use Rattle.dv_sort.proofs.Insertion.{inserts, front-placed, ordered-push, Up, up-ordered}
use Rattle.dv_sort.proofs.Kept.{front-kept}
use Rattle.dv_sort.proofs.Standing.{before-is, before-ranks, ranks-by-keys}

-- ---- lists
module _ {X : Type 0} (P : X → Type 0) where
  all-take : (n : ℕ) (ys : List X) → AllByRecursion P ys → AllByRecursion P (take n ys)
  all-take zero ys a = tt
  all-take (suc n) [] a = tt
  all-take (suc n) (y ∷ ys) a = (a.0, all-take n ys a.1)

  all-at : (n : ℕ) (ys : List X) (y : X) → AllByRecursion P ys → slice_get ys n ≡ Some y → P y
  all-at n [] y a here = absurd cc
  all-at zero (z ∷ ys) y a here = subst P (let e : z ≡ y = cc in e) a.0
  all-at (suc n) (z ∷ ys) y a here = all-at n ys y a.1 here

  all-placed : (lt : X → X → Bool) (d : X) (ys : List X) → P d → AllByRecursion P ys → AllByRecursion P (placed lt d ys)
  all-placed lt d [] p a = (p, tt)
  all-placed lt d (y ∷ ys) p a = either (lt d y) (all-placed lt d ys p a.1)
    where
      either : (b : Bool) → AllByRecursion P (placed lt d ys) → AllByRecursion P (cond b (d ∷ y ∷ ys) (y ∷ placed lt d ys))
      either true r = (p, a)
      either false r = (a.0, r)

all-mapped : {X : Type 0} (P Q : X → Type 0) → ((x : X) → P x → Q x) → (ys : List X) → AllByRecursion P ys → AllByRecursion Q ys
all-mapped P Q f [] a = tt
all-mapped P Q f (y ∷ ys) a = (f y a.0, all-mapped P Q f ys a.1)

module _ {X : Type 0} (lt : X → X → Bool) where
  placed-last : (d : X) (ys : List X) → AllByRecursion (λ y. lt d y ≡ false) ys → placed lt d ys ≡ ys ++ d ∷ []
  placed-last d [] a = refl
  placed-last d (y ∷ ys) a = ap (λ b. cond b (d ∷ y ∷ ys) (y ∷ placed lt d ys)) a.0 ∙ ap (λ l. y ∷ l) (placed-last d ys a.1)

  length-placed : (d : X) (ys : List X) → length (placed lt d ys) ≡ suc (length ys)
  length-placed d [] = refl
  length-placed d (y ∷ ys) = either (lt d y) (length-placed d ys)
    where
      either : (b : Bool) → length (placed lt d ys) ≡ suc (length ys) → length (cond b (d ∷ y ∷ ys) (y ∷ placed lt d ys)) ≡ suc (length (y ∷ ys))
      either true e = omega arith
      either false e = omega arith

  length-folded : (acc xs : List X) → length (fold (inserts lt) acc xs) ≡ length acc + length xs
  length-folded acc [] = omega arith
  length-folded acc (x ∷ xs) = omega (arith, length-folded (placed lt x acc) xs, length-placed x acc)

  length-ordered : (xs : List X) → length (ordered lt xs) ≡ length xs
  length-ordered xs = omega (arith, length-folded [] xs)

  -- the item at a place of a list in order comes before none of the items before it
  behind-front : (o : IsStrictWeakOrder lt) (n : ℕ) (ys : List X) (b : X) → Up lt o ys → slice_get ys n ≡ Some b → AllByRecursion (λ y. lt b y ≡ false) (take n ys)
  behind-front o zero ys b u here = tt
  behind-front o (suc n) [] b u here = tt
  behind-front o (suc n) (y ∷ ys) b u here = (all-at (λ z. lt z y ≡ false) n ys b u.0 here, behind-front o n ys b u.1 here)

length-stable : (parts : List Part) (ds : List (List Field)) → length (stable parts ds) ≡ length ds
unfolding stable
length-stable parts ds = length-ordered (stands_before parts) ds

length-take : {X : Type 0} (n : ℕ) (ys : List X) → n ≤ length ys → length (take n ys) ≡ n
length-take zero ys h = refl
length-take (suc n) [] h = absurd (omega arith)
length-take (suc n) (y ∷ ys) h = let e = length-take n ys (omega arith) in omega arith

length-documents : (rows : List Row) → length (documents rows) ≡ length rows
length-documents [] = refl
length-documents (r ∷ rows) = let more = length-documents rows in omega arith

pub length-sorted : (parts : List Part) (xs ys : List Row) → documents ys ≡ stable parts (documents xs) → length ys ≡ length xs
length-sorted parts xs ys e = omega (arith, ap length e, length-documents xs, length-documents ys, length-stable parts (documents xs))

-- ---- a row that isn't before the bar changes nothing
before-none : (parts : List Part) (bar : List KeyTree) (d : List Field) → is_lt (keys_order parts (row_keys parts d) bar) ≡ false
    → (y : List Field) → is_lt (keys_order parts bar (row_keys parts y)) ≡ false → stands_before parts d y ≡ false
before-none parts bar d h y k = before-is parts d y ∙ (ranks-by-keys parts (λ (ks : List KeyTree). ks)).chain (row_keys parts d) bar (row_keys parts y) h k

not-false : (b : Bool) → not b ≡ true → b ≡ false
not-false true e = absurd cc
not-false false e = refl

not-true : (b : Bool) → not b ≡ false → b ≡ true
not-true true e = refl
not-true false e = absurd cc

unchanged : (parts : List Part) (n : ℕ) (ds : List (List Field)) (bar : List KeyTree) (d : List Field) → AreBefore parts n ds bar → is_lt (keys_order parts (row_keys parts d) bar) ≡ false
    → take n (placed (stands_before parts) d (take n (stable parts ds))) ≡ take n (stable parts ds)
unchanged parts n ds bar d a h =
    let first = take n (stable parts ds) in
    let none = all-mapped (λ y. is_lt (keys_order parts bar (row_keys parts y)) ≡ false) (λ y. stands_before parts d y ≡ false) (before-none parts bar d h) first a.1 in
    let enough : n ≤ length first = omega (arith, length-take n (stable parts ds) (omega (arith, a.0, length-stable parts ds))) in
    ap (take n) (placed-last (stands_before parts) d first none)
    ∙ take-append-le n first (d ∷ []) enough
    ∙ take-take n n (stable parts ds) (omega arith)

pub behind-bar : {V : Type 0} (items : V → List KeyTree) (parts : List Part) (most : Option ℕ) (ds : List (List Field)) (bar : Option V) (keys : List KeyTree) (d : List Field)
    → IfSome bar (λ v. IsBar parts most ds (items v)) → keys ≡ row_keys parts d → is_behind parts keys (option_map items bar) ≡ true → with_row (front_of parts most ds) d ≡ front_of parts most ds
behind-bar items parts most ds None keys d a own h = absurd cc
behind-bar items parts None ds (Some bar) keys d a own h = absurd a
behind-bar items parts (Some n) ds (Some bar) keys d a own h =
    let behind = ap (λ ks. is_lt (keys_order parts ks (items bar))) (sym own) ∙ not-false _ h in
    ap (λ rows. record { parts = parts; most = Some n; rows = rows }) (unchanged parts n ds (items bar) d a behind)

-- ---- a row before the bar
still-before : (parts : List Part) (n : ℕ) (ds : List (List Field)) (bar : List KeyTree) (d : List Field) → AreBefore parts n ds bar → is_lt (keys_order parts (row_keys parts d) bar) ≡ true
    → AreBefore parts n (ds ++ d ∷ []) bar
unfolding stable
still-before parts n ds bar d a h =
    let P : List Field → Type 0 = λ y. is_lt (keys_order parts bar (row_keys parts y)) ≡ false in
    let lt = stands_before parts in
    let own = (ranks-by-keys parts (λ (ks : List KeyTree). ks)).one_way (row_keys parts d) bar h in
    let all = all-take P n _ (all-placed P lt d (take n (stable parts ds)) own a.1) in
    let same = front-placed lt (Some n) d (stable parts ds) ∙ ap (take n) (sym (ordered-push lt ds d)) in
    (omega (arith, a.0, length-append ds (d ∷ [])), subst (AllByRecursion P) same all)

pub bar-kept : {V : Type 0} (items : V → List KeyTree) (parts : List Part) (most : Option ℕ) (ds : List (List Field)) (bar : Option V) (keys : List KeyTree) (d : List Field)
    → IfSome bar (λ v. IsBar parts most ds (items v)) → keys ≡ row_keys parts d → is_behind parts keys (option_map items bar) ≡ false → IfSome bar (λ v. IsBar parts most (ds ++ d ∷ []) (items v))
bar-kept items parts most ds None keys d a own h = tt
bar-kept items parts None ds (Some bar) keys d a own h = absurd a
bar-kept items parts (Some n) ds (Some bar) keys d a own h =
    still-before parts n ds (items bar) d a (ap (λ ks. is_lt (keys_order parts ks (items bar))) (sym own) ∙ not-true _ h)

-- ---- the bar after a cut
seen-at : (rows : List Row) (n : ℕ) (row : Row) → slice_get rows n ≡ Some row → slice_get (documents rows) n ≡ Some row.document
seen-at [] n row here = absurd cc
seen-at (r ∷ rows) zero row here = let e : r ≡ row = cc in ap (λ (s : Row). Some s.document) e
seen-at (r ∷ rows) (suc n) row here = seen-at rows n row here

within-at : {X : Type 0} (n : ℕ) (ys : List X) (y : X) → slice_get ys n ≡ Some y → n < length ys
within-at n [] y here = absurd cc
within-at zero (z ∷ ys) y here = omega arith
within-at (suc n) (z ∷ ys) y here = let e = within-at n ys y here in omega arith

cut-before : (parts : List Part) (n : ℕ) (xs ys : List Row) (row : Row) → documents ys ≡ stable parts (documents xs) → AreKeyed parts ys → slice_get ys n ≡ Some row
    → AreBefore parts n (documents (take n ys)) row.keys.items
unfolding stable
cut-before parts n xs ys row e keyed here =
    let lt = stands_before parts in
    let P : List Field → Type 0 = λ y. lt row.document y ≡ false in
    let Q : List Field → Type 0 = λ y. is_lt (keys_order parts row.keys.items (row_keys parts y)) ≡ false in
    let there = subst (λ l. slice_get l n ≡ Some row.document) e (seen-at ys n row here) in
    let all = behind-front lt (before-ranks parts) n (stable parts (documents xs)) row.document (up-ordered lt (before-ranks parts) (documents xs)) there in
    let own : HasKeysOf parts row = all-at (HasKeysOf parts) n ys row (recursion_from_All (HasKeysOf parts) ys keyed) here in
    let by_keys = all-mapped P Q (λ y h. ap (λ ks. is_lt (keys_order parts ks (row_keys parts y))) own.keys ∙ sym (before-is parts row.document y) ∙ h) _ all in
    let count = length-take n ys (omega (arith, within-at n ys row here)) in
    (omega (arith, count, length-documents (take n ys)), subst (AllByRecursion Q) (sym (front-kept parts n xs ys e)) by_keys)

pub cut-bar : {V : Type 0} (items : V → List KeyTree) (parts : List Part) (most : Option ℕ) (n : ℕ) (xs ys rows : List Row) (bar : Option V)
    → most ≡ Some n → documents ys ≡ stable parts (documents xs) → rows ≡ take n ys → AreKeyed parts ys
    → option_map items bar ≡ option_map (λ (row : Row). row.keys.items) (slice_get ys n) → IfSome bar (λ v. IsBar parts most (documents rows) (items v))
cut-bar items parts most n xs ys rows None some e cut keyed keys = tt
cut-bar items parts most n xs ys rows (Some v) some e cut keyed keys = chosen (slice_get ys n) refl keys
  where
    chosen : (o : Option Row) → slice_get ys n ≡ o → Some (items v) ≡ option_map (λ (row : Row). row.keys.items) o → IsBar parts most (documents rows) (items v)
    chosen None here k = absurd cc
    chosen (Some row) here k =
        let same : row.keys.items ≡ items v = cc in
        subst (λ o. IsBar parts o (documents rows) (items v)) (sym some)
        (subst (λ l. AreBefore parts n (documents l) (items v)) (sym cut)
        (subst (AreBefore parts n (documents (take n ys))) same (cut-before parts n xs ys row e keyed here)))
