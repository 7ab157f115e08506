-- Rows that a sort's first path sorts before a bar come first, so the first rows are found among any rows that have the same rows
-- before it.
use Rattle.std.proofs.Common.{Bor, ◌≡◌, ◌∙◌, ◌+◌, ◌<◌, ◌≤◌, ◌&&◌, ◌||◌, ℕ, zero, suc, arith, Bool, true, false, cond, List, [], ◌∷◌, ◌++◌, Option, None, Some, ap, sym, subst, refl, filter, fold, length, map, slice_get, take}
use Rattle.std.proofs.lemmas.Cmp.{alike_right}
use Rattle.std.proofs.lemmas.List.{take-append-le}
use Rattle.std.specs.List.{AllByRecursion}
use Rattle.std.specs.Option.{IfSome}
use Rattle.std.specs.Ordering.{is_eq, is_lt, ordering_reverse}
use Rattle.std.specs.declared.cmp.Ordering.{Ordering}
use Rattle.std.specs.declared.cmp.Ordering.TheVariants.{Less, Equal, Greater}
use Rattle.std.proofs.lemmas.Bool.{or_parts, and_parts}
use Rattle.dv_value.specs.Tree.{Field}
use Rattle.dv_coll.specs.Collection.{AreStanding, HasId, IsAscending, found, id_key}
use Rattle.dv_keyed.specs.Inner.Ahead.{is_until}
use Rattle.dv_keyed.specs.declared.before.Bar.{Bar}
use Rattle.dv_index.specs.Inner.Ahead.{is_ahead}
use Rattle.dv_order.specs.Key.{KeyTree, key_order}
use Rattle.dv_order.specs.Inner.KeyLaws.{key_order_total, is-less, equal-from}
use Rattle.dv_path.specs.declared.direction.Direction.{Direction}
use Rattle.dv_path.specs.declared.direction.Direction.TheVariants.{Ascending, Descending}
use Rattle.dv_path.specs.declared.sort_spec.SortPart.{SortPart}
use Rattle.dv_path.specs.Parts.{part}
use Rattle.dv_path.specs.SortKey.{sort_key, stands_first}
use Rattle.dv_path.specs.SortSpec.{Part}
use Rattle.dv_sort.specs.Sorting.{placed, stable, stands_before}
use Rattle.dv_catalog.specs.Inner.ScanLaws.{all_placed}
use Rattle.dv_catalog.proofs.Keys.{AreBefore, before_ascending}

abbrev Rows : Type 0
Rows = List (List Field)

-- ---- a key before a bar is before all keys that aren't

turned-back : (k l : KeyTree) → key_order k l ≡ Greater → key_order l k ≡ Less
turned-back k l e = key_order_total.antisymm l k ∙ ap ordering_reverse e

-- in either direction
through-bar : (k bar l : KeyTree) → is_lt (key_order k bar) ≡ true → is_lt (key_order l bar) ≡ false → key_order k l ≡ Less
through-bar k bar l before behind = by (key_order k l) refl
  where
    not-so : key_order l bar ≡ Less → ⊥
    not-so less = let wrong : true ≡ false = sym (ap is_lt less) ∙ behind in absurd cc

    by : (o : Ordering) → key_order k l ≡ o → key_order k l ≡ Less
    by Less e = e
    by Equal e = absurd (not-so (sym (key_order_total.congr k l bar e) ∙ is-less (key_order k bar) before))
    by Greater e = absurd (not-so (key_order_total.trans l k bar (turned-back k l e) (is-less (key_order k bar) before)))

through-bar-back : (k bar l : KeyTree) → is_lt (key_order bar k) ≡ true → is_lt (key_order bar l) ≡ false → key_order l k ≡ Less
through-bar-back k bar l before behind = by (key_order l k) refl
  where
    not-so : key_order bar l ≡ Less → ⊥
    not-so less = let wrong : true ≡ false = sym (ap is_lt less) ∙ behind in absurd cc

    by : (o : Ordering) → key_order l k ≡ o → key_order l k ≡ Less
    by Less e = e
    by Equal e = absurd (not-so (alike_right key_order_total l k bar e ∙ is-less (key_order bar k) before))
    by Greater e = absurd (not-so (key_order_total.trans bar k l (is-less (key_order bar k) before) (turned-back l k e)))

not-back : (k l : KeyTree) → key_order k l ≡ Less → is_lt (key_order l k) ≡ false
not-back k l e = ap is_lt (key_order_total.antisymm l k ∙ ap ordering_reverse e)

stands-first : (direction : Direction) (k bar l : KeyTree) → stands_first direction k bar ≡ true → stands_first direction l bar ≡ false → (stands_first direction k l ≡ true) × (stands_first direction l k ≡ false)
stands-first Ascending k bar l before behind = let less = through-bar k bar l before behind in (ap is_lt less, not-back k l less)
stands-first Descending k bar l before behind = let less = through-bar-back k bar l before behind in (ap is_lt less, not-back l k less)

-- equal keys have the same order relative to other keys
equal-before : (direction : Direction) (k bar l : KeyTree) → key_order k bar ≡ Equal → stands_first direction l k ≡ stands_first direction l bar
equal-before Ascending k bar l e = ap is_lt (alike_right key_order_total k bar l e)
equal-before Descending k bar l e = ap is_lt (key_order_total.congr k bar l e)

equal-behind : (direction : Direction) (k bar l : KeyTree) → key_order k bar ≡ Equal → stands_first direction k l ≡ stands_first direction bar l
equal-behind Ascending k bar l e = ap is_lt (key_order_total.congr k bar l e)
equal-behind Descending k bar l e = ap is_lt (alike_right key_order_total k bar l e)

-- two keys are equal if neither is before the other
neither-less : (k l : KeyTree) → is_lt (key_order k l) ≡ false → is_lt (key_order l k) ≡ false → key_order k l ≡ Equal
neither-less k l here there = by (key_order k l) refl
  where
    by : (o : Ordering) → key_order k l ≡ o → key_order k l ≡ Equal
    by Less e = let wrong : true ≡ false = sym (ap is_lt e) ∙ here in absurd cc
    by Equal e = e
    by Greater e = let wrong : true ≡ false = sym (ap is_lt (turned-back k l e)) ∙ there in absurd cc

neither-first : (direction : Direction) (k l : KeyTree) → stands_first direction k l ≡ false → stands_first direction l k ≡ false → key_order k l ≡ Equal
neither-first Ascending k l here there = neither-less k l here there
neither-first Descending k l here there = neither-less k l there here

-- if an `_id` is before an end, so is any `_id` before it
earlier-until : (i j : KeyTree) (until : Option (Bor KeyTree)) → key_order j i ≡ Less → is_until i until ≡ true → is_until j until ≡ true
earlier-until i j None less e = absurd cc
earlier-until i j (Some end) less e = ap is_lt (key_order_total.trans j i end.now less (is-less (key_order i end.now) e))

where-until : (P : Type 0) (i : KeyTree) (until : Option (Bor KeyTree)) → is_until i until ≡ true → IfSome until (λ end. P) → P
where-until P i None e h = absurd cc
where-until P i (Some end) e h = h

same-way : (b : Bool) → cond b false false ≡ false
same-way true = refl
same-way false = refl

module _ (p : Part) (parts : List Part) (bar : Bar) (tied : IfSome bar.until (λ until. parts ≡ [])) where
  abbrev before : List Field → List Field → Bool
  before = stands_before (p ∷ parts)

  abbrev ahead : List Field → Bool
  ahead = is_ahead p bar

  abbrev key : List Field → KeyTree
  key d = sort_key d p.0 p.1

  abbrev is-first : KeyTree → KeyTree → Bool
  is-first = stands_first p.1

  -- a row before the bar is sorted before the bar's key, or by this key, and then its `_id` is before the end
  abbrev IsTied : List Field → Type 0
  IsTied d = (key_order (key d) bar.key.now ≡ Equal) × (is_until (id_key d) bar.until ≡ true)

  is-tied : (d : List Field) → ahead d ≡ true → is-first (key d) bar.key.now ≡ false → IsTied d
  is-tied d h behind =
      let parted = and_parts (is_eq (key_order (key d) bar.key.now)) (is_until (id_key d) bar.until) (ap (λ b. b || (is_eq (key_order (key d) bar.key.now) && is_until (id_key d) bar.until)) (sym behind) ∙ h) in
      (equal-from (key_order (key d) bar.key.now) parted.0, parted.1)

  abbrev IsBehind : List Field → Type 0
  IsBehind e = (is-first (key e) bar.key.now ≡ false) × (is_eq (key_order (key e) bar.key.now) && is_until (id_key e) bar.until ≡ false)

  is-behind : (e : List Field) → ahead e ≡ false → IsBehind e
  is-behind e g = or_parts (is-first (key e) bar.key.now) (is_eq (key_order (key e) bar.key.now) && is_until (id_key e) bar.until) g

  -- of two rows in the order of their `_id`s, the later one is sorted first if it is before the bar and the other one isn't
  tied-first : (d e : List Field) → IsTied d → IsBehind e → key_order (id_key e) (id_key d) ≡ Less → is-first (key d) (key e) ≡ true
  tied-first d e same behind less = equal-behind p.1 (key d) bar.key.now (key e) same.0 ∙ by (is-first bar.key.now (key e)) refl
    where
      by : (b : Bool) → is-first bar.key.now (key e) ≡ b → is-first bar.key.now (key e) ≡ true
      by true f = f
      by false f =
          let equal = neither-first p.1 (key e) bar.key.now behind.0 f in
          let both : is_eq (key_order (key e) bar.key.now) && is_until (id_key e) bar.until ≡ true = λ j. is_eq (equal j) && earlier-until (id_key d) (id_key e) bar.until less same.1 j in
          let wrong : true ≡ false = sym both ∙ behind.1 in
          absurd cc

  decided : (a b rest : Bool) → a ≡ true → cond a true (cond b false rest) ≡ true
  decided a b rest e = ap (λ c. cond c true (cond b false rest)) e

  decided-back : (a b rest : Bool) → a ≡ false → b ≡ true → cond a true (cond b false rest) ≡ false
  decided-back a b rest e f = ap (λ c. cond c true (cond b false rest)) e ∙ ap (λ c. cond c false rest) f

  undecided : (a b rest : Bool) → a ≡ false → rest ≡ false → cond a true (cond b false rest) ≡ false
  undecided a b rest e f = ap (λ c. cond c true (cond b false rest)) e ∙ ap (λ c. cond b false c) f ∙ same-way b

  comes-first : (d e : List Field) → ahead d ≡ true → ahead e ≡ false → key_order (id_key e) (id_key d) ≡ Less → before d e ≡ true
  comes-first d e h g less = decided (is-first (key d) (key e)) (is-first (key e) (key d)) (stands_before parts d e) (by (is-first (key d) bar.key.now) refl)
    where
      by : (b : Bool) → is-first (key d) bar.key.now ≡ b → is-first (key d) (key e) ≡ true
      by true f = (stands-first p.1 (key d) bar.key.now (key e) f (is-behind e g).0).0
      by false f = tied-first d e (is-tied d h f) (is-behind e g) less

  comes-later : (d e : List Field) → ahead d ≡ true → ahead e ≡ false → before e d ≡ false
  comes-later d e h g = by (is-first (key d) bar.key.now) refl
    where
      by : (b : Bool) → is-first (key d) bar.key.now ≡ b → before e d ≡ false
      by true f =
          let known = stands-first p.1 (key d) bar.key.now (key e) f (is-behind e g).0 in
          decided-back (is-first (key e) (key d)) (is-first (key d) (key e)) (stands_before parts e d) known.1 known.0
      by false f =
          let same = is-tied d h f in
          undecided (is-first (key e) (key d)) (is-first (key d) (key e)) (stands_before parts e d) (equal-before p.1 (key d) bar.key.now (key e) same.0 ∙ (is-behind e g).0) (ap (λ ps. stands_before ps e d) (where-until (parts ≡ []) (id_key d) bar.until same.1 tied))

  abbrev AreAhead : Rows → Type 0
  AreAhead rows = AllByRecursion (λ d. ahead d ≡ true) rows

  abbrev AreBehind : Rows → Type 0
  AreBehind rows = AllByRecursion (λ d. ahead d ≡ false) rows

  -- each of some rows comes before another row, or before each of other rows, by its `_id`
  abbrev AreEarlierThan : List Field → Rows → Type 0
  AreEarlierThan d rows = AllByRecursion (λ e. key_order (id_key e) (id_key d) ≡ Less) rows

  abbrev AreEarlier : Rows → Rows → Type 0
  AreEarlier rows others = AllByRecursion (λ d. AreEarlierThan d rows) others

  none-earlier : (others : Rows) → AreEarlier [] others
  none-earlier [] = tt
  none-earlier (d ∷ others) = (tt, none-earlier others)

  one-earlier : (x : List Field) (rows others : Rows) → AllByRecursion (λ d. key_order (id_key x) (id_key d) ≡ Less) others → AreEarlier rows others → AreEarlier (placed before x rows) others
  one-earlier x rows [] h all = tt
  one-earlier x rows (d ∷ others) h all = (all_placed (λ e. key_order (id_key e) (id_key d) ≡ Less) before x rows h.0 all.0, one-earlier x rows others h.1 all.1)

  -- ---- rows before the bar, and then others: one more row comes among the former or among the latter
  put-ahead : (d : List Field) (xs ys : Rows) → ahead d ≡ true → AreBehind ys → AreEarlierThan d ys → placed before d (xs ++ ys) ≡ placed before d xs ++ ys
  put-ahead d [] [] h all earlier = refl
  put-ahead d [] (y ∷ ys) h all earlier = ap (λ b. cond b (d ∷ y ∷ ys) (y ∷ placed before d ys)) (comes-first d y h all.0 earlier.0)
  put-ahead d (x ∷ xs) ys h all earlier = at (before d x) (put-ahead d xs ys h all earlier)
    where
      at : (b : Bool) → placed before d (xs ++ ys) ≡ placed before d xs ++ ys → cond b (d ∷ x ∷ (xs ++ ys)) (x ∷ placed before d (xs ++ ys)) ≡ cond b (d ∷ x ∷ xs) (x ∷ placed before d xs) ++ ys
      at true rest = refl
      at false rest = ap (λ zs. x ∷ zs) rest

  put-behind : (d : List Field) (xs ys : Rows) → ahead d ≡ false → AreAhead xs → placed before d (xs ++ ys) ≡ xs ++ placed before d ys
  put-behind d [] ys h all = refl
  put-behind d (x ∷ xs) ys h all =
      ap (λ b. cond b (d ∷ x ∷ (xs ++ ys)) (x ∷ placed before d (xs ++ ys))) (comes-later x d all.0 h) ∙ ap (λ zs. x ∷ zs) (put-behind d xs ys h all.1)

  abbrev put : Rows → Rows → Rows
  put so_far xs = fold (λ ys x. placed before x ys) so_far xs

  -- in order, the rows before the bar, and then others
  abbrev IsParted : Rows → Rows → Rows → Type 0
  IsParted left right xs = (rest : Rows) × AreBehind rest × (put (left ++ right) xs ≡ put left (filter ahead xs) ++ rest)

  parted : (left right xs : Rows) → AreAhead left → AreBehind right → AreBefore xs → AreEarlier right xs → IsParted left right xs
  parted left right [] h g ordered earlier = (right, g, refl)
  parted left right (x ∷ xs) h g ordered earlier = at (ahead x) refl (λ l r lh rg early. parted l r xs lh rg ordered.1 early)
    where
      at : (b : Bool) → ahead x ≡ b → ((l r : Rows) → AreAhead l → AreBehind r → AreEarlier r xs → IsParted l r xs) → (rest : Rows) × AreBehind rest × (put (placed before x (left ++ right)) xs ≡ put left (cond b (x ∷ filter ahead xs) (filter ahead xs)) ++ rest)
      at true e later =
          let then = later (placed before x left) right (all_placed (λ d. ahead d ≡ true) before x left e h) g earlier.1 in
          (then.0, then.1, ap (λ ys. put ys xs) (put-ahead x left right e g earlier.0) ∙ then.2)
      at false e later =
          let then = later left (placed before x right) h (all_placed (λ d. ahead d ≡ false) before x right e g) (one-earlier x right xs ordered.0 earlier.1) in
          (then.0, then.1, ap (λ ys. put ys xs) (put-behind x left right e h) ∙ then.2)

  -- ---- a row before the bar is among the rows that are
  there-behind : (ys : Rows) (i : ℕ) (d : List Field) → AreBehind ys → slice_get ys i ≡ Some d → ahead d ≡ false
  there-behind [] i d all e = absurd cc
  there-behind (y ∷ ys) zero d all e = let same : y ≡ d = cc in ap ahead (sym same) ∙ all.0
  there-behind (y ∷ ys) (suc i) d all e = there-behind ys i d all.1 e

  there-ahead : (xs rest : Rows) (i : ℕ) (d : List Field) → AreBehind rest → slice_get (xs ++ rest) i ≡ Some d → ahead d ≡ true → i < length xs
  there-ahead [] rest i d all e h = let wrong : true ≡ false = sym h ∙ there-behind rest i d all e in absurd cc
  there-ahead (x ∷ xs) rest zero d all e h = omega arith
  there-ahead (x ∷ xs) rest (suc i) d all e h = let later = there-ahead xs rest i d all e h in omega (arith, later)

  still-there : (n : ℕ) (xs : Rows) (i : ℕ) (d : List Field) → slice_get (take n xs) i ≡ Some d → slice_get xs i ≡ Some d
  still-there zero [] i d e = absurd cc
  still-there zero (x ∷ xs) i d e = absurd cc
  still-there (suc n) [] i d e = absurd cc
  still-there (suc n) (x ∷ xs) zero d e = e
  still-there (suc n) (x ∷ xs) (suc i) d e = still-there n xs i d e

  -- the last of the first rows is before the bar, so they are the first of any rows that have the same rows before it
  pub first_alike : (some all : Rows) → IsAscending some → IsAscending all → (most i : ℕ) (d : List Field) → filter ahead some ≡ filter ahead all → slice_get (take most (stable (p ∷ parts) some)) i ≡ Some d → most ≤ i + 1 → ahead d ≡ true → take most (stable (p ∷ parts) some) ≡ take most (stable (p ∷ parts) all)
  unfolding stable
  first_alike some all some-ascend all-ascend most i d same last enough h =
      let these = parted [] [] some tt tt (before_ascending some some-ascend) (none-earlier some) in
      let others = parted [] [] all tt tt (before_ascending all all-ascend) (none-earlier all) in
      let sorted = put [] (filter ahead some) in
      let among = there-ahead sorted these.0 i d these.1 (ap (λ rows. slice_get rows i) (sym these.2) ∙ still-there most (put [] some) i d last) h in
      let within : most ≤ length sorted = omega (arith, among, enough) in
      let again : put [] (filter ahead all) ≡ sorted = ap (put []) (sym same) in
      ap (take most) these.2
      ∙ take-append-le most sorted these.0 within
      ∙ sym (take-append-le most sorted others.0 within)
      ∙ sym (ap (take most) (others.2 ∙ ap (λ rows. rows ++ others.0) again))

-- ---- what holds of all rows holds of each
pub holds-at : (P : List Field → Type 0) (rows : Rows) (i : ℕ) (d : List Field) → AllByRecursion P rows → slice_get rows i ≡ Some d → P d
holds-at P [] i d all e = absurd cc
holds-at P (y ∷ ys) zero d all e = let same : y ≡ d = cc in subst P same all.0
holds-at P (y ∷ ys) (suc i) d all e = holds-at P ys i d all.1 e

-- ---- rows that are found in others that begin with `_id`s
abbrev pub BeginWithIds : Type 0
BeginWithIds = (k : KeyTree) (d : List Field) (ds : Rows) → AllByRecursion HasId ds → found k ds ≡ Some d → HasId d

pub all-identified : BeginWithIds → (ds those : Rows) → AllByRecursion HasId ds → AreStanding ds those → AllByRecursion HasId those
all-identified law ds those identified standing = each those standing.0
  where
    each : (rows : Rows) → AllByRecursion (λ d. found (id_key d) ds ≡ Some d) rows → AllByRecursion HasId rows
    each [] all = tt
    each (d ∷ rows) all = (law (id_key d) d ds identified all.0, each rows all.1)

-- ---- what is said of a value if there is one
pub if-some-weaker : {X : Type 0} (P Q : Type 0) → (P → Q) → (o : Option X) → IfSome o (λ x. P) → IfSome o (λ x. Q)
if-some-weaker P Q h None there = there
if-some-weaker P Q h (Some x) there = h there

-- ---- the first path of a sort
pub first-part : (items : List SortPart) (by : SortPart) (sort : List Part) → map part items ≡ sort → slice_get items 0 ≡ Some by → (parts : List Part) × (sort ≡ part by ∷ parts)
first-part [] by sort is e = absurd cc
first-part (item ∷ items) by sort is e = let same : item ≡ by = cc in (map part items, sym is ∙ ap (λ x. part x ∷ map part items) same)
