-- Items at places: what is kept under keys, and the places in order.
use Rattle.std.proofs.Common.{◌≡◌, ◌∙◌, ap, sym, subst, refl, Bool, true, false, ◌||◌, ◌&&◌, ◌==◌, List, [], ◌∷◌, ◌++◌, ℕ, ◌<◌, zero, suc, map, filter, take, drop, length, get_or, add-one, slice_get, append-nil, append_assoc, Bor, ◌+◌, ◌≤◌, Option, Some, None, Vec, cond, arith, if◌then◌else◌}
use Rattle.std.specs.List.{list_any, AllByRecursion}
use Rattle.std.specs.Map.{lookup}
use Rattle.std.specs.Option.{IfSome, option_map, unwrap_or}
use Rattle.std.specs.Str.{bytes_eq}
use Rattle.std.specs.BTreeMap.{BTreeMap, get, is_at}
use Rattle.std.specs.Cmp.{eq_by_cmp_equiv}
use Rattle.std.specs.List.Sorted.{IsStrictlySortedBy}
use Rattle.std.specs.Ordering.{is_eq, nat_cmp}
use Rattle.std.specs.declared.cmp.Ordering.TheVariants.{Less}
use Rattle.std.proofs.lemmas.Bool.Decides.{nat_tests}
use Rattle.std.proofs.lemmas.Cmp.{ranked}
use Rattle.std.proofs.lemmas.List.{take-map}
use Rattle.std.proofs.lemmas.List.Folds.{list_any-append}
use Rattle.std.proofs.lemmas.Option.{slice_get_read}
use Rattle.std.proofs.Math.Bool.{or-false, or_assoc}
use Rattle.dv_value.specs.Tree.{Tree, Field}
use Rattle.dv_value.specs.Names.{has_name, with_value_under}
use Rattle.dv_value.specs.Inner.ListLaws.{cond-or, drop-read}
use Rattle.dv_order.specs.Order.{canon, order}
use Rattle.dv_order.specs.Key.{KeyTree, value, key_order}
use Rattle.dv_order.specs.Inner.KeyLaws.{key_order_total, equal-back}
use Rattle.dv_path.specs.LeafKeys.{leaf_values}
use Rattle.dv_gather.specs.Joining.{as_value, joined_by, joined_with}
use Rattle.dv_gather.specs.Lookups.{set_field}
use Rattle.dv_row.specs.Expressions.{with_field_behind}
use Rattle.dv_gather.specs.Inner.KeySets.{AreKeysOf, any_key}
use Rattle.dv_gather.specs.View.{referred}
use Rattle.dv_gather.specs.Inner.Places.{ArePlaces, is_place, is_kept, is_under, is_found, item_passes_at, items_chosen, item_at, items_at}
use Rattle.dv_gather.specs.Inner.KeyLaws.{any-same}
use Rattle.dv_gather.proofs.Shared.{matches-by_keys}

abbrev pub member : List ℕ → ℕ → Bool
member ks i = list_any (λ k. is_eq (nat_cmp i k)) ks

cmp-suc : (i k : ℕ) → nat_cmp (suc i) (suc k) ≡ nat_cmp i k
cmp-suc i k = grind (arith, nat_tests)

nothing-below : (k : ℕ) → nat_cmp k 0 ≡ Less → ⊥
nothing-below k e = let low : k < 0 = ranked k 0 Less (sym e) in omega arith

not-zero : (l : ℕ) → is_eq (nat_cmp 0 (suc l)) ≡ false
not-zero l = grind (arith, nat_tests)

-- places that are each 1 greater than those of another list
record IsRaised (ks : List ℕ) : Type 0 where
  lower : List ℕ
  is : ks ≡ map suc lower

raised : (k : ℕ) (ks : List ℕ) → AllByRecursion (λ y. nat_cmp k y ≡ Less) ks → IsRaised ks
raised k [] h = record { lower = []; is = refl }
raised k (zero ∷ ks) h = absurd (nothing-below k h.0)
raised k (suc m ∷ ks) h =
    let rest = raised k ks h.1 in
    record { lower = m ∷ rest.lower; is = ap (λ l. suc m ∷ l) rest.is }

above-lower : (l : ℕ) (ls : List ℕ) → AllByRecursion (λ y. nat_cmp (suc l) y ≡ Less) (map suc ls) → AllByRecursion (λ y. nat_cmp l y ≡ Less) ls
above-lower l [] h = tt
above-lower l (m ∷ ls) h = (sym (cmp-suc l m) ∙ h.0, above-lower l ls h.1)

sorted-lower : (ls : List ℕ) → IsStrictlySortedBy nat_cmp (map suc ls) → IsStrictlySortedBy nat_cmp ls
unfolding IsStrictlySortedBy
sorted-lower [] h = tt
sorted-lower (l ∷ ls) h = (above-lower l ls h.0, sorted-lower ls h.1)

member-raised : (ls : List ℕ) (i : ℕ) → member (map suc ls) (suc i) ≡ member ls i
member-raised [] i = refl
member-raised (l ∷ ls) i = ap (λ o. is_eq o || member (map suc ls) (suc i)) (cmp-suc i l) ∙ ap (λ b. is_eq (nat_cmp i l) || b) (member-raised ls i)

zero-raised : (ls : List ℕ) → member (map suc ls) 0 ≡ false
zero-raised [] = refl
zero-raised (l ∷ ls) = ap (λ b. b || member (map suc ls) 0) (not-zero l) ∙ zero-raised ls

chosen-same : {X : Type 0} (p q : ℕ → Bool) → ((i : ℕ) → p i ≡ q i) → (xs : List X) → items_chosen p xs ≡ items_chosen q xs
chosen-same p q same [] = refl
chosen-same p q same (x ∷ xs) =
    ap (λ b. if b then x ∷ items_chosen (λ i. p (suc i)) xs else items_chosen (λ i. p (suc i)) xs) (same 0)
    ∙ ap (λ l. if q 0 then x ∷ l else l) (chosen-same (λ i. p (suc i)) (λ i. q (suc i)) (λ i. same (suc i)) xs)

above-zero : (i : ℕ) → is_eq (nat_cmp (suc i) 0) ≡ false
above-zero i = grind (arith, nat_tests)

apart : (i : ℕ) → false ≡ (0 == suc i)
apart i = grind (arith, nat_tests)

apart-back : (n : ℕ) → false ≡ (suc n == 0)
apart-back n = grind (arith, nat_tests)

alike-suc : (n i : ℕ) → (n == i) ≡ (suc n == suc i)
alike-suc n i = grind (arith, nat_tests)

none-passes : {K : Type 0} (ks : List K) → list_any (λ k. false) ks ≡ false
none-passes [] = refl
none-passes (k ∷ ks) = none-passes ks

module _ {X : Type 0} where
  items-raised : (ls : List ℕ) (x : X) (xs : List X) → items_at (map suc ls) (x ∷ xs) ≡ items_at ls xs
  items-raised [] x xs = refl
  items-raised (l ∷ ls) x xs = ap (λ r. item_at (slice_get xs l) ++ r) (items-raised ls x xs)

  items-nowhere : (ks : List ℕ) → items_at ks (let none : List X = [] in none) ≡ []
  items-nowhere [] = refl
  items-nowhere (k ∷ ks) = items-nowhere ks

  -- the items at places in order are those that are chosen by them
  pub items-chosen : (xs : List X) (ks : List ℕ) → IsStrictlySortedBy nat_cmp ks → items_at ks xs ≡ items_chosen (member ks) xs
  unfolding IsStrictlySortedBy
  items-chosen [] ks h = items-nowhere ks
  items-chosen (x ∷ xs) [] h = items-chosen xs [] tt
  items-chosen (x ∷ xs) (zero ∷ ks) h =
      let r : IsRaised ks = raised 0 ks h.0 in
      let ls = r.lower in
      let Sorted : List ℕ → Type 0 = λ l. IsStrictlySortedBy nat_cmp l in
      let below : IsStrictlySortedBy nat_cmp ls = sorted-lower ls (subst Sorted r.is h.1) in
      ap (λ l. x ∷ l) (ap (λ l. items_at l (x ∷ xs)) r.is ∙ items-raised ls x xs ∙ items-chosen xs ls below
      ∙ chosen-same (member ls) (λ i. member (0 ∷ ks) (suc i)) (λ i. sym (ap (λ b. b || member ks (suc i)) (above-zero i) ∙ ap (λ l. member l (suc i)) r.is ∙ member-raised ls i)) xs)
  items-chosen (x ∷ xs) (suc k ∷ ks) h =
      let r : IsRaised ks = raised (suc k) ks h.0 in
      let ls = k ∷ r.lower in
      let all : suc k ∷ ks ≡ map suc ls = ap (λ l. suc k ∷ l) r.is in
      let Sorted : List ℕ → Type 0 = λ l. IsStrictlySortedBy nat_cmp l in
      let below : IsStrictlySortedBy nat_cmp ls = sorted-lower ls (subst Sorted all h) in
      ap (λ l. items_at l (x ∷ xs)) all ∙ items-raised ls x xs ∙ items-chosen xs ls below
      ∙ chosen-same (member ls) (λ i. member (suc k ∷ ks) (suc i)) (λ i. sym (ap (λ l. member l (suc i)) all ∙ member-raised ls i)) xs
      ∙ sym (ap (λ b. if b then x ∷ items_chosen (λ i. member (suc k ∷ ks) (suc i)) xs else items_chosen (λ i. member (suc k ∷ ks) (suc i)) xs) (ap (λ l. member l 0) all ∙ zero-raised ls))

  -- the items at the places of items that pass are the items that pass
  pub chosen-filter : (p : ℕ → Bool) (q : X → Bool) (xs : List X) → ((i : ℕ) → p i ≡ item_passes_at q xs i) → items_chosen p xs ≡ filter q xs
  chosen-filter p q [] h = refl
  chosen-filter p q (x ∷ xs) h =
      ap (λ b. if b then x ∷ items_chosen (λ i. p (suc i)) xs else items_chosen (λ i. p (suc i)) xs) (h 0)
      ∙ ap (λ l. if q x then x ∷ l else l) (chosen-filter (λ i. p (suc i)) q xs (λ i. h (suc i)))

  -- an item that passes some test at a place
  pub any-passes : {K : Type 0} (test : K → X → Bool) (ks : List K) (xs : List X) (i : ℕ) → list_any (λ k. item_passes_at (test k) xs i) ks ≡ item_passes_at (λ x. list_any (λ k. test k x) ks) xs i
  any-passes test ks [] i = none-passes ks
  any-passes test ks (x ∷ xs) zero = refl
  any-passes test ks (x ∷ xs) (suc i) = any-passes test ks xs i

  -- one more item
  pub passes-more : (p : X → Bool) (xs : List X) (n : ℕ) (x : X) → slice_get xs n ≡ Some x → (i : ℕ) → item_passes_at p (take (suc n) xs) i ≡ item_passes_at p (take n xs) i || ((n == i) && p x)
  passes-more p [] n x e i = absurd cc
  passes-more p (y ∷ xs) zero x e zero = let same : y ≡ x = cc in ap p same
  passes-more p (y ∷ xs) zero x e (suc i) = ap (λ b. false || (b && p x)) (apart i)
  passes-more p (y ∷ xs) (suc n) x e zero = sym (or-false (p y)) ∙ ap (λ b. p y || (b && p x)) (apart-back n)
  passes-more p (y ∷ xs) (suc n) x e (suc i) = passes-more p xs n x e i ∙ ap (λ b. item_passes_at p (take n xs) i || (b && p x)) (alike-suc n i)

-- ---- places kept under keys

lookup-same : {K X : Type 0} (p q : K → Bool) → ((k : K) → p k ≡ q k) → (es : List (K × X)) → lookup p es ≡ lookup q es
lookup-same p q same [] = refl
lookup-same p q same (e ∷ es) = ap (λ b. if b then Some e.1 else lookup p es) (same e.0) ∙ ap (λ o. if q e.0 then Some e.1 else o) (lookup-same p q same es)

module _ {A : Type 0} (k l : KeyTree) (old : BTreeMap KeyTree (Vec ℕ A)) where
  kept-is : (none : Vec ℕ A) (i : ℕ) → none.items ≡ [] → (o : Option (Vec ℕ A)) → is_kept o i ≡ is_place (unwrap_or o none).items i
  kept-is none i empty None = sym (ap (λ ps. is_place ps i) empty)
  kept-is none i empty (Some ps) = refl

  -- one more place under a key
  pub placed-one : (new : Option (Vec ℕ A)) (w was none : Vec ℕ A) (place i : ℕ) → none.items ≡ [] → was ≡ unwrap_or (get key_order old l) none → w.items ≡ was.items ++ place ∷ [] → new ≡ cond (is_eq (key_order l k)) (Some w) (get key_order old k)
      → is_kept new i ≡ is_under old k i || ((place == i) && is_eq (key_order k l))
  placed-one new w was none place i empty before added update =
      ap (λ o. is_kept o i) update ∙ go (is_eq (key_order l k)) refl
      ∙ ap (λ b. is_under old k i || ((place == i) && b)) (equal-back l k)
    where
      and-true : (a : Bool) → a && true ≡ a
      and-true true = refl
      and-true false = refl

      and-false : (a : Bool) → a && false ≡ false
      and-false true = refl
      and-false false = refl

      go : (b : Bool) → is_eq (key_order l k) ≡ b → is_kept (cond b (Some w) (get key_order old k)) i ≡ is_under old k i || ((place == i) && b)
      go true e =
          ap (λ ps. is_place ps i) added ∙ list_any-append (λ p. p == i) was.items (place ∷ []) ∙ ap (λ b. is_place was.items i || b) (or-false (place == i))
          ∙ ap (λ b. b || (place == i)) (ap (λ (ps : Vec ℕ A). is_place ps.items i) before ∙ sym (kept-is none i empty (get key_order old l))
          ∙ ap (λ o. is_kept o i) (lookup-same (is_at (key_order l)) (is_at (key_order k)) (λ m. (eq_by_cmp_equiv key_order_total).congr l k m e) old.entries))
          ∙ ap (λ b. is_under old k i || b) (sym (and-true (place == i)))
      go false e = sym (or-false (is_under old k i)) ∙ ap (λ b. is_under old k i || b) (sym (and-false (place == i)))

-- the documents that have some of the keys
pub matches-by_places : {A : Type 0} (stands : (v w : Tree) → key_order (value (canon v)) (value (canon w)) ≡ order v w) (m : BTreeMap KeyTree (Vec ℕ A)) (keys : List KeyTree) (found : ℕ → Bool) (local foreign : List (List ℕ)) (d : List Field) (ds : List (List Field))
    → AreKeysOf keys (joined_by local d) → ((i : ℕ) → found i ≡ list_any (λ k. is_under m k i) keys) → ArePlaces m foreign ds → items_chosen found ds ≡ joined_with local foreign ds d
matches-by_places stands m keys found local foreign d ds own under are =
    let test = λ (f : List Field). any_key keys (leaf_values foreign f) in
    chosen-filter found test ds (λ i. under i ∙ any-same (λ k. is_under m k i) (λ k. item_passes_at (is_found foreign k) ds i) (λ k. are k i) keys ∙ any-passes (is_found foreign) keys ds i)
    ∙ matches-by_keys stands keys local foreign d ds own

member-is : (ps : List ℕ) (i : ℕ) → member ps i ≡ is_place ps i
member-is ps i = any-same (λ k. is_eq (nat_cmp i k)) (λ p. p == i) (same-back i) ps
  where
    same-back : (i p : ℕ) → is_eq (nat_cmp i p) ≡ (p == i)
    same-back i p = grind (arith, nat_tests)

-- the documents that one key finds, by their places
pub found-by_key : {A : Type 0} (stands : (v w : Tree) → key_order (value (canon v)) (value (canon w)) ≡ order v w) (m : BTreeMap KeyTree (Vec ℕ A)) (key : KeyTree) (ps : List ℕ) (local foreign : List (List ℕ)) (d : List Field) (ds : List (List Field))
    → IsStrictlySortedBy nat_cmp ps → ((i : ℕ) → is_under m key i ≡ is_place ps i) → AreKeysOf (key ∷ []) (joined_by local d) → ArePlaces m foreign ds → items_at ps ds ≡ joined_with local foreign ds d
found-by_key stands m key ps local foreign d ds sorted kept own are =
    items-chosen ds ps sorted ∙ matches-by_places stands m (key ∷ []) (member ps) local foreign d ds own (λ i. member-is ps i ∙ sym (kept i) ∙ sym (or-false (is_under m key i))) are

module _ {A : Type 0} (stands : (v w : Tree) → key_order (value (canon v)) (value (canon w)) ≡ order v w) (m : BTreeMap KeyTree (Vec ℕ A)) (key : KeyTree) (local foreign : List (List ℕ)) (d : List Field) (ds : List (List Field)) (own : AreKeysOf (key ∷ []) (joined_by local d)) (are : ArePlaces m foreign ds) where
  -- no place, or one
  pub found-none : None ≡ get key_order m key → [] ≡ map as_value (joined_with local foreign ds d)
  unfolding IsStrictlySortedBy
  found-none none = ap (map as_value) (found-by_key stands m key [] local foreign d ds tt (λ i. ap (λ o. is_kept o i) (sym none)) own are)

  pub found-one : (ps : Vec ℕ A) (place : ℕ) → Some ps ≡ get key_order m key → ps.items ≡ place ∷ [] → map as_value (item_at (slice_get ds place)) ≡ map as_value (joined_with local foreign ds d)
  unfolding IsStrictlySortedBy
  found-one ps place some one =
      ap (map as_value) (sym (append-nil (item_at (slice_get ds place)))
      ∙ found-by_key stands m key (place ∷ []) local foreign d ds (tt, tt) (λ i. ap (λ o. is_kept o i) (sym some) ∙ ap (λ l. is_place l i) one) own are)

pub if-some : {X : Type 0} (P : X → Type 0) (o : Option X) (x : X) → o ≡ Some x → IfSome o P → P x
if-some P o x is p = subst (λ r. IfSome r P) is p

pub alone : (xs : List ℕ) (d : ℕ) → 1 ≤ length xs → length xs < 2 → xs ≡ get_or xs 0 d ∷ []
alone [] d low high = absurd (omega arith)
alone (x ∷ []) d low high = refl
alone (x ∷ y ∷ xs) d low high = absurd (omega arith)

-- ---- loops

same-place : (p i : ℕ) → is_eq (nat_cmp p i) ≡ (p == i)
same-place p i = grind (arith, nat_tests)

-- one more place in a set
pub place-added : (ps : List ℕ) (n i : ℕ) (was now : Bool) → n < length ps → now ≡ cond (is_eq (nat_cmp (get_or ps n 0) i)) true was → now || is_place (drop (n + 1) ps) i ≡ was || is_place (drop n ps) i
place-added ps n i was now within update =
    let p = get_or ps n 0 in
    let rest = is_place (drop (n + 1) ps) i in
    ap (λ b. b || rest) (update ∙ ap (λ b. cond b true was) (same-place p i) ∙ cond-or (p == i) was)
    ∙ or_assoc was (p == i) rest
    ∙ ap (λ l. was || is_place l i) (sym (drop-read ps n p within (get-again ps n 0 within)))
  where
    get-again : (xs : List ℕ) (n d : ℕ) → n < length xs → get_or xs n d ≡ get_or xs n (get_or xs n d)
    get-again [] n d h = absurd (omega arith)
    get-again (x ∷ xs) zero d h = refl
    get-again (x ∷ xs) (suc n) d h = get-again xs n d (omega arith)

slice-get_map : {X Y : Type 0} (f : X → Y) (xs : List X) (n : ℕ) → slice_get (map f xs) n ≡ option_map f (slice_get xs n)
slice-get_map f [] n = refl
slice-get_map f (x ∷ xs) zero = refl
slice-get_map f (x ∷ xs) (suc n) = slice-get_map f xs n

-- one more document
pub passes-referred : (p : List Field → Bool) (ds : List (Bor (List Field))) (n : ℕ) (d : Bor (List Field)) → n < length ds → d ≡ get_or ds n d → (i : ℕ) → item_passes_at p (referred (take (n + 1) ds)) i ≡ item_passes_at p (referred (take n ds)) i || ((n == i) && p d.now)
passes-referred p ds n d within is i =
    let now = λ (r : Bor (List Field)). r.now in
    ap (λ l. item_passes_at p l i) (sym (take-map now (n + 1) ds)) ∙ ap (λ m. item_passes_at p (take m (referred ds)) i) (add-one n)
    ∙ passes-more p (referred ds) n d.now (slice-get_map now ds n ∙ ap (option_map now) (slice_get_read ds (length ds) n d refl within is)) i
    ∙ ap (λ l. item_passes_at p l i || ((n == i) && p d.now)) (take-map now n ds)

-- a value under a name that isn't there
pub under-nothing : (name : List ℕ) (v : Tree) (fs : List Field) → has_name name fs ≡ false → with_value_under name v fs ≡ fs
under-nothing name v [] e = refl
under-nothing name v (f ∷ fs) e = go (bytes_eq name f.0) e (under-nothing name v fs)
  where
    go : (b : Bool) → b || has_name name fs ≡ false → (has_name name fs ≡ false → with_value_under name v fs ≡ fs) → (if b then (f.0, v) ∷ fs else f ∷ with_value_under name v fs) ≡ f ∷ fs
    go true h rest = absurd (let same : true ≡ false = h in cc)
    go false h rest = ap (λ l. f ∷ l) (rest h)

-- if a value is returned, it is the new one, and nothing is under the name
pub came-back : (b : Bool) (v w : Tree) → Some w ≡ (if b then None else Some v) → (b ≡ false) × (w ≡ v)
came-back true v w e = absurd cc
came-back false v w e = (refl, cc)

-- a value after the others, if nothing was under the name
pub set-behind : (name : List ℕ) (v w : Tree) (d after : List Field) → Some w ≡ (if has_name name d then None else Some v) → after ≡ with_value_under name v d → set_field name v d ≡ with_field_behind name (Some w) after
set-behind name v w d after back is =
    let came = came-back (has_name name d) v w back in
    ap (λ b. if b then with_value_under name v d else with_field_behind name (Some v) d) came.0
    ∙ ap (λ u. with_field_behind name (Some u) d) (sym came.1)
    ∙ ap (with_field_behind name (Some w)) (sym (is ∙ under-nothing name v d came.0))

-- the documents at one more place
module _ (ds : List (Bor (List Field))) (p : ℕ) (rest : List ℕ) (vs : List Tree) where
  pub items-next : (d : Bor (List Field)) (new : List Tree) → p < length ds → d ≡ get_or ds p d → new ≡ vs ++ as_value d.now ∷ [] → new ++ map as_value (items_at rest (referred ds)) ≡ vs ++ map as_value (items_at (p ∷ rest) (referred ds))
  items-next d new within is added =
      let now = λ (r : Bor (List Field)). r.now in
      let here : slice_get (referred ds) p ≡ Some d.now = slice-get_map now ds p ∙ ap (option_map now) (slice_get_read ds (length ds) p d refl within is) in
      let others = items_at rest (referred ds) in
      ap (λ l. l ++ map as_value others) added ∙ append_assoc vs (as_value d.now ∷ []) (map as_value others)
      ∙ sym (ap (λ o. vs ++ map as_value (item_at o ++ others)) here)

  pub items-skipped : length ds ≤ p → vs ++ map as_value (items_at rest (referred ds)) ≡ vs ++ map as_value (items_at (p ∷ rest) (referred ds))
  items-skipped past =
      let now = λ (r : Bor (List Field)). r.now in
      sym (ap (λ o. vs ++ map as_value (item_at o ++ items_at rest (referred ds))) (slice-get_map now ds p ∙ ap (option_map now) (nothing-past ds p past)))
    where
      nothing-past : {X : Type 0} (xs : List X) (n : ℕ) → length xs ≤ n → slice_get xs n ≡ None
      nothing-past [] n h = refl
      nothing-past (x ∷ xs) zero h = absurd (omega arith)
      nothing-past (x ∷ xs) (suc n) h = nothing-past xs n (omega arith)
