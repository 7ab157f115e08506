-- The documents under keys that ascend are the documents of an ascending list whose keys are among these.
use Rattle.std.proofs.Common.{Bor, ◌≡◌, ◌∙◌, ◌+◌, ◌<◌, ℕ, zero, suc, take, get_or, add-one, append-nil, append_assoc, List, [], ◌∷◌, ◌++◌, refl, ap, sym, Bool, true, false, cond, ◌||◌, Option, Some, None, filter, length, arith}
use Rattle.std.specs.List.{list_any, flat_map, AllByRecursion}
use Rattle.std.specs.List.Sorted.{IsStrictlySortedBy}
use Rattle.std.specs.declared.cmp.Ordering.TheVariants.{Less, Greater}
use Rattle.std.specs.Ordering.{is_eq, ordering_reverse}
use Rattle.std.proofs.Common.{map}
use Rattle.std.proofs.lemmas.Map.Keys.{sorted_head, sorted_tail}
use Rattle.std.proofs.lemmas.Cmp.{alike_right, tied_itself}
use Rattle.dv_value.specs.Tree.{Field, Tree}
use Rattle.dv_value.specs.View.{tree}
use Rattle.dv_value.specs.declared.value.Value.{Value}
use Rattle.dv_value.specs.Inner.ListLaws.{any-map}
use Rattle.dv_order.specs.Order.{canon}
use Rattle.dv_order.specs.Key.{KeyTree, key_order, value}
use Rattle.dv_order.specs.Inner.KeyLaws.{key_order_total, equal-back, equal-from}
use Rattle.dv_path.specs.LeafKeys.{is_key_of, is_some_key}
use Rattle.dv_coll.specs.Collection.{IsAscending, id_key, has_key, found}

abbrev pub now : Bor KeyTree → KeyTree
now x = x.now

-- a key is among the keys of values exactly if it is the key of one of them
pub among-values : (k : KeyTree) (ids : List (Bor KeyTree)) (keys : List KeyTree) (vs : List Value) (ts : List Tree) → map now ids ≡ keys → keys ≡ map (λ v. value (canon (tree v))) vs → map tree vs ≡ ts → list_any (λ l. is_eq (key_order k l)) (map now ids) ≡ is_some_key k ts
among-values k ids keys vs ts e f g =
    ap (list_any (λ l. is_eq (key_order k l))) (e ∙ f) ∙ any-map (λ l. is_eq (key_order k l)) (λ v. value (canon (tree v))) vs ∙ sym (any-map (is_key_of k) tree vs) ∙ ap (is_some_key k) g

abbrev pub as-list : {X : Type 0} → Option X → List X
as-list None = []
as-list (Some x) = x ∷ []

-- the documents under these keys, one key after the other
abbrev pub each : List KeyTree → List (List Field) → List (List Field)
each ids ds = flat_map (λ i. filter (λ d. is_eq (key_order (id_key d) i)) ds) ids

pub one-key-more : (ds : List (List Field)) (ids : List (Bor KeyTree)) (i : ℕ) (x : Bor KeyTree) → i < length ids → x ≡ get_or ids i x → each (map now (take (i + 1) ids)) ds ≡ each (map now (take i ids)) ds ++ filter (λ d. is_eq (key_order (id_key d) x.now)) ds
one-key-more ds [] i x within is = absurd (omega arith)
one-key-more ds (y ∷ ys) zero x within is = append-nil _ ∙ ap (λ (k : Bor KeyTree). filter (λ d. is_eq (key_order (id_key d) k.now)) ds) (sym is)
one-key-more ds (y ∷ ys) (suc i) x within is =
    let here = filter (λ d. is_eq (key_order (id_key d) y.now)) ds in
    let there = filter (λ d. is_eq (key_order (id_key d) x.now)) ds in
    let rest = rw add-one at (one-key-more ds ys i x (omega arith) is) in
    rw add-one (ap (λ es. here ++ es) rest ∙ sym (append_assoc here (each (map now (take i ys)) ds) there))

pub one-more : (ds : List (Bor (List Field))) (d : Bor (List Field)) → map (λ (e : Bor (List Field)). e.now) (ds ++ d ∷ []) ≡ map (λ (e : Bor (List Field)). e.now) ds ++ d.now ∷ []
one-more [] d = refl
one-more (e ∷ ds) d = ap (λ es. e.now ∷ es) (one-more ds d)

-- the key is before that of each of ds
abbrev pub Before : KeyTree → List (List Field) → Type 0
Before k ds = AllByRecursion (λ e. key_order k (id_key e) ≡ Less) ds

before-map : (k : KeyTree) (ds : List (List Field)) → AllByRecursion (λ l. key_order k l ≡ Less) (map id_key ds) → Before k ds
before-map k [] h = tt
before-map k (d ∷ ds) h = (h.0, before-map k ds h.1)

pub head-before : (d : List Field) (ds : List (List Field)) → IsAscending (d ∷ ds) → Before (id_key d) ds
head-before d ds h = before-map (id_key d) ds (sorted_head key_order (id_key d) (map id_key ds) h)

pub tail-ascends : (d : List Field) (ds : List (List Field)) → IsAscending (d ∷ ds) → IsAscending ds
tail-ascends d ds h = sorted_tail key_order (id_key d) (map id_key ds) h

-- if every document of a list fails a test
none-pass : (p : List Field → Bool) (k : KeyTree) (ds : List (List Field)) → ((e : List Field) → key_order k (id_key e) ≡ Less → p e ≡ false) → Before k ds → filter p ds ≡ []
none-pass p k [] fails h = refl
none-pass p k (d ∷ ds) fails h = ap (λ b. cond b (d ∷ filter p ds) (filter p ds)) (fails d h.0) ∙ none-pass p k ds fails h.1

pub not_true : (b : Bool) → (b ≡ true → ⊥) → b ≡ false
not_true true h = absurd (h refl)
not_true false h = refl

-- each document of a list that ascends is found under its `_id`
pub all-found : (ds : List (List Field)) → IsAscending ds → AllByRecursion (λ d. found (id_key d) ds ≡ Some d) ds
all-found [] h = tt
all-found (d ∷ ds) h =
    (ap (λ b. cond b (Some d) (found (id_key d) ds)) (ap is_eq (tied_itself key_order_total (id_key d))), later ds (head-before d ds h) (all-found ds (tail-ascends d ds h)))
  where
    later : (es : List (List Field)) → Before (id_key d) es → AllByRecursion (λ e. found (id_key e) ds ≡ Some e) es → AllByRecursion (λ e. found (id_key e) (d ∷ ds) ≡ Some e) es
    later [] b f = tt
    later (e ∷ es) b f =
        (ap (λ x. cond x (Some d) (found (id_key e) ds)) (equal-back (id_key e) (id_key d) ∙ ap is_eq b.0) ∙ f.0, later es b.1 f.1)

-- at most one document is under a key
pub found-alone : (i : KeyTree) (ds : List (List Field)) → IsAscending ds → filter (has_key i) ds ≡ as-list (found i ds)
found-alone i [] h = refl
found-alone i (d ∷ ds) h = at (has_key i d) refl (found-alone i ds (tail-ascends d ds h))
  where
    at : (b : Bool) → has_key i d ≡ b → filter (has_key i) ds ≡ as-list (found i ds) → cond b (d ∷ filter (has_key i) ds) (filter (has_key i) ds) ≡ as-list (cond b (Some d) (found i ds))
    at true e rest =
        ap (λ es. d ∷ es) (none-pass (has_key i) (id_key d) ds (λ f less. let o : key_order i (id_key f) ≡ Less = key_order_total.congr i (id_key d) (id_key f) (equal-from (key_order i (id_key d)) e) ∙ less in ap is_eq o) (head-before d ds h))
    at false e rest = rest

-- the documents whose `_id` is equal to a key
pub under : (i : KeyTree) (ds : List (List Field)) → IsAscending ds → filter (λ d. is_eq (key_order (id_key d) i)) ds ≡ as-list (found i ds)
under i ds h = ap (λ p. filter p ds) (λ j d. equal-back (id_key d) i j) ∙ found-alone i ds h

-- two tests: the documents that pass the one are before those that pass the other
split : (p q : List Field → Bool) → ((d e : List Field) → p d ≡ true → q e ≡ true → key_order (id_key d) (id_key e) ≡ Less) → (ds : List (List Field)) → IsAscending ds → filter (λ d. p d || q d) ds ≡ filter p ds ++ filter q ds
split p q before [] h = refl
split p q before (d ∷ ds) h = at (p d) (q d) refl refl (split p q before ds (tail-ascends d ds h))
  where
    itself : key_order (id_key d) (id_key d) ≡ Less → ⊥
    itself less = let back = key_order_total.antisymm (id_key d) (id_key d) in let turned : ordering_reverse (key_order (id_key d) (id_key d)) ≡ Greater = ap ordering_reverse less in absurd cc

    at : (a b : Bool) → p d ≡ a → q d ≡ b → filter (λ e. p e || q e) ds ≡ filter p ds ++ filter q ds → cond (a || b) (d ∷ filter (λ e. p e || q e) ds) (filter (λ e. p e || q e) ds) ≡ cond a (d ∷ filter p ds) (filter p ds) ++ cond b (d ∷ filter q ds) (filter q ds)
    at true true e f rest = absurd (itself (before d d e f))
    at true false e f rest = ap (λ es. d ∷ es) rest
    at false true e f rest =
        let none : filter p ds ≡ [] = none-pass p (id_key d) ds (λ g less. not_true (p g) (λ passes. let turned = before g d passes f in let back = key_order_total.antisymm (id_key g) (id_key d) in let reversed : ordering_reverse (key_order (id_key d) (id_key g)) ≡ Greater = ap ordering_reverse less in absurd cc)) (head-before d ds h) in
        ap (λ es. d ∷ es) (rest ∙ ap (λ es. es ++ filter q ds) none) ∙ sym (ap (λ es. es ++ (d ∷ filter q ds)) none)
    at false false e f rest = rest

-- a key before all keys of a list is before each key that is equal to one of them
among-later : (i : KeyTree) (is : List KeyTree) → AllByRecursion (λ l. key_order i l ≡ Less) is → (k : KeyTree) → list_any (λ l. is_eq (key_order k l)) is ≡ true → key_order i k ≡ Less
among-later i [] h k e = absurd cc
among-later i (l ∷ is) h k e = at (is_eq (key_order k l)) refl (among-later i is h.1 k) e
  where
    at : (b : Bool) → is_eq (key_order k l) ≡ b → (list_any (λ m. is_eq (key_order k m)) is ≡ true → key_order i k ≡ Less) → b || list_any (λ m. is_eq (key_order k m)) is ≡ true → key_order i k ≡ Less
    at true same rest f = alike_right key_order_total k l i (equal-from (key_order k l) same) ∙ h.0
    at false same rest f = rest f

pub each-all : (ids : List KeyTree) (ds : List (List Field)) → IsStrictlySortedBy key_order ids → IsAscending ds → each ids ds ≡ filter (λ d. list_any (λ l. is_eq (key_order (id_key d) l)) ids) ds
each-all [] ds s h = sym (nothing ds)
  where
    nothing : (es : List (List Field)) → filter (λ d. false) es ≡ []
    nothing [] = refl
    nothing (e ∷ es) = nothing es
each-all (i ∷ is) ds s h =
    let later = λ (d : List Field). list_any (λ l. is_eq (key_order (id_key d) l)) is in
    let here = λ (d : List Field). is_eq (key_order (id_key d) i) in
    sym (split here later (λ d e p q. key_order_total.congr (id_key d) i (id_key e) (equal-from (key_order (id_key d) i) p) ∙ among-later i is (sorted_head key_order i is s) (id_key e) q) ds h
    ∙ ap (λ es. filter here ds ++ es) (sym (each-all is ds (sorted_tail key_order i is s) h)))
