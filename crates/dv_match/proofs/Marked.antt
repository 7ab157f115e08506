-- Marks of a block, one candidate after the other, and whether all values have one.
use Rattle.std.proofs.Common.{◌≡◌, ◌∙◌, ◌+◌, ◌*◌, ◌%◌, ◌^◌, ◌<◌, ◌==◌, ◌&&◌, ◌||◌, not, ap, ap₂, sym, subst, refl, arith, tests, ℕ, suc, Bool, true, false, List, [], ◌∷◌, ◌++◌, length, map, get_or, take, Option, Some, Result, Ok, MatchBool, bit_or}
use Rattle.std.proofs.Math.Bool.{or-false, or_assoc}
use Rattle.std.proofs.lemmas.List.{map-append}
use Rattle.std.proofs.lemmas.List.Folds.{list_any-append, list_all_at}
use Rattle.std.proofs.lemmas.Nat.Bits.{bit_at-zero, bit_at_set_same, bit_at_set_other}
use Rattle.std.specs.Cmp.{both_ways}
use Rattle.std.specs.Int.{bit_at, w128}
use Rattle.std.specs.List.{AllByRecursion, list_any, list_all, flat_map, FoldsTo}
use Rattle.std.specs.List.Sorted.{IsStrictlySortedBy}
use Rattle.std.specs.declared.cmp.Ordering.TheVariants.{Less}
use Rattle.std.specs.Ordering.{is_eq}
use Rattle.std.proofs.lemmas.Cmp.{alike_right}
use Rattle.dv_value.specs.Tree.{Tree}
use Rattle.dv_value.specs.View.{tree}
use Rattle.dv_value.specs.declared.value.Value.{Value}
use Rattle.dv_value.specs.Inner.ListLaws.{take-read}
use Rattle.dv_order.specs.Order.{order}
use Rattle.dv_order.specs.Inner.TotalOrder.{order_total}
use Rattle.dv_candidates.specs.Candidates.{Candidate, or_null, with_elements}
use Rattle.dv_candidates.specs.Inner.Fold.{FoldsOver, PassesOne, Takes}
use Rattle.dv_match.specs.Inner.Blocks.{Marked, has, has_equal, no_marks}
use Rattle.dv_match.specs.Inner.Choices.{value_order, Ascend, RespectsEqual, AreChoicesInOrder, is_place, IsPlaceOf}
use Rattle.dv_match.specs.Match.{holds_every, is_equal}
use Rattle.dv_match.specs.declared.marks.Marks.{Marks}
use Rattle.dv_match.proofs.Items.{all-map, or-true}

-- ---- one mark

pub none-has : (k : ℕ) → has no_marks k ≡ false
unfolding has
none-has k = ap (λ b. b == 1) (bit_at-zero k)

pub with-one : (bits place k : ℕ) → place < 128 → has (record { bits = bit_or bits (1 * 2 ^ place % 2 ^ 128) }) k ≡ (has (record { bits = bits }) k || k == place)
unfolding has
with-one bits place k within = at (k == place) refl
  where
    at : (same : Bool) → (k == place) ≡ same → (bit_at (bit_or bits (1 * 2 ^ place % 2 ^ 128)) k == 1) ≡ ((bit_at bits k == 1) || same)
    at true e =
        let here : k ≡ place = grind (arith, tests) in
        rw here (ap (λ b. b == 1) (bit_at_set_same w128 bits place within) ∙ sym (or-true (bit_at bits place == 1)))
    at false e = ap (λ b. b == 1) (bit_at_set_other w128 bits place within k (λ here. grind (arith, tests))) ∙ sym (or-false (bit_at bits k == 1))

-- ---- the marks of candidates

module _ (block : List Value) where
  pub marked-one : (v : Tree) (place : Option ℕ) (before after : Marks) → IsPlaceOf v block place → ((k : ℕ) → has after k ≡ has before k || is_place place k) → Marked block (Some v ∷ []) before after
  marked-one v place before after p h = record { at = λ k d within. h k ∙ ap (λ b. has before k || b) (sym (p.at k d within) ∙ sym (or-false (is_eq (order v (tree (get_or block k d)))))) }

  pub marked-none : (marks : Marks) → Marked block [] marks marks
  marked-none marks = record { at = λ k d within. sym (or-false (has marks k)) }

  pub marked-more : (cs ds : List Candidate) (m n o : Marks) → Marked block cs m n → Marked block ds n o → Marked block (cs ++ ds) m o
  marked-more cs ds m n o first then = record {
    at = λ k d within.
        let is = is_equal (tree (get_or block k d)) in
        then.at k d within ∙ ap (λ b. b || list_any is ds) (first.at k d within) ∙ or_assoc (has m k) (list_any is cs) (list_any is ds) ∙ ap (λ b. has m k || b) (sym (list_any-append is cs ds));
  }

  -- the marks of calls, one after the other
  module _ {X E : Type 0} (seen : X → Candidate) (call : Marks → X → Result Marks E → Type 0) (steps : (t : Marks) (x : X) (u : Marks) → call t x (Ok u) → Marked block (with_elements (seen x)) t u) where
    folded : (cs : List Candidate) (t u : Marks) → FoldsTo (Takes seen call) t cs u → Marked block (flat_map with_elements cs) t u
    folded [] t u h = subst (Marked block [] t) h (marked-none t)
    folded (c ∷ cs) t u h = marked-more (with_elements c) (flat_map with_elements cs) t h.0 u (subst (λ d. Marked block (with_elements d) t h.0) h.1.is (steps t h.1.at h.0 h.1.gives)) (folded cs h.0 u h.2)

    -- of all candidates of a path
    pub marked-along : (cs : List Candidate) (t u : Marks) → FoldsOver seen call (PassesOne cs) (PassesOne cs) t u → Marked block (flat_map with_elements cs) t u
    marked-along cs t u h = record {
      at = λ k d within.
          let is = is_equal (tree (get_or block k d)) in
          let some = λ (c : Candidate). list_any is (with_elements c) in
          (folded h.taken t u h.calls).at k d within
          ∙ ap (λ b. has t k || b) (any-flat_map is h.taken ∙ both_ways (list_any some h.taken) (list_any some cs) (λ e. (h.only some e).passes) (λ e. h.every some (record { passes = e })) ∙ sym (any-flat_map is cs));
    }
      where
        any-flat_map : (is : Candidate → Bool) (cs : List Candidate) → list_any is (flat_map with_elements cs) ≡ list_any (λ c. list_any is (with_elements c)) cs
        any-flat_map is [] = refl
        any-flat_map is (c ∷ cs) = list_any-append is (with_elements c) (flat_map with_elements cs) ∙ ap (λ b. list_any is (with_elements c) || b) (any-flat_map is cs)

-- ---- elements, one after the other

pub elements-more : (xs : List Value) (i : ℕ) (x : Value) → i < length xs → x ≡ get_or xs i x → map Some (map tree (take (i + 1) xs)) ≡ map Some (map tree (take i xs)) ++ Some (tree x) ∷ []
elements-more xs i x within is =
    ap (λ ys. map Some (map tree ys)) (take-read xs i x within is) ∙ ap (map Some) (map-append tree (take i xs) (x ∷ [])) ∙ map-append Some (map tree (take i xs)) (tree x ∷ [])

-- ---- parts of values that ascend

all-front : (P : Value → Type 0) (xs ys : List Value) → AllByRecursion P (xs ++ ys) → AllByRecursion P xs
all-front P [] ys h = tt
all-front P (x ∷ xs) ys h = (h.0, all-front P xs ys h.1)

pub front-ascends : (xs ys : List Value) → Ascend (xs ++ ys) → Ascend xs
unfolding IsStrictlySortedBy
front-ascends [] ys h = tt
front-ascends (x ∷ xs) ys h = (all-front (λ y. value_order x y ≡ Less) xs ys h.0, front-ascends xs ys h.1)

pub back-ascends : (xs ys : List Value) → Ascend (xs ++ ys) → Ascend ys
unfolding IsStrictlySortedBy
back-ascends [] ys h = h
back-ascends (x ∷ xs) ys h = back-ascends xs ys h.1

-- ---- all values of a block

all-from : (p : Value → Bool) (xs : List Value) → ((k : ℕ) (d : Value) → k < length xs → p (get_or xs k d) ≡ true) → list_all p xs ≡ true
all-from p [] h = refl
all-from p (x ∷ xs) h = ap (λ b. b && list_all p xs) (h 0 x (omega arith)) ∙ all-from p xs (λ k d within. h (suc k) d (omega arith))

module _ (block : List Value) (cs : List Candidate) (marks : Marks) (marked : Marked block cs no_marks marks) where
  marked-so : (k : ℕ) (d : Value) → k < length block → has marks k ≡ has_equal cs (get_or block k d)
  marked-so k d within = marked.at k d within ∙ ap (λ b. b || has_equal cs (get_or block k d)) (none-has k)

  pub all-marked : (all : Bool) → MatchBool all ((k : ℕ) → k < length block → has marks k ≡ true) ((k : ℕ) × (k < length block) × (has marks k ≡ false)) → all ≡ list_all (has_equal cs) block
  all-marked true every = sym (all-from (has_equal cs) block (λ k d within. sym (marked-so k d within) ∙ every k within))
  all-marked false one = sym (but-one block one.0 one.1 (λ d. sym (marked-so one.0 d one.1) ∙ one.2))
    where
      but-one : (xs : List Value) (k : ℕ) → k < length xs → ((d : Value) → has_equal cs (get_or xs k d) ≡ false) → list_all (has_equal cs) xs ≡ false
      but-one [] k within h = absurd (omega arith)
      but-one (x ∷ xs) k within h = list_all_at (has_equal cs) (x ∷ xs) k x within (h x)

-- ---- values in written order, and their copies

all-by-any : {X : Type 0} (p : X → Bool) (xs : List X) → list_all p xs ≡ not (list_any (λ x. not (p x)) xs)
all-by-any p [] = refl
all-by-any p (x ∷ xs) = ap (λ b. p x && b) (all-by-any p xs) ∙ both (p x) (list_any (λ y. not (p y)) xs)
  where
    both : (a b : Bool) → (a && not b) ≡ not (not a || b)
    both true b = refl
    both false b = refl

respects : (cs : List Candidate) → RespectsEqual (λ v. list_any (is_equal v) cs)
respects [] v w e = refl
respects (c ∷ cs) v w e = ap₂ (λ a b. a || b) (ap is_eq (alike_right order_total v w (or_null c) e)) (respects cs v w e)

pub every-chosen : (vs : List Tree) (values : List Value) (cs : List Candidate) → AreChoicesInOrder vs values → 0 < length vs → list_all (has_equal cs) values ≡ holds_every vs cs
every-chosen vs values cs known some =
    sym (all-map p tree values) ∙ all-by-any p (map tree values) ∙ ap not (known.same (λ v. not (p v)) (λ v w e. ap not (respects cs v w e))) ∙ sym (all-by-any p vs) ∙ sym (there vs some)
  where
    p : Tree → Bool
    p v = list_any (is_equal v) cs

    there : (vs : List Tree) → 0 < length vs → holds_every vs cs ≡ list_all (λ v. list_any (is_equal v) cs) vs
    there [] h = absurd (omega arith)
    there (v ∷ vs) h = let more : (length (v ∷ vs) == 0) ≡ false = grind (arith, tests) in ap (λ b. not b && list_all p (v ∷ vs)) more
