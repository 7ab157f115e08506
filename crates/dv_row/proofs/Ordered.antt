-- Ways in order: where those that lead through a name are.
use Rattle.std.proofs.Common.{◌≡◌, ◌∙◌, ap, ap₂, sym, subst, refl, Bool, true, false, ◌||◌, List, [], ◌∷◌, ℕ, zero, suc, ◌+◌, ◌-◌, ◌<◌, ◌≤◌, add-one, arith, length, take, drop, map, get_or, nat_le, Some, None, slice_get, if◌then◌else◌}
use Rattle.std.specs.Cmp.{IsTotalOrder, IsStrictWeakOrder, tied_itself}
use Rattle.std.specs.Cmp.Lexicographic.{lists_total, nat_list_cmp_total}
use Rattle.std.specs.List.{list_any}
use Rattle.std.specs.List.Sorted.{IsPartitionedBy, IsPartitionPoint, IsPermutation, IsSortedBy}
use Rattle.std.specs.Ordering.{ordering_then, ordering_reverse, is_lt, is_le, is_eq}
use Rattle.std.specs.Str.{bytes_eq}
use Rattle.std.specs.declared.cmp.Ordering.{Ordering}
use Rattle.std.specs.declared.cmp.Ordering.TheVariants.{Less, Equal, Greater}
use Rattle.std.proofs.lemmas.Bool.Decides.{nat_tests}
use Rattle.std.proofs.lemmas.Cmp.{alike_right}
use Rattle.std.proofs.lemmas.List.{get_or-drop, get_or-take, length-drop}
use Rattle.std.proofs.lemmas.List.MinMax.{ranks_by}
use Rattle.std.proofs.lemmas.List.Sorted.{sorted_far, list_any-IsPermutation}
use Rattle.std.proofs.lemmas.Map.Lookups.{exact_bytes}
use Rattle.std.proofs.lemmas.Slice.Eq.{bytes_eq-Decides}
use Rattle.dv_order.specs.Inner.KeyLaws.{is-less}
use Rattle.dv_row.specs.Projecting.{paths_behind, ends}
use Rattle.dv_row.specs.Inner.Ways.{name_order, way_order, way_beside, Ascend, IsInOrder}

abbrev Way : Type 0
Way = List (List ℕ)

-- ---- the order

pub ways_total : IsTotalOrder way_order
ways_total = lists_total nat_list_cmp_total

abbrev pub stands_before : Way → Way → Bool
stands_before v w = is_lt (way_order v w)

pub ranked : IsStrictWeakOrder stands_before
ranked = ranks_by ways_total (λ (w : Way). w)

pub ascending : (ps : List Way) → IsSortedBy stands_before ps → Ascend 0 ps
ascending ps sorted = record { far = λ i j d upto within. sorted_far stands_before ranked ps sorted i j d upto within }

-- a copy of a list, put in order
pub in-order : (paths copied ordered : List Way) → copied ≡ paths → IsPermutation copied ordered → Ascend 0 ordered → IsInOrder paths ordered
in-order paths copied ordered seen moved order = record {
  ascends = order;
  same = λ test. sym (list_any-IsPermutation test copied ordered moved) ∙ ap (list_any test) seen;
}

pub first-not-less : (o p : Ordering) → is_lt (ordering_then o p) ≡ false → is_lt o ≡ false
first-not-less Less p h = h
first-not-less Equal p h = refl
first-not-less Greater p h = refl

pub equal : (o : Ordering) → is_eq o ≡ true → o ≡ Equal
equal Less e = absurd cc
equal Equal e = refl
equal Greater e = absurd cc

module _ (n m name : List ℕ) (upto : is_lt (name_order m n) ≡ false) where
  strictly : is_lt (name_order m name) ≡ true → is_lt (name_order n name) ≡ true
  strictly e = go (name_order n m) refl
    where
      go : (o : Ordering) → name_order n m ≡ o → is_lt (name_order n name) ≡ true
      go Less l = ap is_lt (nat_list_cmp_total.trans n m name l (is-less (name_order m name) e))
      go Equal l = ap is_lt (nat_list_cmp_total.congr n m name l) ∙ e
      go Greater l =
          let turned : name_order m n ≡ Less = nat_list_cmp_total.antisymm m n ∙ ap ordering_reverse l in
          let no : true ≡ false = sym (ap is_lt turned) ∙ upto in
          absurd cc

  loosely : is_le (name_order m name) ≡ true → is_le (name_order n name) ≡ true
  loosely e = go (name_order n m) refl (name_order m name) refl
    where
      go : (o : Ordering) → name_order n m ≡ o → (p : Ordering) → name_order m name ≡ p → is_le (name_order n name) ≡ true
      go Less l Less k = ap is_le (nat_list_cmp_total.trans n m name l k)
      go Less l Equal k = ap is_le (sym (alike_right nat_list_cmp_total m name n k) ∙ l)
      go Less l Greater k = let no : true ≡ false = sym e ∙ ap is_le k in absurd cc
      go Equal l p k = ap is_le (nat_list_cmp_total.congr n m name l) ∙ e
      go Greater l p k =
          let turned : name_order m n ≡ Less = nat_list_cmp_total.antisymm m n ∙ ap ordering_reverse l in
          let no : true ≡ false = sym (ap is_lt turned) ∙ upto in
          absurd cc

beside-strictly : (x y : Way) (name : List ℕ) → is_lt (way_order y x) ≡ false → is_lt (way_beside name y) ≡ true → is_lt (way_beside name x) ≡ true
beside-strictly [] y name h e = refl
beside-strictly (n ∷ ns) [] name h e = absurd cc
beside-strictly (n ∷ ns) (m ∷ ms) name h e = strictly n m name (first-not-less (name_order m n) (way_order ms ns) h) e

beside-loosely : (x y : Way) (name : List ℕ) → is_lt (way_order y x) ≡ false → is_le (way_beside name y) ≡ true → is_le (way_beside name x) ≡ true
beside-loosely [] y name h e = refl
beside-loosely (n ∷ ns) [] name h e = absurd cc
beside-loosely (n ∷ ns) (m ∷ ms) name h e = loosely n m name (first-not-less (name_order m n) (way_order ms ns) h) e

pub same-name : (n name : List ℕ) → is_eq (name_order n name) ≡ true → n ≡ name
same-name n name e = exact_bytes n name (equal (name_order n name) e)

-- without the name through which both lead, two ways keep their order
tails : (name : List ℕ) (x y : Way) → is_eq (way_beside name x) ≡ true → is_eq (way_beside name y) ≡ true → is_lt (way_order y x) ≡ false → is_lt (way_order (drop 1 y) (drop 1 x)) ≡ false
tails name [] y e f h = absurd cc
tails name (n ∷ ns) [] e f h = absurd cc
tails name (n ∷ ns) (m ∷ ms) e f h =
    let tied : name_order m n ≡ Equal = ap (name_order m) (same-name n name e ∙ sym (same-name m name f)) ∙ tied_itself nat_list_cmp_total m in
    sym (ap (λ o. is_lt (ordering_then o (way_order ms ns))) tied) ∙ h

-- ---- parts of a list in order

drop-suc : (k : ℕ) (p : Way) → drop 1 (drop k p) ≡ drop (suc k) p
drop-suc zero p = refl
drop-suc (suc k) [] = refl
drop-suc (suc k) (n ∷ p) = drop-suc k p

drop-more : (k : ℕ) (p : Way) → drop 1 (drop k p) ≡ drop (k + 1) p
drop-more k p = drop-suc k p ∙ ap (λ n. drop n p) (sym (add-one k))

pub drop-all : (ps : List Way) → map (drop 0) ps ≡ ps
drop-all [] = refl
drop-all (p ∷ ps) = ap (λ l. p ∷ l) (drop-all ps)

pub all-taken : (n from : ℕ) (ps : List Way) → n ≡ length ps - from → take n (drop from ps) ≡ drop from ps
all-taken n from ps e = whole n (drop from ps) (omega (arith, length-drop from ps))
  where
    whole : (n : ℕ) (ps : List Way) → length ps ≤ n → take n ps ≡ ps
    whole zero [] h = refl
    whole (suc n) [] h = refl
    whole zero (p ∷ ps) h = absurd (omega arith)
    whole (suc n) (p ∷ ps) h = ap (λ l. p ∷ l) (whole n ps (omega arith))

shorter : (n : ℕ) (ps : List Way) (k : ℕ) → k < length (take n ps) → k < n
shorter zero ps k l = absurd (omega (arith, l))
shorter (suc n) [] k l = absurd (omega (arith, l))
shorter (suc n) (p ∷ ps) zero l = omega arith
shorter (suc n) (p ∷ ps) (suc k) l = let rest : k < n = shorter n ps k (omega (arith, l)) in omega (arith, rest)

module _ (depth : ℕ) (name : List ℕ) where
  abbrev pub stands : Way → Ordering
  stands p = way_beside name (drop depth p)

  module _ (ps : List Way) (order : Ascend depth ps) where
    pub parted-strictly : IsPartitionedBy (λ p. is_lt (stands p)) ps
    parted-strictly i j d upto within e = beside-strictly (drop depth (get_or ps i d)) (drop depth (get_or ps j d)) name (order.far i j d upto within) e

    pub parted-loosely : IsPartitionedBy (λ p. is_le (stands p)) ps
    parted-loosely i j d upto within e = beside-loosely (drop depth (get_or ps i d)) (drop depth (get_or ps j d)) name (order.far i j d upto within) e

    pub ascend-drop : (from : ℕ) → Ascend depth (drop from ps)
    ascend-drop from = record {
      far = λ i j d upto within. rw (get_or-drop from ps i d, get_or-drop from ps j d) (order.far (from + i) (from + j) d (omega (arith, upto)) (omega (arith, within, length-drop from ps)));
    }

  -- ---- what follows a name

  passed : (w : Way) (ws : List Way) → is_eq (way_beside name w) ≡ false → paths_behind name (w ∷ ws) ≡ paths_behind name ws
  passed [] ws e = refl
  passed (n ∷ ns) ws e = go (bytes_eq name n) refl
    where
      go : (b : Bool) → bytes_eq name n ≡ b → paths_behind name ((n ∷ ns) ∷ ws) ≡ paths_behind name ws
      go false f = ap (λ b. if b then ns ∷ paths_behind name ws else paths_behind name ws) f
      go true f =
          let tied : name_order n name ≡ Equal = ap (name_order n) ((bytes_eq-Decides name n).0 f) ∙ tied_itself nat_list_cmp_total n in
          let no : true ≡ false = sym (ap is_eq tied) ∙ e in
          absurd cc

  taken : (w : Way) (ws : List Way) → is_eq (way_beside name w) ≡ true → paths_behind name (w ∷ ws) ≡ drop 1 w ∷ paths_behind name ws
  taken [] ws e = absurd cc
  taken (n ∷ ns) ws e = ap (λ b. if b then ns ∷ paths_behind name ws else paths_behind name ws) ((bytes_eq-Decides name n).1 (sym (same-name n name e)))

  before : (o : Ordering) → is_lt o ≡ true → is_eq o ≡ false
  before o e = ap is_eq (is-less o e)

  past : (o : Ordering) → is_le o ≡ false → is_eq o ≡ false
  past Less e = absurd cc
  past Equal e = absurd cc
  past Greater e = refl

  among : (o : Ordering) → is_lt o ≡ false → is_le o ≡ true → is_eq o ≡ true
  among Less h e = absurd cc
  among Equal h e = refl
  among Greater h e = absurd cc

  skipped : (i : ℕ) (ps : List Way) → ((k : ℕ) (d : Way) → k < i → is_lt (stands (get_or ps k d)) ≡ true) → paths_behind name (map (drop depth) ps) ≡ paths_behind name (map (drop depth) (drop i ps))
  skipped zero ps h = refl
  skipped (suc i) [] h = refl
  skipped (suc i) (p ∷ ps) h = passed (drop depth p) (map (drop depth) ps) (before (stands p) (h 0 p (omega arith))) ∙ skipped i ps (λ k d l. h (suc k) d (omega (arith, l)))

  kept : (i : ℕ) (ps : List Way) → ((k : ℕ) (d : Way) → k < length ps → is_lt (stands (get_or ps k d)) ≡ false) → ((k : ℕ) (d : Way) → k < i → is_le (stands (get_or ps k d)) ≡ true)
      → ((k : ℕ) (d : Way) → i ≤ k → k < length ps → is_le (stands (get_or ps k d)) ≡ false) → paths_behind name (map (drop depth) ps) ≡ map (drop (depth + 1)) (take i ps)
  kept zero [] from upto beyond = refl
  kept (suc i) [] from upto beyond = refl
  kept zero (p ∷ ps) from upto beyond =
      passed (drop depth p) (map (drop depth) ps) (past (stands p) (beyond 0 p (omega arith) (omega arith))) ∙ kept zero ps (λ k d l. from (suc k) d (omega (arith, l))) (λ k d l. absurd (omega (arith, l))) (λ k d h l. beyond (suc k) d (omega (arith, h)) (omega (arith, l)))
  kept (suc i) (p ∷ ps) from upto beyond =
      taken (drop depth p) (map (drop depth) ps) (among (stands p) (from 0 p (omega arith)) (upto 0 p (omega arith)))
      ∙ ap₂ (λ (w : Way) (ws : List Way). w ∷ ws) (drop-more depth p) (kept i ps (λ k d l. from (suc k) d (omega (arith, l))) (λ k d l. upto (suc k) d (omega (arith, l))) (λ k d h l. beyond (suc k) d (omega (arith, h)) (omega (arith, l))))

  -- two searches, of which the second searches what the first leaves
  module _ (ps qs : List Way) (from count : ℕ) (order : Ascend depth ps) (left : qs ≡ drop from ps)
      (first : IsPartitionPoint (λ p. is_lt (stands p) ≡ true) (λ p. is_lt (stands p) ≡ false) ps from) (second : IsPartitionPoint (λ p. is_le (stands p) ≡ true) (λ p. is_le (stands p) ≡ false) qs count) (within : count ≤ length qs) where
    not-before : (k : ℕ) (d : Way) → k < length qs → is_lt (stands (get_or qs k d)) ≡ false
    not-before k d l = ap (λ l. is_lt (stands (get_or l k d))) left ∙ ap (λ p. is_lt (stands p)) (get_or-drop from ps k d) ∙ first.1 (from + k) d (omega arith) (omega (arith, l, ap length left, length-drop from ps))

    pub behind-found : paths_behind name (map (drop depth) ps) ≡ map (drop (depth + 1)) (take count qs)
    behind-found = skipped from ps (λ k d l. first.0 k d (omega arith) l) ∙ ap (λ l. paths_behind name (map (drop depth) l)) (sym left) ∙ kept count qs not-before (λ k d l. second.0 k d (omega arith) l) second.1

    at-name : (k : ℕ) (d : Way) → k < length (take count qs) → is_eq (stands (get_or (take count qs) k d)) ≡ true
    at-name k d l =
        let near : k < count = shorter count qs k l in
        ap (λ p. is_eq (stands p)) (get_or-take count qs k d near) ∙ among (stands (get_or qs k d)) (not-before k d (omega (arith, near, within))) (second.0 k d (omega arith) near)

    pub found-ascends : Ascend (depth + 1) (take count qs)
    found-ascends = record { far = λ i j d upto l. between i j d upto l }
      where
        between : (i j : ℕ) (d : Way) → i ≤ j → j < length (take count qs) → is_lt (way_order (drop (depth + 1) (get_or (take count qs) j d)) (drop (depth + 1) (get_or (take count qs) i d))) ≡ false
        between i j d upto l =
            let x = get_or (take count qs) i d in
            let y = get_or (take count qs) j d in
            let near : j < count = shorter count qs j l in
            let whole : Ascend depth qs = subst (Ascend depth) (sym left) (ascend-drop ps order from) in
            let apart : is_lt (way_order (drop depth y) (drop depth x)) ≡ false = rw (get_or-take count qs i d (omega (arith, upto, near)), get_or-take count qs j d near) (whole.far i j d upto (omega (arith, near, within))) in
            ap₂ (λ a b. is_lt (way_order a b)) (sym (drop-more depth y)) (sym (drop-more depth x)) ∙ tails name (drop depth x) (drop depth y) (at-name i d (omega (arith, upto, l))) (at-name j d l) apart

    -- if none is found, no way leads through the name
    pub found-none : None ≡ slice_get (take count qs) 0 → [] ≡ paths_behind name (map (drop depth) ps)
    found-none e = sym (behind-found ∙ ap (map (drop (depth + 1))) (empty (take count qs) e))
      where
        empty : (rs : List Way) → None ≡ slice_get rs 0 → rs ≡ []
        empty [] e = refl
        empty (r ∷ rs) e = absurd cc

    -- none of them ends
    pub found-long : (path : Way) → Some path ≡ slice_get (take count qs) 0 → (depth < length path → ⊥) → ⊥
    found-long path e short = go (take count qs) e (λ d l. at-name 0 d l)
      where
        ended : (k : ℕ) (p : Way) → (k < length p → ⊥) → drop k p ≡ []
        ended zero [] h = refl
        ended (suc k) [] h = refl
        ended zero (n ∷ p) h = absurd (h (omega arith))
        ended (suc k) (n ∷ p) h = ended k p (λ l. h (omega (arith, l)))

        go : (rs : List Way) → Some path ≡ slice_get rs 0 → ((d : Way) → 0 < length rs → is_eq (stands (get_or rs 0 d)) ≡ true) → ⊥
        go [] e h = absurd cc
        go (r ∷ rs) e h =
            let same : path ≡ r = cc in
            let no : false ≡ true = sym (ap (λ w. is_eq (way_beside name w)) (ap (drop depth) (sym same) ∙ ended depth path short)) ∙ h r (omega arith) in
            cc

-- ---- ways that end

ends-at : (depth : ℕ) (p : Way) → nat_le (length p) depth ≡ ends (drop depth p)
ends-at zero [] = grind (arith, nat_tests)
ends-at zero (n ∷ p) = grind (arith, nat_tests)
ends-at (suc k) [] = grind (arith, nat_tests)
ends-at (suc k) (n ∷ p) = let shorter : nat_le (length (n ∷ p)) (suc k) ≡ nat_le (length p) k = grind (arith, nat_tests) in shorter ∙ ends-at k p

module _ (depth : ℕ) where
  not-ended : (w : Way) (n : List ℕ) (ns : Way) → is_lt (way_order w (n ∷ ns)) ≡ false → ends w ≡ false
  not-ended [] n ns h = absurd cc
  not-ended (m ∷ w) n ns h = refl

  none-ends : (n : List ℕ) (ns : Way) (ps : List Way) → ((k : ℕ) (d : Way) → k < length ps → is_lt (way_order (drop depth (get_or ps k d)) (n ∷ ns)) ≡ false) → list_any ends (map (drop depth) ps) ≡ false
  none-ends n ns [] h = refl
  none-ends n ns (p ∷ ps) h = ap (λ b. b || list_any ends (map (drop depth) ps)) (not-ended (drop depth p) n ns (h 0 p (omega arith))) ∙ none-ends n ns ps (λ k d l. h (suc k) d (omega (arith, l)))

  -- whether one of the ways ends is seen from the first one
  pub first-ends : (ps : List Way) (path : Way) → Ascend depth ps → Some path ≡ slice_get ps 0 → nat_le (length path) depth ≡ list_any ends (map (drop depth) ps)
  first-ends [] path order e = absurd cc
  first-ends (p ∷ ps) path order e =
      let same : path ≡ p = cc in
      ap (λ q. nat_le (length q) depth) same ∙ ends-at depth p ∙ go (drop depth p) refl
    where
      go : (w : Way) → drop depth p ≡ w → ends (drop depth p) ≡ (ends (drop depth p) || list_any ends (map (drop depth) ps))
      go [] e = rw e refl
      go (n ∷ ns) e = rw e (sym (none-ends n ns ps (λ k d l. subst (λ w. is_lt (way_order (drop depth (get_or ps k d)) w) ≡ false) e (order.far 0 (suc k) d (omega arith) (omega (arith, l))))))
