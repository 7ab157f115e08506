-- What edits meet at their paths: the same whatever other paths put, and nothing if they fill an array.
use Rattle.std.proofs.Common.{◌≡◌, ◌∙◌, ap, ap₂, sym, refl, ℕ, zero, suc, ◌≤◌, ◌<◌, ◌&&◌, ◌||◌, nat_lt, nat_le, Bool, true, false, List, [], ◌∷◌, length, Option, Some, None, is_none, slice_get, Result, Ok, Err, ◌⊎◌, inl, inr, if◌then◌else◌, arith}
use Rattle.std.specs.Cmp.{tied_itself}
use Rattle.std.specs.Cmp.Lexicographic.{slice_cmp}
use Rattle.std.specs.Option.{unwrap_or}
use Rattle.std.specs.Ordering.{ordering_then, nat_cmp, bool_cmp, MatchOrdering}
use Rattle.std.proofs.lemmas.Cmp.{ranked}
use Rattle.std.specs.Result.{result_err}
use Rattle.std.specs.Str.{bytes_eq}
use Rattle.std.specs.declared.cmp.Ordering.{Ordering}
use Rattle.std.specs.declared.cmp.Ordering.TheVariants.{Less, Equal, Greater}
use Rattle.std.proofs.lemmas.Bool.Decides.{nat_tests}
use Rattle.std.proofs.lemmas.Option.{slice_get_within}
use Rattle.std.proofs.lemmas.Slice.Eq.{bytes_eq-Decides}
use Rattle.dv_value.specs.Names.{value_under}
use Rattle.dv_value.specs.Tree.{Tree, document, array, Field, Fields, fields_of, list_of_fields, Elements, elements_of, list_of_elements}
use Rattle.dv_value.specs.Inner.TreeLaws.{elements_again, fields_again}
use Rattle.dv_candidates.specs.Path.{index_of}
use Rattle.dv_path.specs.Placing.{result_map, with_field, with_element, put_field, put_element, put_behind, put}
use Rattle.dv_path.specs.Slots.{Slot, free, blocked, slot_of, element_slot, slot_behind, slot}
use Rattle.dv_path.specs.Inner.Fielded.{field-at, element-at, field-other}
use Rattle.dv_path.specs.Inner.ResultLaws.{refused-further, made-by}
use Rattle.dv_candidates.specs.declared.fault.PathFault.{PathFault}
use Rattle.dv_candidates.specs.declared.fault.PathFault.TheVariants.{NotViable, IndexTooLarge}
use Rattle.dv_update.specs.Apply.{Path}
use Rattle.dv_update.specs.Inner.Filling.{beyond, beyond_array, beyond_element}
use Rattle.dv_update.specs.PathOrder.{component_order, path_order, begins}
use Rattle.dv_update.proofs.Paths.{component-exact}
use Rattle.dv_update.proofs.Putting.{may-stand, element-made, places-apart}
use Rattle.dv_update.proofs.RemovalsLast.{SlotsStay}
use Rattle.dv_update.proofs.Stepwise.{Before}
use Rattle.dv_update.specs.Inner.PathOrderLaws.{component_order_total}

-- ---- what an edit meets: the slot at its path, and why nothing can be put there

abbrev pub Met : Type 0
Met = Slot × Option PathFault

abbrev met : Path → Tree → Option Tree → Met
met q w c = (slot_behind q (slot_of c), result_err (put_behind q w c))

abbrev pub met_in : List Field → Path → Tree → Met
met_in d q w = (slot d q, result_err (put d q w))

pair : {s t : Slot} {o p : Option PathFault} → s ≡ t → o ≡ p → (let m : Met = (s, o) in m) ≡ (t, p)
pair e f = ap₂ (λ s o. let m : Met = (s, o) in m) e f

met-fields : (b : List ℕ) (q : Path) (w : Tree) (fs : Fields) → met (b ∷ q) w (Some (document fs)) ≡ met q w (value_under b (list_of_fields fs))
met-fields b q w fs =
    pair refl
    (refused-further (λ gs. document (fields_of gs)) (put_field (put_behind q w) b (list_of_fields fs)) ∙ refused-further (λ v. with_field b (Some v) (list_of_fields fs)) (put_behind q w (value_under b (list_of_fields fs))))

met-missing : (b : List ℕ) (q : Path) (w : Tree) → met (b ∷ q) w None ≡ met q w None
met-missing b q w =
    pair refl
    (refused-further (λ gs. document (fields_of gs)) (put_field (put_behind q w) b [])
    ∙ refused-further (λ v. with_field b (Some v) []) (put_behind q w None))

met-document : (b : List ℕ) (q : Path) (w : Tree) (d : List Field) → met_in d (b ∷ q) w ≡ met q w (value_under b d)
unfolding put slot
met-document b q w d =
    pair (ap (λ gs. slot_behind q (slot_of (value_under b gs))) (fields_again d)) (refused-further (λ v. with_field b (Some v) d) (put_behind q w (value_under b d)))

-- in an array
abbrev met-place : Path → Tree → ℕ → List Tree → Met
met-place q w j vs = (slot_behind q (slot_of (slice_get vs j)), if may-stand j vs then result_err (put_behind q w (slice_get vs j)) else Some IndexTooLarge)

abbrev met-element : Path → Tree → Option ℕ → List Tree → Met
met-element q w None vs = (slot_behind q blocked, Some NotViable)
met-element q w (Some j) vs = met-place q w j vs

met-elements : (b : List ℕ) (q : Path) (w : Tree) (vs : Elements) → met (b ∷ q) w (Some (array vs)) ≡ met-element q w (index_of b) (list_of_elements vs)
met-elements b q w vs = pair refl (refused-further (λ xs. array (elements_of xs)) (put_element (put_behind q w) (index_of b) ws)) ∙ by (index_of b)
  where
    ws : List Tree
    ws = list_of_elements vs

    test : (j : ℕ) (may : Bool) → result_err (if may then result_map (λ v. with_element j v ws) (put_behind q w (slice_get ws j)) else Err IndexTooLarge) ≡ (if may then result_err (put_behind q w (slice_get ws j)) else Some IndexTooLarge)
    test j true = refused-further (λ v. with_element j v ws) (put_behind q w (slice_get ws j))
    test j false = refl

    by : (o : Option ℕ) → (let m : Met = (slot_behind q (element_slot o ws), result_err (put_element (put_behind q w) o ws)) in m) ≡ met-element q w o ws
    by None = refl
    by (Some j) = pair refl (test j (may-stand j ws))

-- if a value may be put there, the element is met
met-there : (q : Path) (w : Tree) (j : ℕ) (vs : List Tree) → may-stand j vs ≡ true → met-place q w j vs ≡ met q w (slice_get vs j)
met-there q w j vs may = pair refl (ap (λ b. if b then result_err (put_behind q w (slice_get vs j)) else Some IndexTooLarge) may)

met-same : (q : Path) (w : Tree) (j : ℕ) (us vs : List Tree) → slice_get us j ≡ slice_get vs j → may-stand j us ≡ may-stand j vs → met-place q w j us ≡ met-place q w j vs
met-same q w j us vs there may = pair (ap (λ c. slot_behind q (slot_of c)) there) (ap₂ (λ b c. if b then result_err (put_behind q w c) else Some IndexTooLarge) may there)

-- ---- what is put at one path doesn't affect a path that comes after it

-- two paths, each with one more component, of which the first comes before the second
abbrev Parts : List ℕ → Path → List ℕ → Path → Type 0
Parts a p b q = ((component_order a b ≡ Less) × (a ≡ b → ⊥)) ⊎ ((a ≡ b) × Before p q)

parts : (a : List ℕ) (p : Path) (b : List ℕ) (q : Path) → Before (a ∷ p) (b ∷ q) → Parts a p b q
parts a p b q h = by (bytes_eq a b) (component_order a b) refl refl h.0 h.1
  where
    by : (same : Bool) (o : Ordering) → bytes_eq a b ≡ same → component_order a b ≡ o → ordering_then o (path_order p q) ≡ Less → (same && begins p q) ≡ false → Parts a p b q
    by true Equal s c less none = inr ((bytes_eq-Decides a b).0 s, (less, none))
    by true Less s c less none = absurd (let e : a ≡ b = (bytes_eq-Decides a b).0 s in let f : Equal ≡ Less = sym (ap (component_order a) (sym e) ∙ tied_itself component_order_total a) ∙ c in cc)
    by true Greater s c less none = cc
    by false Equal s c less none = absurd (let f : bytes_eq a b ≡ true = (bytes_eq-Decides a b).1 (component-exact a b c) in cc)
    by false Less s c less none = inl (c, λ e. let f : bytes_eq a b ≡ true = (bytes_eq-Decides a b).1 e in cc)
    by false Greater s c less none = cc

later-stays : (i j : ℕ) (x : Tree) (vs : List Tree) → i < j → slice_get (with_element i x vs) j ≡ slice_get vs j
later-stays zero zero x vs h = absurd (omega arith)
later-stays (suc i) zero x vs h = absurd (omega arith)
later-stays zero (suc j) x [] h = refl
later-stays zero (suc j) x (v ∷ vs) h = refl
later-stays (suc i) (suc j) x [] h = later-stays i j x [] (omega arith)
later-stays (suc i) (suc j) x (v ∷ vs) h = later-stays i j x vs (omega arith)

longer : (i : ℕ) (x : Tree) (vs : List Tree) → ((i < length vs) × (length (with_element i x vs) ≡ length vs)) ⊎ ((length vs ≤ i) × (length (with_element i x vs) ≡ suc i))
longer zero x [] = inr (omega arith, refl)
longer zero x (v ∷ vs) = inl (omega arith, refl)
longer (suc i) x [] = elim (longer i x []) [ inl h ↦ absurd (omega (arith, h.0)) | inr h ↦ inr (omega arith, ap suc h.1) ]
longer (suc i) x (v ∷ vs) = elim (longer i x vs) [ inl h ↦ inl (omega (arith, h.0), ap suc h.1) | inr h ↦ inr (omega (arith, h.0), ap suc h.1) ]

-- a value that is put doesn't change whether one may be put at a later place of an array
may-stay : (i j : ℕ) (x : Tree) (vs : List Tree) → i < j → may-stand i vs ≡ true → may-stand j (with_element i x vs) ≡ may-stand j vs
may-stay i j x vs less may = elim (longer i x vs) [
  | inl h ↦ ap (λ n. nat_lt j n || nat_le j 100000) h.1
  | inr h ↦
      (let near : i ≤ 100000 = grind (arith, nat_tests, h.0, may) in
      ap (λ n. nat_lt j n || nat_le j 100000) h.1 ∙ grind (arith, nat_tests, less, h.0))
]

may-there : (i : ℕ) (x : Tree) (vs : List Tree) → may-stand i (with_element i x vs) ≡ true
may-there i x vs = elim (longer i x vs) [ inl h ↦ grind (arith, nat_tests, h.0, h.1) | inr h ↦ grind (arith, nat_tests, h.1) ]

module _ (slots : SlotsStay) where
  later-place : (a b : List ℕ) (i j : ℕ) → component_order a b ≡ Less → (a ≡ b → ⊥) → index_of a ≡ Some i → index_of b ≡ Some j → i < j
  later-place a b i j less ne ia ib = by (nat_cmp i j) (ranked i j (nat_cmp i j) refl) numbers
    where
      bytes : Ordering
      bytes = slice_cmp nat_cmp a b

      numbers : ordering_then (nat_cmp i j) bytes ≡ Less
      numbers = ap₂ (λ o p. ordering_then (bool_cmp (is_none o) (is_none p)) (ordering_then (nat_cmp (unwrap_or o 0) (unwrap_or p 0)) bytes)) (sym ia) (sym ib) ∙ less

      by : (o : Ordering) → MatchOrdering o (i < j) (i ≡ j) (j < i) → ordering_then o bytes ≡ Less → i < j
      by Less is l = is
      by Equal is l = absurd (places-apart slots a b j ne (ia ∙ ap Some is) ib)
      by Greater is l = cc

  module _ (v : Tree) where
    abbrev Kept : Path → Path → Type 0
    Kept p q = Before p q → (w : Tree) (c : Option Tree) (u : Tree) → put_behind p v c ≡ Ok u → met q w (Some u) ≡ met q w c

    field-kept : (a : List ℕ) (p : Path) (b : List ℕ) (q : Path) → Kept p q → Parts a p b q → (w : Tree) (gs : List Field) (x : Tree) → put_behind p v (value_under a gs) ≡ Ok x → met q w (value_under b (with_field a (Some x) gs)) ≡ met q w (value_under b gs)
    field-kept a p b q kept (inl h) w gs x put = ap (met q w) (field-other a b (Some x) gs (λ e. h.1 (sym e)))
    field-kept a p b q kept (inr h) w gs x put =
        ap (λ n. met q w (value_under n (with_field a (Some x) gs))) (sym h.0)
        ∙ ap (met q w) (field-at a x gs)
        ∙ kept h.1 w (value_under a gs) x put
        ∙ ap (λ n. met q w (value_under n gs)) h.0

    element-kept : (a : List ℕ) (p : Path) (b : List ℕ) (q : Path) → Kept p q → Parts a p b q → (w : Tree) (vs : List Tree) (i : ℕ) (x : Tree) → index_of a ≡ Some i → may-stand i vs ≡ true → put_behind p v (slice_get vs i) ≡ Ok x
        → met-element q w (index_of b) (with_element i x vs) ≡ met-element q w (index_of b) vs
    element-kept a p b q kept h w vs i x ia may put = by (index_of b) refl h
      where
        by : (o : Option ℕ) → index_of b ≡ o → Parts a p b q → met-element q w o (with_element i x vs) ≡ met-element q w o vs
        by None ib h = refl
        by (Some j) ib (inl h) =
            let less : i < j = later-place a b i j h.0 h.1 ia ib in
            met-same q w j (with_element i x vs) vs (later-stays i j x vs less) (may-stay i j x vs less may)
        by (Some j) ib (inr h) =
            let same : Some i ≡ Some j = sym ia ∙ ap index_of h.0 ∙ ib in
            let here : i ≡ j = cc in
            rw (← here)
            (met-there q w i (with_element i x vs) (may-there i x vs)
            ∙ ap (met q w) (element-at i x vs)
            ∙ kept h.1 w (slice_get vs i) x put
            ∙ sym (met-there q w i vs may))

    kept : (p q : Path) → Kept p q
    kept [] q h w c u put = absurd (let e = h.1 in cc)
    kept (a ∷ p) [] h w c u put = absurd (let e = h.0 in cc)
    kept (a ∷ p) (b ∷ q) h w None u put =
        let outer = made-by (λ fs. document (fields_of fs)) (put_field (put_behind p v) a []) u put in
        let inner = made-by (λ x. with_field a (Some x) []) (put_behind p v None) outer.0 outer.1 in
        let made = with_field a (Some inner.0) [] in
        ap (λ t. met (b ∷ q) w (Some t)) (sym outer.2 ∙ ap (λ fs. document (fields_of fs)) (sym inner.2))
        ∙ met-fields b q w (fields_of made)
        ∙ ap (λ fs. met q w (value_under b fs)) (fields_again made)
        ∙ field-kept a p b q (kept p q) (parts a p b q h) w [] inner.0 inner.1
        ∙ sym (met-missing b q w)
    kept (a ∷ p) (b ∷ q) h w (Some (document fs)) u put =
        let gs = list_of_fields fs in
        let outer = made-by (λ hs. document (fields_of hs)) (put_field (put_behind p v) a gs) u put in
        let inner = made-by (λ x. with_field a (Some x) gs) (put_behind p v (value_under a gs)) outer.0 outer.1 in
        let made = with_field a (Some inner.0) gs in
        ap (λ t. met (b ∷ q) w (Some t)) (sym outer.2 ∙ ap (λ hs. document (fields_of hs)) (sym inner.2))
        ∙ met-fields b q w (fields_of made)
        ∙ ap (λ hs. met q w (value_under b hs)) (fields_again made)
        ∙ field-kept a p b q (kept p q) (parts a p b q h) w gs inner.0 inner.1
        ∙ sym (met-fields b q w fs)
    kept (a ∷ p) (b ∷ q) h w (Some (array vs)) u put =
        let ws = list_of_elements vs in
        let outer = made-by (λ xs. array (elements_of xs)) (put_element (put_behind p v) (index_of a) ws) u put in
        let inner = element-made p v (index_of a) ws outer.0 outer.1 in
        let made = with_element inner.0 inner.1 ws in
        ap (λ t. met (b ∷ q) w (Some t)) (sym outer.2 ∙ ap (λ xs. array (elements_of xs)) (sym inner.4))
        ∙ met-elements b q w (elements_of made)
        ∙ ap (met-element q w (index_of b)) (elements_again made)
        ∙ element-kept a p b q (kept p q) (parts a p b q h) w ws inner.0 inner.1 inner.2 inner.5 inner.3
        ∙ sym (met-elements b q w vs)
    kept (a ∷ p) (b ∷ q) h w (Some t) u put = absurd cc

    pub put-kept : (p q : Path) → Before p q → (w : Tree) (d after : List Field) → put d p v ≡ Ok after → met_in after q w ≡ met_in d q w
    unfolding put
    put-kept [] q h w d after put = absurd (let e = h.1 in cc)
    put-kept (a ∷ p) [] h w d after put = absurd (let e = h.0 in cc)
    put-kept (a ∷ p) (b ∷ q) h w d after put =
        let inner = made-by (λ x. with_field a (Some x) d) (put_behind p v (value_under a d)) after put in
        met-document b q w after
        ∙ ap (λ hs. met q w (value_under b hs)) (sym inner.2)
        ∙ field-kept a p b q (kept p q) (parts a p b q h) w d inner.0 inner.1
        ∙ sym (met-document b q w d)

-- ---- where an array is filled, there is no value, and one may be put

met-nothing : (q : Path) (w : Tree) → met q w None ≡ (free, None)
met-nothing [] w = refl
met-nothing (b ∷ q) w = met-missing b q w ∙ met-nothing q w

met-beyond : (q rest : Path) (w : Tree) (c : Option Tree) → beyond q c ≡ Some rest → met q w c ≡ (free, None)
met-beyond [] rest w c e = absurd cc
met-beyond (b ∷ q) rest w None e = absurd cc
met-beyond (b ∷ q) rest w (Some (document fs)) e = met-fields b q w fs ∙ met-beyond q rest w (value_under b (list_of_fields fs)) e
met-beyond (b ∷ q) rest w (Some (array vs)) e = met-elements b q w vs ∙ by (index_of b) e (met-beyond q rest w)
  where
    ws : List Tree
    ws = list_of_elements vs

    Further : Type 0
    Further = (c : Option Tree) → beyond q c ≡ Some rest → met q w c ≡ (free, None)

    at-end : (j : ℕ) (near : Bool) → nat_le j 100000 ≡ near → (if near then Some (b ∷ q) else None) ≡ Some rest → may-stand j ws ≡ true
    at-end j true is e = grind (arith, nat_tests, is)
    at-end j false is e = absurd cc

    at-place : (j : ℕ) (c : Option Tree) → slice_get ws j ≡ c → beyond_element (beyond q) (b ∷ q) j c ≡ Some rest → Further → met-place q w j ws ≡ (free, None)
    at-place j None there e further = met-there q w j ws (at-end j (nat_le j 100000) refl e) ∙ ap (met q w) there ∙ met-nothing q w
    at-place j (Some t) there e further =
        let within : may-stand j ws ≡ true = grind (arith, nat_tests, slice_get_within ws j t there) in
        met-there q w j ws within ∙ ap (met q w) there ∙ further (Some t) e

    by : (o : Option ℕ) → beyond_array (beyond q) (b ∷ q) o ws ≡ Some rest → Further → met-element q w o ws ≡ (free, None)
    by None e further = absurd cc
    by (Some j) e further = at-place j (slice_get ws j) refl e further
met-beyond (b ∷ q) rest w (Some t) e = absurd cc

pub fill-met : (q rest : Path) (w : Tree) (d : List Field) → beyond q (Some (document (fields_of d))) ≡ Some rest → met_in d q w ≡ (free, None)
fill-met [] rest w d e = absurd cc
fill-met (b ∷ q) rest w d e = met-document b q w d ∙ met-beyond q rest w (value_under b d) (ap (λ fs. beyond q (value_under b fs)) (sym (fields_again d)) ∙ e)
