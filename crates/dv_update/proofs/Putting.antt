-- What is put at a path: the length of the value there afterwards, and that values elsewhere stay.
use Rattle.std.proofs.Common.{◌≡◌, ◌∙◌, ap, sym, refl, subst, ℕ, zero, suc, ◌+◌, ◌≤◌, ◌||◌, ◌&&◌, inl, inr, nat_lt, nat_le, Bool, true, false, List, [], ◌∷◌, ◌++◌, length, Option, Some, None, slice_get, Ok, Err, if◌then◌else◌, arith}
use Rattle.std.specs.Str.{bytes_eq}
use Rattle.std.specs.Option.{unwrap_or}
use Rattle.std.proofs.lemmas.Slice.Eq.{bytes_eq-Decides}
use Rattle.dv_value.specs.Names.{value_under}
use Rattle.dv_value.specs.Spelling.{payload, spelling, elements_spelling}
use Rattle.dv_value.specs.Tree.{Tree, document, array, null, boolean, Field, fields_of, list_of_fields, Elements, elements_of, list_of_elements}
use Rattle.dv_value.specs.Inner.TreeLaws.{elements_again, fields_again, fields_back, elements_back}
use Rattle.dv_candidates.specs.Path.{index_of}
use Rattle.dv_path.specs.Placing.{result_map, field_with, with_field, with_element, put_field, put_element, put_behind, put}
use Rattle.dv_path.specs.Removing.{changed_at, remove_element, left_behind, remove}
use Rattle.dv_path.specs.Slots.{Slot, taken, slot_of, element_slot, slot_behind, slot}
use Rattle.dv_path.specs.Inner.Fielded.{field-at, element-at, differ, field-other}
use Rattle.dv_path.specs.Inner.ResultLaws.{made-by}
use Rattle.dv_candidates.specs.declared.fault.PathFault.{PathFault}
use Rattle.dv_candidates.specs.declared.fault.PathFault.TheVariants.{IndexTooLarge}
use Rattle.dv_update.specs.Apply.{Path}
use Rattle.dv_update.specs.PathOrder.{begins}
use Rattle.dv_update.proofs.AlikeDown.{length-field, length-item}
use Rattle.dv_value.specs.Inner.Spelled.{length-array, length-document}
use Rattle.dv_update.proofs.PutThere.{free-stays, blocked-stays}
use Rattle.dv_update.proofs.RemovalsLast.{SlotsStay}

abbrev size : Tree → ℕ
size v = length (payload v)

abbrev pub long : List Field → ℕ
long fs = length (spelling fs)

-- ---- lengths of fields

abbrev field-size : List ℕ → Option Tree → ℕ
field-size name None = 0
field-size name (Some v) = length (payload v) + length name + 2

adds : (f : Field) (fs : List Field) → long (f ∷ fs) ≡ length (payload f.1) + length f.0 + 2 + long fs
adds f fs = omega (arith, length-document (fields_of (f ∷ fs)), length-document (fields_of fs), length-field f.0 f.1 (fields_of fs))

with-length : (name : List ℕ) (c : Option Tree) (fs : List Field) → long (with_field name c fs) + field-size name (value_under name fs) ≡ long fs + field-size name c
with-length name None [] = refl
with-length name (Some v) [] = omega (arith, adds (name, v) [])
with-length name c (f ∷ fs) = by (bytes_eq name f.0) refl c (with-length name c fs)
  where
    by : (b : Bool) → bytes_eq name f.0 ≡ b → (c : Option Tree) → long (with_field name c fs) + field-size name (value_under name fs) ≡ long fs + field-size name c
        → long (if b then field_with f.0 c ++ fs else f ∷ with_field name c fs) + field-size name (if b then Some f.1 else value_under name fs) ≡ long (f ∷ fs) + field-size name c
    by true is None rest = omega (arith, adds f fs, ap length ((bytes_eq-Decides name f.0).0 is))
    by true is (Some v) rest = omega (arith, adds f fs, adds (f.0, v) fs, ap length ((bytes_eq-Decides name f.0).0 is))
    by false is c rest = omega (arith, adds f fs, adds f (with_field name c fs), rest)

-- ---- lengths of elements

abbrev pub items : ℕ → List Tree → ℕ
items i vs = length (elements_spelling i (elements_of vs))

item : (i : ℕ) (v w : Tree) (vs : List Tree) → items i (v ∷ vs) + size w ≡ items i (w ∷ vs) + size v
item i v w vs = omega (arith, length-item i v (elements_of vs), length-item i w (elements_of vs))

element-length : (place i : ℕ) (u : Tree) (vs : List Tree) (w : Tree) → slice_get vs place ≡ Some w → items i (with_element place u vs) + size w ≡ items i vs + size u
element-length place i u [] w e = cc
element-length zero i u (v ∷ vs) w e = let same : v ≡ w = cc in omega (arith, item i u v vs, ap size same)
element-length (suc place) i u (v ∷ vs) w e = omega (arith, length-item i v (elements_of (with_element place u vs)), length-item i v (elements_of vs), element-length place (suc i) u vs w e)

element-other : (i j : ℕ) (u : Tree) (vs : List Tree) (w : Tree) → (i ≡ j → ⊥) → slice_get vs i ≡ Some w → slice_get (with_element j u vs) i ≡ Some w
element-other i j u [] w ne e = cc
element-other zero zero u (v ∷ vs) w ne e = absurd (ne refl)
element-other zero (suc j) u (v ∷ vs) w ne e = e
element-other (suc i) zero u (v ∷ vs) w ne e = e
element-other (suc i) (suc j) u (v ∷ vs) w ne e = element-other i j u vs w (λ same. ne (ap suc same)) e

no-shorter : (place : ℕ) (u : Tree) (vs : List Tree) → length vs ≤ length (with_element place u vs)
no-shorter place u [] = omega arith
no-shorter zero u (v ∷ vs) = omega arith
no-shorter (suc place) u (v ∷ vs) = omega (arith, no-shorter place u vs)

-- ---- two components that lead to the same place in arrays are equal

abbrev one : List Tree → List Field
one vs = ([], array (elements_of vs)) ∷ []

slot-one : (b : List ℕ) (vs : List Tree) → slot (one vs) ([] ∷ b ∷ []) ≡ element_slot (index_of b) vs
unfolding slot
slot-one b vs = ap (element_slot (index_of b)) (elements_again vs)

remove-one : (a : List ℕ) (vs : List Tree) → remove (one vs) ([] ∷ a ∷ []) ≡ one (remove_element (left_behind []) (index_of a) vs)
unfolding remove
remove-one a vs = ap (λ ws. one (remove_element (left_behind []) (index_of a) ws)) (elements_again vs)

abbrev full : ℕ → List Tree
full zero = boolean true ∷ []
full (suc k) = boolean true ∷ full k

full-at : (k : ℕ) → slice_get (full k) k ≡ Some (boolean true)
full-at zero = refl
full-at (suc k) = full-at k

null-at : (k : ℕ) → slice_get (changed_at k (λ v. unwrap_or (left_behind [] v) null) (full k)) k ≡ Some null
null-at zero = refl
null-at (suc k) = null-at k

module _ (slots : SlotsStay) where
  pub places-apart : (a b : List ℕ) (k : ℕ) → (a ≡ b → ⊥) → index_of a ≡ Some k → index_of b ≡ Some k → ⊥
  places-apart a b k ne ia ib =
      let stay : slot (remove (one (full k)) ([] ∷ a ∷ [])) ([] ∷ b ∷ []) ≡ slot (one (full k)) ([] ∷ b ∷ []) = slots (one (full k)) ([] ∷ a ∷ []) ([] ∷ b ∷ []) (inr (refl, inl ne)) in
      let before : slot (one (full k)) ([] ∷ b ∷ []) ≡ taken (boolean true) = slot-one b (full k) ∙ rw ib (ap slot_of (full-at k)) in
      let after : slot (remove (one (full k)) ([] ∷ a ∷ [])) ([] ∷ b ∷ []) ≡ taken null =
      ap (λ d. slot d ([] ∷ b ∷ [])) (remove-one a (full k)) ∙ slot-one b (remove_element (left_behind []) (index_of a) (full k)) ∙ rw (ia, ib) (ap slot_of (null-at k)) in
      let no : taken null ≡ taken (boolean true) = sym after ∙ stay ∙ before in
      cc

-- ---- what is put into an array

-- whether a value may be put at a place
abbrev pub may-stand : ℕ → List Tree → Bool
may-stand j vs = nat_lt j (length vs) || nat_le j 100000

pub element-made : (q : Path) (v : Tree) (place : Option ℕ) (vs us : List Tree) → put_element (put_behind q v) place vs ≡ Ok us → (j : ℕ) × (x : Tree) × (place ≡ Some j) × (put_behind q v (slice_get vs j) ≡ Ok x) × (with_element j x vs ≡ us) × (may-stand j vs ≡ true)
element-made q v None vs us e = absurd cc
element-made q v (Some j) vs us e = by (may-stand j vs) refl e
  where
    by : (may : Bool) → may-stand j vs ≡ may → (if may then result_map (λ x. with_element j x vs) (put_behind q v (slice_get vs j)) else Err IndexTooLarge) ≡ Ok us
        → (k : ℕ) × (x : Tree) × (Some j ≡ Some k) × (put_behind q v (slice_get vs k) ≡ Ok x) × (with_element k x vs ≡ us) × (may-stand k vs ≡ true)
    by true is f = let found = made-by (λ x. with_element j x vs) (put_behind q v (slice_get vs j)) us f in (j, found.0, refl, found.1, found.2, is)
    by false is f = absurd cc

-- ---- a value stays if another one is put that doesn't replace it

-- there is a value, and `Holds` is true of it
abbrev pub Stands : (Tree → Type 0) → Slot → Type 0
Stands Holds s = (v : Tree) × (s ≡ taken v) × Holds v

-- `Holds` is still true after a value is put further inside
abbrev Keeps : Tree → (Tree → Type 0) → Type 0
Keeps w Holds = (b : List ℕ) (q : Path) (t u : Tree) → Holds t → put_behind (b ∷ q) w (Some t) ≡ Ok u → Holds u

module _ (slots : SlotsStay) (w : Tree) (Holds : Tree → Type 0) (keeps : Keeps w Holds) where
  -- the value at the end of path a still has the property after a value is put at the end of path q
  abbrev Stays : Path → Path → Type 0
  Stays a q = (c : Option Tree) (u : Tree) → begins q a ≡ false → Stands Holds (slot_behind a (slot_of c)) → put_behind q w c ≡ Ok u → Stands Holds (slot_behind a (taken u))

  field-stays : (e b : List ℕ) (a q : Path) → Stays a q → (gs : List Field) (x : Tree) → begins (b ∷ q) (e ∷ a) ≡ false → Stands Holds (slot_behind a (slot_of (value_under e gs))) → put_behind q w (value_under b gs) ≡ Ok x
      → Stands Holds (slot_behind a (slot_of (value_under e (with_field b (Some x) gs))))
  field-stays e b a q stays gs x apart is put = by (bytes_eq b e) refl
    where
      by : (same : Bool) → bytes_eq b e ≡ same → Stands Holds (slot_behind a (slot_of (value_under e (with_field b (Some x) gs))))
      by true s =
          let one : b ≡ e = (bytes_eq-Decides b e).0 s in
          let below : begins q a ≡ false = ap (λ c. c && begins q a) (sym s) ∙ apart in
          let there : value_under e (with_field b (Some x) gs) ≡ Some x = ap (λ m. value_under m (with_field b (Some x) gs)) (sym one) ∙ field-at b x gs in
          rw there (stays (value_under b gs) x below (rw one is) put)
      by false s =
          let other : e ≡ b → ⊥ = λ same. let no : bytes_eq b e ≡ true = (bytes_eq-Decides b e).1 (sym same) in cc in
          rw (field-other b e (Some x) gs other) is

  element-stays : (e b : List ℕ) (a q : Path) → Stays a q → (ws : List Tree) (x : Tree) (j : ℕ) → begins (b ∷ q) (e ∷ a) ≡ false → index_of b ≡ Some j → Stands Holds (slot_behind a (element_slot (index_of e) ws)) → put_behind q w (slice_get ws j) ≡ Ok x
      → Stands Holds (slot_behind a (element_slot (index_of e) (with_element j x ws)))
  element-stays e b a q stays ws x j apart at is put = by (bytes_eq b e) refl (index_of e) refl is
    where
      there : (i : ℕ) (c : Option Tree) → (i ≡ j → ⊥) → slice_get ws i ≡ c → Stands Holds (slot_behind a (slot_of c)) → Stands Holds (slot_behind a (slot_of (slice_get (with_element j x ws) i)))
      there i None ne found h = absurd (free-stays a h.0 h.1)
      there i (Some v) ne found h = rw (element-other i j x ws v ne found) h

      by : (same : Bool) → bytes_eq b e ≡ same → (o : Option ℕ) → index_of e ≡ o → Stands Holds (slot_behind a (element_slot o ws)) → Stands Holds (slot_behind a (element_slot o (with_element j x ws)))
      by same s None ie h = absurd (blocked-stays a h.0 h.1)
      by true s (Some i) ie h =
          let one : b ≡ e = (bytes_eq-Decides b e).0 s in
          let below : begins q a ≡ false = ap (λ c. c && begins q a) (sym s) ∙ apart in
          let places : Some i ≡ Some j = sym ie ∙ ap index_of (sym one) ∙ at in
          let place : i ≡ j = cc in
          rw (place, element-at j x ws) (stays (slice_get ws j) x below (rw (sym place) h) put)
      by false s (Some i) ie h =
          let differ : b ≡ e → ⊥ = λ same. let no : bytes_eq b e ≡ true = (bytes_eq-Decides b e).1 same in cc in
          there i (slice_get ws i) (λ same. places-apart slots b e j differ at (ie ∙ ap Some same)) refl h

  value-stays : (a q : Path) → Stays a q
  value-stays a [] c u apart is put = absurd cc
  value-stays [] (b ∷ q) None u apart is put = absurd (free-stays [] is.0 is.1)
  value-stays [] (b ∷ q) (Some t) u apart is put = (u, refl, let same : is.0 ≡ t = (let e = is.1 in cc) in keeps b q t u (subst Holds same is.2) put)
  value-stays (e ∷ a) (b ∷ q) None u apart is put = absurd (free-stays a is.0 is.1)
  value-stays (e ∷ a) (b ∷ q) (Some (document fs)) u apart is put =
      let gs = list_of_fields fs in
      let outer = made-by (λ hs. document (fields_of hs)) (put_field (put_behind q w) b gs) u put in
      let inner = made-by (λ x. with_field b (Some x) gs) (put_behind q w (value_under b gs)) outer.0 outer.1 in
      let made = with_field b (Some inner.0) gs in
      rw (← outer.2, ← inner.2, fields_again made) (field-stays e b a q (value-stays a q) gs inner.0 apart is inner.1)
  value-stays (e ∷ a) (b ∷ q) (Some (array vs)) u apart is put =
      let ws = list_of_elements vs in
      let outer = made-by (λ xs. array (elements_of xs)) (put_element (put_behind q w) (index_of b) ws) u put in
      let inner = element-made q w (index_of b) ws outer.0 outer.1 in
      rw (← outer.2, ← inner.4, elements_again (with_element inner.0 inner.1 ws)) (element-stays e b a q (value-stays a q) ws inner.1 inner.0 apart inner.2 is inner.3)
  value-stays (e ∷ a) (b ∷ q) (Some v) u apart is put = absurd cc

  pub put-keeps : (d : List Field) (a q : Path) (after : List Field) → begins q a ≡ false → Stands Holds (slot d a) → put d q w ≡ Ok after → Stands Holds (slot after a)
  unfolding put slot
  put-keeps d a [] after apart is put = absurd cc
  put-keeps d [] (b ∷ q) after apart is put =
      let whole : Tree = document (fields_of d) in
      let same : is.0 ≡ whole = (let e = is.1 in cc) in
      let made : put_behind (b ∷ q) w (Some whole) ≡ Ok (document (fields_of after)) =
      ap (λ fs. result_map (λ gs. document (fields_of gs)) (put_field (put_behind q w) b fs)) (fields_again d) ∙ ap (result_map (λ gs. document (fields_of gs))) put in
      (document (fields_of after), refl, keeps b q whole (document (fields_of after)) (subst Holds same is.2) made)
  put-keeps d (e ∷ a) (b ∷ q) after apart is put =
      let inner = made-by (λ x. with_field b (Some x) d) (put_behind q w (value_under b d)) after put in
      rw (← inner.2, fields_again (with_field b (Some inner.0) d)) (field-stays e b a q (value-stays a q) d inner.0 apart (rw (← fields_again d) is) inner.1)

-- an array of at least this many elements
abbrev pub IsArray : Slot → ℕ → Type 0
IsArray s n = (vs : Elements) × (s ≡ taken (array vs)) × (n ≤ length (list_of_elements vs))

record IsLong (n : ℕ) (v : Tree) : Type 0 where
  elements : Elements
  is : v ≡ array elements
  long : n ≤ length (list_of_elements elements)

long-keeps : (w : Tree) (n : ℕ) → Keeps w (IsLong n)
long-keeps w n b q (array vs) u h put =
    let ws = list_of_elements vs in
    let outer = made-by (λ xs. array (elements_of xs)) (put_element (put_behind q w) (index_of b) ws) u put in
    let inner = element-made q w (index_of b) ws outer.0 outer.1 in
    let made = with_element inner.0 inner.1 ws in
    record {
      elements = elements_of made;
      is = sym outer.2 ∙ ap (λ xs. array (elements_of xs)) (sym inner.4);
      long = omega (arith, h.long, no-shorter inner.0 inner.1 ws, ap length (elements_again made), ap (λ xs. length (list_of_elements xs)) (let same : vs ≡ h.elements = (let e = h.is in cc) in same));
    }
long-keeps w n b q t u h put = absurd (let e = h.is in cc)

pub put-keeps-array : (slots : SlotsStay) (w : Tree) (d : List Field) (a q : Path) (n : ℕ) (after : List Field) → begins q a ≡ false → IsArray (slot d a) n → put d q w ≡ Ok after → IsArray (slot after a) n
put-keeps-array slots w d a q n after apart is put =
    let there : Stands (IsLong n) (slot d a) = (array is.0, is.1, record { elements = is.0; is = refl; long = is.2 }) in
    let kept = put-keeps slots w (IsLong n) (long-keeps w n) d a q after apart there put in
    (kept.2.elements, kept.1 ∙ ap taken kept.2.is, kept.2.long)

-- ---- a value in place of another one

exchanged : (p : Path) (v x t u : Tree) → slot_behind p (taken t) ≡ taken x → put_behind p v (Some t) ≡ Ok u → size u + size x ≡ size t + size v
exchanged [] v x t u there put =
    let old : t ≡ x = cc in
    let new : v ≡ u = cc in
    omega (arith, ap size old, ap size new)
exchanged (name ∷ names) v x (document fs) u there put =
    let gs = list_of_fields fs in
    let outer = made-by (λ hs. document (fields_of hs)) (put_field (put_behind names v) name gs) u put in
    let inner = made-by (λ y. with_field name (Some y) gs) (put_behind names v (value_under name gs)) outer.0 outer.1 in
    by (value_under name gs) refl there inner.1 (exchanged names v x) (ap size (sym outer.2) ∙ ap long (sym inner.2))
  where
    by : (c : Option Tree) → value_under name (list_of_fields fs) ≡ c → slot_behind names (slot_of c) ≡ taken x → {y : Tree} → put_behind names v c ≡ Ok y → ((t u : Tree) → slot_behind names (taken t) ≡ taken x → put_behind names v (Some t) ≡ Ok u → size u + size x ≡ size t + size v)
        → size u ≡ long (with_field name (Some y) (list_of_fields fs)) → size u + size x ≡ size (document fs) + size v
    by None is e made rest whole = absurd (free-stays names x e)
    by (Some w) is e {y} made rest whole = omega (arith, whole, rest w y e made, with-length name (Some y) (list_of_fields fs), ap (field-size name) is, ap (λ hs. length (payload (document hs))) (fields_back fs))
exchanged (name ∷ names) v x (array vs) u there put =
    let ws = list_of_elements vs in
    let outer = made-by (λ xs. array (elements_of xs)) (put_element (put_behind names v) (index_of name) ws) u put in
    let inner = element-made names v (index_of name) ws outer.0 outer.1 in
    let at : slot_behind names (slot_of (slice_get ws inner.0)) ≡ taken x = ap (λ o. slot_behind names (element_slot o ws)) (sym inner.2) ∙ there in
    by inner.0 inner.1 (slice_get ws inner.0) refl at inner.3 (exchanged names v x) (ap size (sym outer.2) ∙ ap (λ xs. size (array (elements_of xs))) (sym inner.4))
  where
    by : (j : ℕ) (y : Tree) (c : Option Tree) → slice_get (list_of_elements vs) j ≡ c → slot_behind names (slot_of c) ≡ taken x → put_behind names v c ≡ Ok y → ((t u : Tree) → slot_behind names (taken t) ≡ taken x → put_behind names v (Some t) ≡ Ok u → size u + size x ≡ size t + size v)
        → size u ≡ size (array (elements_of (with_element j y (list_of_elements vs)))) → size u + size x ≡ size (array vs) + size v
    by j y None is e made rest whole = absurd (free-stays names x e)
    by j y (Some w) is e made rest whole =
        omega (
          arith,
          whole,
          rest w y e made,
          element-length j 0 y (list_of_elements vs) w is,
          length-array (elements_of (with_element j y (list_of_elements vs))),
          length-array (elements_of (list_of_elements vs)),
          ap (λ us. size (array us)) (elements_back vs),
        )
exchanged (name ∷ names) v x t u there put = absurd cc

pub put-exchanges : (d : List Field) (name : List ℕ) (names : Path) (v x : Tree) (after : List Field) → slot d (name ∷ names) ≡ taken x → put d (name ∷ names) v ≡ Ok after → long after + size x ≡ long d + size v
unfolding put slot
put-exchanges d name names v x after there put =
    exchanged (name ∷ names) v x (document (fields_of d)) (document (fields_of after)) there (ap (λ fs. result_map (λ gs. document (fields_of gs)) (put_field (put_behind names v) name fs)) (fields_again d) ∙ ap (result_map (λ gs. document (fields_of gs))) put)
