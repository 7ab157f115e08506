-- What one of two paths that part leads to is the same without what the other leads to.
use Rattle.std.proofs.Common.{◌≡◌, ◌≢◌, ◌∙◌, ap, sym, refl, ℕ, zero, suc, ◌||◌, nat_lt, nat_le, Bool, true, false, List, [], ◌∷◌, ◌++◌, length, Option, Some, None, slice_get, Result, Ok, Err, ◌⊎◌, inl, inr, if◌then◌else◌, option_and_then}
use Rattle.std.specs.Option.{unwrap_or, option_map}
use Rattle.std.specs.Str.{bytes_eq}
use Rattle.std.proofs.lemmas.Slice.Eq.{bytes_eq-Decides}
use Rattle.dv_value.specs.Tree.{Tree, document, array, null, Field, fields_of, list_of_fields, elements_of, list_of_elements}
use Rattle.dv_value.specs.Names.{value_under}
use Rattle.dv_value.specs.Inner.TreeLaws.{fields_again, elements_again}
use Rattle.dv_candidates.specs.declared.fault.PathFault.{PathFault}
use Rattle.dv_candidates.specs.declared.fault.PathFault.TheVariants.{IndexTooLarge}
use Rattle.dv_path.specs.Apart.{AreApart}
use Rattle.dv_candidates.specs.Candidates.{Candidate}
use Rattle.dv_candidates.specs.Path.{index_of}
use Rattle.dv_path.specs.Placing.{result_map, field_with, with_field, with_element, put_field, put_element, put_behind, put}
use Rattle.dv_path.specs.Removing.{changed_at, remove_field, remove_element, left_behind, remove}
use Rattle.dv_path.specs.Slots.{slot_of, element_slot, slot_behind, slot}
use Rattle.dv_path.specs.Inner.Fielded.{field-at, field-other, field-missing, differ}
use Rattle.dv_path.proofs.Indexed.{same-place}
use Rattle.dv_path.specs.Inner.ResultLaws.{map-both}

-- ---- results

map-none : {X : Type 0} (r : Result X PathFault) → result_map (λ x. x) r ≡ r
map-none (Ok x) = refl
map-none (Err e) = refl

map-one : {X Y Z : Type 0} (f : X → Z) (h : Y → Z) (k : X → Y) → ((x : X) → f x ≡ h (k x)) → (r : Result X PathFault) → result_map f r ≡ result_map h (result_map k r)
map-one f h k same (Ok x) = ap Ok (same x)
map-one f h k same (Err e) = refl

-- ---- what is left if a path leads further

-- a value without what a path leads to in it, and null if the value itself is removed
abbrev pub left_of : List (List ℕ) → Tree → Tree
left_of names v = unwrap_or (left_behind names v) null

pub stays : (name : List ℕ) (names : List (List ℕ)) (v : Tree) → left_behind (name ∷ names) v ≡ Some (left_of (name ∷ names) v)
stays name names (document fs) = refl
stays name names (array vs) = refl
stays name names v = refl

further : (p q : List (List ℕ)) → AreApart p q → (v : Tree) → left_behind p v ≡ Some (left_of p v)
further [] q h v = absurd h
further (a ∷ p) q h v = stays a p v

left-map : (p q : List (List ℕ)) → AreApart p q → (c : Candidate) → option_map (left_of p) c ≡ option_and_then (left_behind p) c
left-map p q h None = refl
left-map p q h (Some v) = sym (further p q h v)

-- ---- fields

twice-case : (here : Bool) (name : List ℕ) (u v : Tree) (f : Field) (fs : List Field) → bytes_eq name f.0 ≡ here → with_field name (Some v) (with_field name (Some u) fs) ≡ with_field name (Some v) fs → with_field name (Some v) (if here then field_with f.0 (Some u) ++ fs else f ∷ with_field name (Some u) fs) ≡ (if here then field_with f.0 (Some v) ++ fs else f ∷ with_field name (Some v) fs)
twice-case true name u v f fs is later = rw is refl
twice-case false name u v f fs is later = rw is (ap (λ gs. f ∷ gs) later)

-- one value put under a name after another
pub field-twice : (name : List ℕ) (u v : Tree) (fs : List Field) → with_field name (Some v) (with_field name (Some u) fs) ≡ with_field name (Some v) fs
field-twice name u v [] = rw ((bytes_eq-Decides name name).1 refl) refl
field-twice name u v (f ∷ fs) = twice-case (bytes_eq name f.0) name u v f fs refl (field-twice name u v fs)

-- one field changed before another one, of which no new one comes
trade : (mine his : Bool) (a b : List ℕ) (c : Candidate) (u : Tree) (f : Field) (fs : List Field) → bytes_eq a f.0 ≡ mine → bytes_eq b f.0 ≡ his → (a ≡ b → ⊥)
    → ((value_under a fs ≡ None → c ≡ None) → with_field b (Some u) (with_field a c fs) ≡ with_field a c (with_field b (Some u) fs))
    → ((if mine then Some f.1 else value_under a fs) ≡ None → c ≡ None)
    → with_field b (Some u) (if mine then field_with f.0 c ++ fs else f ∷ with_field a c fs) ≡ with_field a c (if his then field_with f.0 (Some u) ++ fs else f ∷ with_field b (Some u) fs)
trade true true a b c u f fs ma hb ne later none = absurd (ne ((bytes_eq-Decides a f.0).0 ma ∙ sym ((bytes_eq-Decides b f.0).0 hb)))
trade true false a b None u f fs ma hb ne later none = rw ma refl
trade true false a b (Some v) u f fs ma hb ne later none = rw (ma, hb) refl
trade false true a b c u f fs ma hb ne later none = rw (ma, hb) refl
trade false false a b c u f fs ma hb ne later none = rw (ma, hb) (ap (λ gs. f ∷ gs) (later none))

fields-trade : (a b : List ℕ) (c : Candidate) (u : Tree) (fs : List Field) → (a ≡ b → ⊥) → (value_under a fs ≡ None → c ≡ None) → with_field b (Some u) (with_field a c fs) ≡ with_field a c (with_field b (Some u) fs)
fields-trade a b c u [] ne none =
    let is : c ≡ None = none refl in
    rw is (rw (differ a b ne) refl)
fields-trade a b c u (f ∷ fs) ne none = trade (bytes_eq a f.0) (bytes_eq b f.0) a b c u f fs refl refl ne (λ no. fields-trade a b c u fs ne no) none

module _ (left : Tree → Candidate) (kept : Tree → Tree) (total : (v : Tree) → left v ≡ Some (kept v)) (a : List ℕ) where
  none-left : (c : Candidate) → option_and_then left c ≡ None → c ≡ None
  none-left None h = refl
  none-left (Some v) h = let no : Some (kept v) ≡ None = sym (total v) ∙ h in cc

  left-there : (fs : List Field) (c : Candidate) → value_under a fs ≡ c → value_under a (with_field a (option_and_then left c) fs) ≡ option_and_then left c
  left-there fs None at = ap (value_under a) (field-missing a fs at) ∙ at
  left-there fs (Some v) at = ap (λ d. value_under a (with_field a d fs)) (total v) ∙ field-at a (kept v) fs ∙ sym (total v)

  -- what is left is under the same name
  pub field-left : (fs : List Field) → value_under a (remove_field left a fs) ≡ option_and_then left (value_under a fs)
  field-left fs = left-there fs (value_under a fs) refl

  over-left : (u : Tree) (fs : List Field) (c : Candidate) → value_under a fs ≡ c → with_field a (Some u) (with_field a (option_and_then left c) fs) ≡ with_field a (Some u) fs
  over-left u fs None at = ap (with_field a (Some u)) (field-missing a fs at)
  over-left u fs (Some v) at = ap (λ d. with_field a (Some u) (with_field a d fs)) (total v) ∙ field-twice a (kept v) u fs

  -- what is left of the value that is put is the same where something is taken out first
  pub field-put-left : (u : Tree) (fs : List Field) → with_field a (Some (kept u)) (remove_field left a fs) ≡ remove_field left a (with_field a (Some u) fs)
  field-put-left u fs =
      over-left (kept u) fs (value_under a fs) refl
      ∙ sym (field-twice a u (kept u) fs)
      ∙ ap (λ d. with_field a d (with_field a (Some u) fs)) (sym (total u))
      ∙ ap (λ d. with_field a (option_and_then left d) (with_field a (Some u) fs)) (sym (field-at a u fs))

-- what is left of a field, and another one that is put
pub fields-apart : (left : Tree → Candidate) (a b : List ℕ) (u : Tree) (fs : List Field) → (a ≡ b → ⊥) → with_field b (Some u) (remove_field left a fs) ≡ remove_field left a (with_field b (Some u) fs)
fields-apart left a b u fs ne =
    fields-trade a b (option_and_then left (value_under a fs)) u fs ne (λ none. ap (option_and_then left) none)
    ∙ ap (λ d. with_field a (option_and_then left d) (with_field b (Some u) fs)) (sym (field-other b a (Some u) fs ne))

-- ---- elements

changed-other : (i j : ℕ) (f : Tree → Tree) (vs : List Tree) → (i ≡ j → ⊥) → slice_get (changed_at i f vs) j ≡ slice_get vs j
changed-other i j f [] ne = refl
changed-other zero zero f (v ∷ vs) ne = absurd (ne refl)
changed-other zero (suc j) f (v ∷ vs) ne = refl
changed-other (suc i) zero f (v ∷ vs) ne = refl
changed-other (suc i) (suc j) f (v ∷ vs) ne = changed-other i j f vs (λ e. ne (ap suc e))

changed-here : (i : ℕ) (f : Tree → Tree) (vs : List Tree) → slice_get (changed_at i f vs) i ≡ option_map f (slice_get vs i)
changed-here i f [] = refl
changed-here zero f (v ∷ vs) = refl
changed-here (suc i) f (v ∷ vs) = changed-here i f vs

changed-length : (i : ℕ) (f : Tree → Tree) (vs : List Tree) → length (changed_at i f vs) ≡ length vs
changed-length i f [] = refl
changed-length zero f (v ∷ vs) = refl
changed-length (suc i) f (v ∷ vs) = ap suc (changed-length i f vs)

elements-apart : (i j : ℕ) (f : Tree → Tree) (u : Tree) (vs : List Tree) → f null ≡ null → (i ≡ j → ⊥) → with_element j u (changed_at i f vs) ≡ changed_at i f (with_element j u vs)
elements-apart zero zero f u vs same ne = absurd (ne refl)
elements-apart zero (suc j) f u [] same ne = ap (λ w. w ∷ with_element j u []) (sym same)
elements-apart (suc i) zero f u [] same ne = refl
elements-apart (suc i) (suc j) f u [] same ne = ap (λ ws. null ∷ ws) (elements-apart i j f u [] same (λ e. ne (ap suc e)))
elements-apart zero (suc j) f u (v ∷ vs) same ne = refl
elements-apart (suc i) zero f u (v ∷ vs) same ne = refl
elements-apart (suc i) (suc j) f u (v ∷ vs) same ne = ap (λ ws. v ∷ ws) (elements-apart i j f u vs same (λ e. ne (ap suc e)))

element-again : (i : ℕ) (f : Tree → Tree) (u : Tree) (vs : List Tree) → with_element i (f u) (changed_at i f vs) ≡ changed_at i f (with_element i u vs)
element-again zero f u [] = refl
element-again (suc i) f u [] = ap (λ ws. null ∷ ws) (element-again i f u [])
element-again zero f u (v ∷ vs) = refl
element-again (suc i) f u (v ∷ vs) = ap (λ ws. v ∷ ws) (element-again i f u vs)

null-stays : (p : List (List ℕ)) → left_of p null ≡ null
null-stays [] = refl
null-stays (a ∷ p) = refl

-- ---- slots

module _ (p q : List (List ℕ)) (a b : List ℕ) (h : (a ≢ b) ⊎ ((a ≡ b) × AreApart p q)) (rest : AreApart p q → (c : Candidate) → slot_behind q (slot_of (option_and_then (left_behind p) c)) ≡ slot_behind q (slot_of c)) where
  same-field : (fs : List Field) → slot_behind q (slot_of (value_under b (remove_field (left_behind p) a fs))) ≡ slot_behind q (slot_of (value_under b fs))
  same-field fs = elim h [
    | inl ne ↦ ap (λ c. slot_behind q (slot_of c)) (field-other a b (option_and_then (left_behind p) (value_under a fs)) fs (λ e. ne (sym e)))
    | inr same ↦
        ap (λ n. slot_behind q (slot_of (value_under n (remove_field (left_behind p) a fs)))) (sym same.0)
        ∙ ap (λ c. slot_behind q (slot_of c)) (field-left (left_behind p) (left_of p) (further p q same.1) a fs)
        ∙ rest same.1 (value_under a fs)
        ∙ ap (λ n. slot_behind q (slot_of (value_under n fs))) same.0
  ]

  same-index : (i j : Option ℕ) → index_of a ≡ i → index_of b ≡ j → (vs : List Tree) → slot_behind q (element_slot j (remove_element (left_behind p) i vs)) ≡ slot_behind q (element_slot j vs)
  same-index None j ia ib vs = refl
  same-index (Some i) None ia ib vs = refl
  same-index (Some i) (Some j) ia ib vs = elim h [
    | inl ne ↦ ap (λ c. slot_behind q (slot_of c)) (changed-other i j (left_of p) vs (λ e. ne (same-place a b i ia (ib ∙ ap Some (sym e)))))
    | inr same ↦
        (let one : Some j ≡ Some i = sym ib ∙ ap index_of (sym same.0) ∙ ia in
        let k : j ≡ i = cc in
        ap (λ n. slot_behind q (slot_of (slice_get (changed_at i (left_of p) vs) n))) k
        ∙ ap (λ c. slot_behind q (slot_of c)) (changed-here i (left_of p) vs ∙ left-map p q same.1 (slice_get vs i))
        ∙ rest same.1 (slice_get vs i)
        ∙ ap (λ n. slot_behind q (slot_of (slice_get vs n))) (sym k))
  ]

pub slot-behind-left : (p q : List (List ℕ)) → AreApart p q → (c : Candidate) → slot_behind q (slot_of (option_and_then (left_behind p) c)) ≡ slot_behind q (slot_of c)
slot-behind-left [] q h c = absurd h
slot-behind-left (a ∷ p) [] h c = absurd h
slot-behind-left (a ∷ p) (b ∷ q) h None = refl
slot-behind-left (a ∷ p) (b ∷ q) h (Some (document fs)) =
    ap (λ gs. slot_behind q (slot_of (value_under b gs))) (fields_again (remove_field (left_behind p) a (list_of_fields fs)))
    ∙ same-field p q a b h (slot-behind-left p q) (list_of_fields fs)
slot-behind-left (a ∷ p) (b ∷ q) h (Some (array vs)) =
    ap (λ ws. slot_behind q (element_slot (index_of b) ws)) (elements_again (remove_element (left_behind p) (index_of a) (list_of_elements vs)))
    ∙ same-index p q a b h (slot-behind-left p q) (index_of a) (index_of b) refl refl (list_of_elements vs)
slot-behind-left (a ∷ p) (b ∷ q) h (Some v) = refl

pub slot_apart : (fields : List Field) (p q : List (List ℕ)) → AreApart p q → slot (remove fields p) q ≡ slot fields q
unfolding remove slot
slot_apart fields [] q h = absurd h
slot_apart fields (a ∷ p) [] h = absurd h
slot_apart fields (a ∷ p) (b ∷ q) h =
    ap (λ gs. slot_behind q (slot_of (value_under b gs))) (fields_again (remove_field (left_behind p) a fields))
    ∙ same-field p q a b h (slot-behind-left p q) fields
    ∙ ap (λ gs. slot_behind q (slot_of (value_under b gs))) (sym (fields_again fields))

-- ---- values that are put

module _ (p q : List (List ℕ)) (a b : List ℕ) (v : Tree) (h : (a ≢ b) ⊎ ((a ≡ b) × AreApart p q)) (rest : AreApart p q → (c : Candidate) → put_behind q v (option_and_then (left_behind p) c) ≡ result_map (left_of p) (put_behind q v c)) where
  field-put : (fs : List Field) → put_field (put_behind q v) b (remove_field (left_behind p) a fs) ≡ result_map (remove_field (left_behind p) a) (put_field (put_behind q v) b fs)
  field-put fs = elim h [
    | inl ne ↦
        ap (λ c. result_map (λ u. with_field b (Some u) (remove_field (left_behind p) a fs)) (put_behind q v c)) (field-other a b (option_and_then (left_behind p) (value_under a fs)) fs (λ e. ne (sym e)))
        ∙ map-one (λ u. with_field b (Some u) (remove_field (left_behind p) a fs)) (remove_field (left_behind p) a) (λ u. with_field b (Some u) fs) (λ u. fields-apart (left_behind p) a b u fs ne) (put_behind q v (value_under b fs))
    | inr same ↦
        (let total = further p q same.1 in
        ap (λ n. put_field (put_behind q v) n (remove_field (left_behind p) a fs)) (sym same.0)
        ∙ ap (λ c. result_map (λ u. with_field a (Some u) (remove_field (left_behind p) a fs)) (put_behind q v c)) (field-left (left_behind p) (left_of p) total a fs)
        ∙ ap (result_map (λ u. with_field a (Some u) (remove_field (left_behind p) a fs))) (rest same.1 (value_under a fs))
        ∙ map-both (λ u. with_field a (Some u) (remove_field (left_behind p) a fs)) (left_of p) (remove_field (left_behind p) a) (λ u. with_field a (Some u) fs) (λ u. field-put-left (left_behind p) (left_of p) total a u fs) (put_behind q v (value_under a fs))
        ∙ ap (λ n. result_map (remove_field (left_behind p) a) (put_field (put_behind q v) n fs)) same.0)
  ]

  element-by : (fits : Bool) (i j : ℕ) → index_of a ≡ Some i → index_of b ≡ Some j → (vs : List Tree)
      → (if fits then result_map (λ u. with_element j u (changed_at i (left_of p) vs)) (put_behind q v (slice_get (changed_at i (left_of p) vs) j)) else Err IndexTooLarge) ≡ result_map (changed_at i (left_of p)) (if fits then result_map (λ u. with_element j u vs) (put_behind q v (slice_get vs j)) else Err IndexTooLarge)
  element-by false i j ia ib vs = refl
  element-by true i j ia ib vs = elim h [
    | inl ne ↦
        (let other : i ≡ j → ⊥ = λ e. ne (same-place a b i ia (ib ∙ ap Some (sym e))) in
        ap (λ c. result_map (λ u. with_element j u (changed_at i (left_of p) vs)) (put_behind q v c)) (changed-other i j (left_of p) vs other)
        ∙ map-one (λ u. with_element j u (changed_at i (left_of p) vs)) (changed_at i (left_of p)) (λ u. with_element j u vs) (λ u. elements-apart i j (left_of p) u vs (null-stays p) other) (put_behind q v (slice_get vs j)))
    | inr same ↦
        (let one : Some j ≡ Some i = sym ib ∙ ap index_of (sym same.0) ∙ ia in
        let k : j ≡ i = cc in
        ap (λ n. result_map (λ u. with_element n u (changed_at i (left_of p) vs)) (put_behind q v (slice_get (changed_at i (left_of p) vs) n))) k
        ∙ ap (λ c. result_map (λ u. with_element i u (changed_at i (left_of p) vs)) (put_behind q v c)) (changed-here i (left_of p) vs ∙ left-map p q same.1 (slice_get vs i))
        ∙ ap (result_map (λ u. with_element i u (changed_at i (left_of p) vs))) (rest same.1 (slice_get vs i))
        ∙ map-both (λ u. with_element i u (changed_at i (left_of p) vs)) (left_of p) (changed_at i (left_of p)) (λ u. with_element i u vs) (λ u. element-again i (left_of p) u vs) (put_behind q v (slice_get vs i))
        ∙ ap (λ n. result_map (changed_at i (left_of p)) (result_map (λ u. with_element n u vs) (put_behind q v (slice_get vs n)))) (sym k))
  ]

  element-put : (i j : Option ℕ) → index_of a ≡ i → index_of b ≡ j → (vs : List Tree) → put_element (put_behind q v) j (remove_element (left_behind p) i vs) ≡ result_map (remove_element (left_behind p) i) (put_element (put_behind q v) j vs)
  element-put None j ia ib vs = sym (map-none (put_element (put_behind q v) j vs))
  element-put (Some i) None ia ib vs = refl
  element-put (Some i) (Some j) ia ib vs =
      ap (λ n. if nat_lt j n || nat_le j 100000 then result_map (λ u. with_element j u (changed_at i (left_of p) vs)) (put_behind q v (slice_get (changed_at i (left_of p) vs) j)) else Err IndexTooLarge) (changed-length i (left_of p) vs)
      ∙ element-by (nat_lt j (length vs) || nat_le j 100000) i j ia ib vs

in-document : (p : List (List ℕ)) (a : List ℕ) (r : Result (List Field) PathFault) → result_map (λ fs. document (fields_of fs)) (result_map (remove_field (left_behind p) a) r) ≡ result_map (left_of (a ∷ p)) (result_map (λ fs. document (fields_of fs)) r)
in-document p a r = map-both (λ fs. document (fields_of fs)) (remove_field (left_behind p) a) (left_of (a ∷ p)) (λ fs. document (fields_of fs)) (λ fs. ap (λ gs. document (fields_of (remove_field (left_behind p) a gs))) (sym (fields_again fs))) r

in-array : (p : List (List ℕ)) (a : List ℕ) (r : Result (List Tree) PathFault) → result_map (λ vs. array (elements_of vs)) (result_map (remove_element (left_behind p) (index_of a)) r) ≡ result_map (left_of (a ∷ p)) (result_map (λ vs. array (elements_of vs)) r)
in-array p a r = map-both (λ vs. array (elements_of vs)) (remove_element (left_behind p) (index_of a)) (left_of (a ∷ p)) (λ vs. array (elements_of vs)) (λ vs. ap (λ ws. array (elements_of (remove_element (left_behind p) (index_of a) ws))) (sym (elements_again vs))) r

pub put-behind-left : (p q : List (List ℕ)) (v : Tree) → AreApart p q → (c : Candidate) → put_behind q v (option_and_then (left_behind p) c) ≡ result_map (left_of p) (put_behind q v c)
put-behind-left [] q v h c = absurd h
put-behind-left (a ∷ p) [] v h c = absurd h
put-behind-left (a ∷ p) (b ∷ q) v h None =
    ap (result_map (λ fs. document (fields_of fs))) (field-put p q a b v h (put-behind-left p q v) [])
    ∙ in-document p a (put_field (put_behind q v) b [])
put-behind-left (a ∷ p) (b ∷ q) v h (Some (document fs)) =
    ap (λ gs. result_map (λ fs. document (fields_of fs)) (put_field (put_behind q v) b gs)) (fields_again (remove_field (left_behind p) a (list_of_fields fs)))
    ∙ ap (result_map (λ fs. document (fields_of fs))) (field-put p q a b v h (put-behind-left p q v) (list_of_fields fs))
    ∙ in-document p a (put_field (put_behind q v) b (list_of_fields fs))
put-behind-left (a ∷ p) (b ∷ q) v h (Some (array vs)) =
    ap (λ ws. result_map (λ vs. array (elements_of vs)) (put_element (put_behind q v) (index_of b) ws)) (elements_again (remove_element (left_behind p) (index_of a) (list_of_elements vs)))
    ∙ ap (result_map (λ vs. array (elements_of vs))) (element-put p q a b v h (put-behind-left p q v) (index_of a) (index_of b) refl refl (list_of_elements vs))
    ∙ in-array p a (put_element (put_behind q v) (index_of b) (list_of_elements vs))
put-behind-left (a ∷ p) (b ∷ q) v h (Some w) = refl

pub put_apart : (fields : List Field) (p q : List (List ℕ)) (v : Tree) → AreApart p q → put (remove fields p) q v ≡ result_map (λ after. remove after p) (put fields q v)
unfolding remove put
put_apart fields [] q v h = absurd h
put_apart fields (a ∷ p) [] v h = absurd h
put_apart fields (a ∷ p) (b ∷ q) v h = field-put p q a b v h (put-behind-left p q v) fields
