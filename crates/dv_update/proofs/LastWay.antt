-- What is put at the end of a path of many components: documents nested one in another.
use Rattle.std.proofs.Common.{◌≡◌, ◌∙◌, ap, sym, refl, List, [], ◌∷◌, ◌++◌, ℕ, ◌+◌, ◌||◌, Bool, true, false, length, Option, Some, None, slice_get, nat_lt, nat_le, Ok, Err, arith, if◌then◌else◌}
use Rattle.std.specs.Cmp.{tied_itself}
use Rattle.std.specs.List.{AllByRecursion}
use Rattle.std.specs.Str.{bytes_eq}
use Rattle.std.specs.declared.cmp.Ordering.{Ordering}
use Rattle.std.specs.declared.cmp.Ordering.TheVariants.{Less, Equal, Greater}
use Rattle.std.proofs.lemmas.Slice.Eq.{bytes_eq-Decides}
use Rattle.dv_value.specs.Names.{value_under}
use Rattle.dv_value.specs.Spelling.{payload, fields_spelling, framed}
use Rattle.dv_value.specs.Tree.{Tree, document, array, Field, no_fields, fields_of, list_of_fields, elements_of, list_of_elements}
use Rattle.dv_value.specs.Inner.TreeLaws.{fields_again}
use Rattle.dv_candidates.specs.Path.{index_of}
use Rattle.dv_path.specs.Placing.{result_map, with_field, with_element, put_field, put_element, put_behind, put}
use Rattle.dv_candidates.specs.declared.fault.PathFault.TheVariants.{IndexTooLarge}
use Rattle.dv_path.specs.Slots.{taken, free, blocked, slot_of, element_slot, slot_behind, slot}
use Rattle.dv_update.specs.PathOrder.{component_order}
use Rattle.dv_update.specs.Inner.PathOrderLaws.{component_order_total}
use Rattle.dv_update.specs.Inner.StandIn.{names_length, IsLastWay, parted, parting}
use Rattle.dv_update.proofs.AlikeDown.{length-field}
use Rattle.dv_value.specs.Inner.Spelled.{length-document, length-no_fields}
use Rattle.dv_update.proofs.DownTo.{Path}
use Rattle.dv_update.proofs.Paths.{component-exact}

-- ---- fields whose names come before another

apart : (a b : List ℕ) → component_order a b ≡ Less → bytes_eq b a ≡ false
apart a b less = by (bytes_eq b a) refl
  where
    by : (c : Bool) → bytes_eq b a ≡ c → c ≡ false
    by true e =
        let same : b ≡ a = (bytes_eq-Decides b a).0 e in
        let tie : component_order a b ≡ Equal = ap (component_order a) same ∙ tied_itself component_order_total a in
        absurd cc
    by false e = refl

itself : (a : List ℕ) → bytes_eq a a ≡ true
itself a = (bytes_eq-Decides a a).1 refl

abbrev ComeBefore : List ℕ → List Field → Type 0
ComeBefore name fs = AllByRecursion (λ f. component_order f.0 name ≡ Less) fs

come-through : (a b : List ℕ) → component_order a b ≡ Less → (fs : List Field) → ComeBefore a fs → ComeBefore b fs
come-through a b less [] h = tt
come-through a b less (f ∷ fs) h = (component_order_total.trans f.0 a b h.0 less, come-through a b less fs h.1)

come-more : (b : List ℕ) (fs : List Field) (f : Field) → ComeBefore b fs → component_order f.0 b ≡ Less → ComeBefore b (fs ++ f ∷ [])
come-more b [] f h less = (less, tt)
come-more b (g ∷ fs) f h less = (h.0, come-more b fs f h.1 less)

value-last : (name : List ℕ) (v : Tree) (fs : List Field) → ComeBefore name fs → value_under name (fs ++ (name, v) ∷ []) ≡ Some v
value-last name v [] h = ap (λ b. if b then Some v else None) (itself name)
value-last name v (f ∷ fs) h = ap (λ b. if b then Some f.1 else value_under name (fs ++ (name, v) ∷ [])) (apart f.0 name h.0) ∙ value-last name v fs h.1

value-none : (name : List ℕ) (fs : List Field) → ComeBefore name fs → value_under name fs ≡ None
value-none name [] h = refl
value-none name (f ∷ fs) h = ap (λ b. if b then Some f.1 else value_under name fs) (apart f.0 name h.0) ∙ value-none name fs h.1

changed-last : (name : List ℕ) (v w : Tree) (fs : List Field) → ComeBefore name fs → with_field name (Some w) (fs ++ (name, v) ∷ []) ≡ fs ++ (name, w) ∷ []
changed-last name v w [] h = ap (λ b. if b then (name, w) ∷ [] else (name, v) ∷ (name, w) ∷ []) (itself name)
changed-last name v w (f ∷ fs) h =
    ap (λ b. if b then (f.0, w) ∷ fs ++ (name, v) ∷ [] else f ∷ with_field name (Some w) (fs ++ (name, v) ∷ [])) (apart f.0 name h.0)
    ∙ ap (λ gs. f ∷ gs) (changed-last name v w fs h.1)

new-last : (name : List ℕ) (w : Tree) (fs : List Field) → ComeBefore name fs → with_field name (Some w) fs ≡ fs ++ (name, w) ∷ []
new-last name w [] h = refl
new-last name w (f ∷ fs) h =
    ap (λ b. if b then (f.0, w) ∷ fs else f ∷ with_field name (Some w) fs) (apart f.0 name h.0) ∙ ap (λ gs. f ∷ gs) (new-last name w fs h.1)

-- ---- lengths

fields-length-last : (fs : List Field) (f : Field) → length (fields_spelling (fields_of (fs ++ f ∷ []))) ≡ length (fields_spelling (fields_of fs)) + length f.0 + length (payload f.1) + 2
fields-length-last [] f = omega (arith, length-field f.0 f.1 no_fields, length-no_fields)
fields-length-last (g ∷ fs) f = omega (arith, length-field g.0 g.1 (fields_of (fs ++ f ∷ [])), length-field g.0 g.1 (fields_of fs), fields-length-last fs f)

document-length-last : (fs : List Field) (f : Field) → length (payload (document (fields_of (fs ++ f ∷ [])))) ≡ length (payload (document (fields_of fs))) + length f.0 + length (payload f.1) + 2
document-length-last fs f = omega (arith, length-document (fields_of (fs ++ f ∷ [])), length-document (fields_of fs), fields-length-last fs f)

nothing-length : length (payload (document (fields_of []))) ≡ 5
unfolding payload framed
nothing-length = refl

-- ---- where there is no value

pub record IsMade (names : Path) (v : Tree) : Type 0 where
  pub made : Tree
  pub put : put_behind names v None ≡ Ok made
  pub way : IsLastWay names made
  pub size : length (payload made) ≡ names_length names + length (payload v)

pub free-stays : (names : Path) → slot_behind names free ≡ free
free-stays [] = refl
free-stays (name ∷ names) = free-stays names

pub blocked-stays : (names : Path) → slot_behind names blocked ≡ blocked
blocked-stays [] = refl
blocked-stays (name ∷ names) = blocked-stays names

pub first_made : (names : Path) (v : Tree) → IsMade names v
first_made [] v = record { made = v; put = refl; way = tt; size = omega arith }
first_made (name ∷ names) v =
    let inner = first_made names v in
    record {
      made = document (fields_of ((name, inner.made) ∷ []));
      put = ap (λ r. result_map (λ fs. document (fields_of fs)) (result_map (λ u. (name, u) ∷ []) r)) inner.put;
      way = ([], inner.made, refl, tt, inner.way);
      size = omega (arith, document-length-last [] (name, inner.made), nothing-length, inner.size);
    }

-- ---- after another path

pub record IsAdded (q : Path) (v t : Tree) (rest : Path) : Type 0 where
  pub made : Tree
  pub put : put_behind q v (Some t) ≡ Ok made
  pub way : IsLastWay q made
  pub size : length (payload made) + 5 ≡ length (payload t) + names_length rest + length (payload v)
  pub free : slot_behind q (taken t) ≡ free

module _ (v : Tree) where
  put-under : (name : List ℕ) (q : Path) (fs gs : List Field) (t : Tree) → put_field (put_behind q v) name fs ≡ Ok gs → put_behind (name ∷ q) v (Some (document (fields_of fs))) ≡ Ok (document (fields_of gs))
  put-under name q fs gs t e = ap (λ hs. result_map (λ hs. document (fields_of hs)) (put_field (put_behind q v) name hs)) (fields_again fs) ∙ ap (result_map (λ hs. document (fields_of hs))) e

  under-slot : (name : List ℕ) (q : Path) (fs : List Field) (c : Option Tree) → value_under name fs ≡ c → slot_behind (name ∷ q) (taken (document (fields_of fs))) ≡ slot_behind q (slot_of c)
  under-slot name q fs c e = ap (λ gs. slot_behind q (slot_of (value_under name gs))) (fields_again fs) ∙ ap (λ c. slot_behind q (slot_of c)) e

  beside : (a b : List ℕ) (q : Path) (fs : List Field) (u : Tree) → ComeBefore a fs → component_order a b ≡ Less → IsAdded (b ∷ q) v (document (fields_of (fs ++ (a, u) ∷ []))) (b ∷ q)
  beside a b q fs u before less =
      let all = fs ++ (a, u) ∷ [] in
      let come : ComeBefore b all = come-more b fs (a, u) (come-through a b less fs before) less in
      let inner = first_made q v in
      let none : value_under b all ≡ None = value-none b all come in
      let is : put_field (put_behind q v) b all ≡ Ok (all ++ (b, inner.made) ∷ []) =
      ap (λ c. result_map (λ w. with_field b (Some w) all) (put_behind q v c)) none ∙ ap (result_map (λ w. with_field b (Some w) all)) inner.put ∙ ap Ok (new-last b inner.made all come) in
      record {
        made = document (fields_of (all ++ (b, inner.made) ∷ []));
        put = put-under b q all (all ++ (b, inner.made) ∷ []) u is;
        way = (all, inner.made, refl, come, inner.way);
        size = omega (arith, document-length-last all (b, inner.made), inner.size);
        free = under-slot b q all None none ∙ free-stays q;
      }

  inside : (a : List ℕ) (q : Path) (fs : List Field) (u : Tree) (rest : Path) → ComeBefore a fs → IsAdded q v u rest → IsAdded (a ∷ q) v (document (fields_of (fs ++ (a, u) ∷ []))) rest
  inside a q fs u rest before inner =
      let all = fs ++ (a, u) ∷ [] in
      let here : value_under a all ≡ Some u = value-last a u fs before in
      let is : put_field (put_behind q v) a all ≡ Ok (fs ++ (a, inner.made) ∷ []) =
      ap (λ c. result_map (λ w. with_field a (Some w) all) (put_behind q v c)) here ∙ ap (result_map (λ w. with_field a (Some w) all)) inner.put ∙ ap Ok (changed-last a u inner.made fs before) in
      record {
        made = document (fields_of (fs ++ (a, inner.made) ∷ []));
        put = put-under a q all (fs ++ (a, inner.made) ∷ []) u is;
        way = (fs, inner.made, refl, before, inner.way);
        size = omega (arith, document-length-last fs (a, inner.made), document-length-last fs (a, u), inner.size);
        free = under-slot a q all (Some u) here ∙ inner.free;
      }

  pub added : (p q : Path) (t : Tree) (rest : Path) → IsLastWay p t → parting p q ≡ Some rest → IsAdded q v t rest
  added [] q t rest way e = absurd cc
  added (a ∷ p) [] t rest way e = absurd cc
  added (a ∷ p) (b ∷ q) t rest way e = by (component_order a b) refl e (added p q way.1 rest way.4)
    where
      by : (o : Ordering) → component_order a b ≡ o → parted o (b ∷ q) (parting p q) ≡ Some rest → (parting p q ≡ Some rest → IsAdded q v way.1 rest) → IsAdded (b ∷ q) v t rest
      by Less o is further =
          let same : b ∷ q ≡ rest = cc in
          rw way.2 (rw (← same) (beside a b q way.0 way.1 way.3 o))
      by Equal o is further =
          let same : a ≡ b = component-exact a b o in
          rw way.2 (rw (← same) (inside a q way.0 way.1 rest way.3 (further is)))
      by Greater o is further = absurd cc

-- ---- put along a path that continues a beginning

module _ (r : Path) (v t : Tree) (d : Option Tree) (made : put_behind r v d ≡ Ok t) where
  same-there : (c : Option Tree) → slot_of c ≡ slot_of d → c ≡ d
  same-there = from d
    where
      from : (d c : Option Tree) → slot_of c ≡ slot_of d → c ≡ d
      from None None e = refl
      from None (Some w) e = absurd cc
      from (Some w) None e = absurd cc
      from (Some w) (Some u) e = let same : u ≡ w = cc in ap Some same

  not-blocked : (s : Path) → slot_behind s blocked ≡ slot_of d → ⊥
  not-blocked s e = from d (sym (blocked-stays s) ∙ e)
    where
      from : (d : Option Tree) → blocked ≡ slot_of d → ⊥
      from None e = absurd cc
      from (Some w) e = absurd cc

  pub put-through : (s : Path) (c : Option Tree) → slot_behind s (slot_of c) ≡ slot_of d → put_behind (s ++ r) v c ≡ put_behind s t c
  put-through [] c e = ap (put_behind r v) (same-there c e) ∙ made
  put-through (name ∷ s) None e = ap (λ x. result_map (λ fs. document (fields_of fs)) (result_map (λ w. with_field name (Some w) []) x)) (put-through s None e)
  put-through (name ∷ s) (Some (document fs)) e =
      ap (λ x. result_map (λ gs. document (fields_of gs)) (result_map (λ w. with_field name (Some w) (list_of_fields fs)) x)) (put-through s (value_under name (list_of_fields fs)) e)
  put-through (name ∷ s) (Some (array vs)) e = by (index_of name) (put-through s) e
    where
      by : (place : Option ℕ) → ((c : Option Tree) → slot_behind s (slot_of c) ≡ slot_of d → put_behind (s ++ r) v c ≡ put_behind s t c) → slot_behind s (element_slot place (list_of_elements vs)) ≡ slot_of d
          → result_map (λ ws. array (elements_of ws)) (put_element (put_behind (s ++ r) v) place (list_of_elements vs)) ≡ result_map (λ ws. array (elements_of ws)) (put_element (put_behind s t) place (list_of_elements vs))
      by None further e = absurd (not-blocked s e)
      by (Some place) further e =
          ap (λ x. result_map (λ ws. array (elements_of ws)) (if nat_lt place (length (list_of_elements vs)) || nat_le place 100000 then result_map (λ w. with_element place w (list_of_elements vs)) x else Err IndexTooLarge)) (further (slice_get (list_of_elements vs) place) e)
  put-through (name ∷ s) (Some w) e = absurd (not-blocked s e)

  pub put-far : (fields : List Field) (name : List ℕ) (s : Path) → slot fields (name ∷ s) ≡ slot_of d → put fields (name ∷ (s ++ r)) v ≡ put fields (name ∷ s) t
  unfolding put slot
  put-far fields name s e =
      let here : slot_behind s (slot_of (value_under name fields)) ≡ slot_of d = ap (λ gs. slot_behind s (slot_of (value_under name gs))) (sym (fields_again fields)) ∙ e in
      ap (result_map (λ w. with_field name (Some w) fields)) (put-through s (value_under name fields) here)
