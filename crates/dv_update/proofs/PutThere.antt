-- To put what is there changes nothing.
use Rattle.std.proofs.Common.{◌≡◌, ◌∙◌, ap, sym, refl, List, [], ◌∷◌, ℕ, zero, suc, ◌||◌, Bool, true, length, Option, Some, None, slice_get, nat_lt, nat_le, arith, Result, Ok, Err, if◌then◌else◌}
use Rattle.std.proofs.lemmas.Bool.Decides.{nat_tests}
use Rattle.std.proofs.lemmas.Option.{slice_get_within}
use Rattle.dv_value.specs.Names.{value_under}
use Rattle.dv_value.specs.Tree.{Tree, document, array, Field, fields_of, list_of_fields, elements_of, list_of_elements}
use Rattle.dv_value.specs.Inner.TreeLaws.{fields_back, elements_back, fields_again}
use Rattle.dv_candidates.specs.Path.{index_of}
use Rattle.dv_path.specs.Placing.{result_map, with_field, with_element, put_field, put_element, put_behind, put}
use Rattle.dv_candidates.specs.declared.fault.PathFault.{PathFault}
use Rattle.dv_candidates.specs.declared.fault.PathFault.TheVariants.{IndexTooLarge}
use Rattle.dv_path.specs.Slots.{taken, free, blocked, slot_of, element_slot, slot_behind, slot}
use Rattle.dv_path.specs.Inner.Fielded.{field-again}

pub free-stays : (names : List (List ℕ)) (v : Tree) → slot_behind names free ≡ taken v → ⊥
free-stays [] v e = cc
free-stays (name ∷ names) v e = free-stays names v e

pub blocked-stays : (names : List (List ℕ)) (v : Tree) → slot_behind names blocked ≡ taken v → ⊥
blocked-stays [] v e = cc
blocked-stays (name ∷ names) v e = blocked-stays names v e

with_element-again : (place : ℕ) (v : Tree) (vs : List Tree) → slice_get vs place ≡ Some v → with_element place v vs ≡ vs
with_element-again place v [] e = cc
with_element-again zero v (w ∷ ws) e = let same : w ≡ v = cc in ap (λ u. u ∷ ws) (sym same)
with_element-again (suc place) v (w ∷ ws) e = ap (λ us. w ∷ us) (with_element-again place v ws e)

module _ (put : Option Tree → Result Tree PathFault) where
  field-put-again : (name : List ℕ) (w : Tree) (fs : List Field) → value_under name fs ≡ Some w → put (Some w) ≡ Ok w → put_field put name fs ≡ Ok fs
  field-put-again name w fs here same =
      ap (λ c. result_map (λ v. with_field name (Some v) fs) (put c)) here ∙ ap (result_map (λ v. with_field name (Some v) fs)) same ∙ ap Ok (field-again name w fs here)

  element-put-again : (place : ℕ) (w : Tree) (vs : List Tree) → slice_get vs place ≡ Some w → put (Some w) ≡ Ok w → put_element put (Some place) vs ≡ Ok vs
  element-put-again place w vs here same =
      let inside : nat_lt place (length vs) ≡ true = grind (arith, nat_tests, slice_get_within vs place w here) in
      ap (λ b. if b || nat_le place 100000 then result_map (λ v. with_element place v vs) (put (slice_get vs place)) else Err IndexTooLarge) inside
      ∙ ap (λ c. result_map (λ v. with_element place v vs) (put c)) here ∙ ap (result_map (λ v. with_element place v vs)) same ∙ ap Ok (with_element-again place w vs here)

-- ---- along a path

-- in any value, to put again what is at the end of the path changes nothing
abbrev Again : List (List ℕ) → Tree → Type 0
Again names v = (t : Tree) → slot_behind names (taken t) ≡ taken v → put_behind names v (Some t) ≡ Ok t

through-field : (names : List (List ℕ)) (v : Tree) (name : List ℕ) (fs : List Field) (c : Option Tree) → Again names v → value_under name fs ≡ c → slot_behind names (slot_of c) ≡ taken v → put_field (put_behind names v) name fs ≡ Ok fs
through-field names v name fs None again here e = absurd (free-stays names v e)
through-field names v name fs (Some w) again here e = field-put-again (put_behind names v) name w fs here (again w e)

through-element : (names : List (List ℕ)) (v : Tree) (place : Option ℕ) (vs : List Tree) → Again names v → slot_behind names (element_slot place vs) ≡ taken v → put_element (put_behind names v) place vs ≡ Ok vs
through-element names v None vs again e = absurd (blocked-stays names v e)
through-element names v (Some place) vs again e = by (slice_get vs place) refl e
  where
    by : (c : Option Tree) → slice_get vs place ≡ c → slot_behind names (slot_of c) ≡ taken v → put_element (put_behind names v) (Some place) vs ≡ Ok vs
    by None here f = absurd (free-stays names v f)
    by (Some w) here f = element-put-again (put_behind names v) place w vs here (again w f)

behind-again : (names : List (List ℕ)) (v : Tree) → Again names v
behind-again [] v t e = let same : t ≡ v = cc in ap Ok (sym same)
behind-again (name ∷ names) v (document fs) e =
    ap (result_map (λ gs. document (fields_of gs))) (through-field names v name (list_of_fields fs) (value_under name (list_of_fields fs)) (behind-again names v) refl e) ∙ ap (λ gs. Ok (document gs)) (fields_back fs)
behind-again (name ∷ names) v (array vs) e =
    ap (result_map (λ ws. array (elements_of ws))) (through-element names v (index_of name) (list_of_elements vs) (behind-again names v) e) ∙ ap (λ ws. Ok (array ws)) (elements_back vs)
behind-again (name ∷ names) v t e = absurd (blocked-stays names v e)

pub put-again : (d : List Field) (path : List (List ℕ)) (v : Tree) → slot d path ≡ taken v → put d path v ≡ Ok d
unfolding put slot
put-again d [] v e = refl
put-again d (name ∷ names) v e =
    through-field names v name d (value_under name d) (behind-again names v) refl (ap (λ fs. slot_behind names (slot_of (value_under name fs))) (sym (fields_again d)) ∙ e)
