-- An edit under one name changes that field alone.
use Rattle.std.proofs.Common.{◌≡◌, ◌∙◌, ap, ap₂, sym, refl, List, [], ◌∷◌, ◌++◌, ℕ, ◌+◌, ◌<◌, ◌≤◌, Bool, true, false, ◌&&◌, ◌||◌, not, max, nat_lt, length, Option, Some, None, Result, Ok, Err, codes, arith, if◌then◌else◌, IfSome}
use Rattle.std.specs.Str.{bytes_eq}
use Rattle.std.proofs.lemmas.Bool.Decides.{nat_tests}
use Rattle.std.proofs.lemmas.Slice.Eq.{bytes_eq-Decides}
use Rattle.dv_value.specs.FieldChange.{with_value_set, with_found_pushed, with_value_pushed}
use Rattle.dv_value.specs.Names.{has_name, value_under, with_value_under}
use Rattle.dv_value.specs.Results.{◌>>=◌}
use Rattle.dv_value.specs.Spelling.{payload, spelling, levels, fields_levels}
use Rattle.dv_value.specs.Tree.{Tree, document, array, Field, fields_of, Elements, elements_of, list_of_elements}
use Rattle.dv_value.specs.Inner.TreeLaws.{fields_again}
use Rattle.dv_order.specs.Same.{both_same, is_same, same_fields}
use Rattle.dv_order.specs.Inner.SameLaws.{same-itself, fields-itself, same_documents}
use Rattle.dv_path.specs.Placing.{with_field, put}
use Rattle.dv_path.specs.Slots.{slot, slot_of, taken}
use Rattle.dv_update.specs.Apply.{set_at, increased, appended, edit_at, checked, is_id, leading_id, document_limit, level_limit}
use Rattle.dv_update.specs.Outcome.{outcome_seen}
use Rattle.dv_update.specs.Inner.Outcome.{HasRoom, value_by, applied_under}
use Rattle.dv_update.specs.Update.{Operation, assign, take_away, increase, append, pull}
use Rattle.dv_update.specs.declared.fault.UpdateFault.{UpdateFault}
use Rattle.dv_update.specs.declared.fault.UpdateFault.TheVariants.{IdChanged, TooLarge, TooDeep}
use Rattle.dv_update.specs.declared.outcome.Outcome.{Outcome}
use Rattle.dv_update.proofs.Behind.{length-behind, levels-behind, other-behind}

-- what dv_value's law says of encodings
abbrev pub FieldAdds : Type 0
FieldAdds = (f : Field) (fields : List Field) → length (spelling (f ∷ fields)) ≡ length (payload f.1) + length f.0 + 2 + length (spelling fields)

and-between : (p : Bool) → ((true && p) && true) ≡ p
and-between true = refl
and-between false = refl

itself : (s : List ℕ) → bytes_eq s s ≡ true
itself s = (bytes_eq-Decides s s).1 refl

-- ---- fields that begin with the same `_id`, are longer by no more than this much, and not too deep

record Grown (d e : List Field) (more : ℕ) : Type 0 where
  id : leading_id e ≡ leading_id d
  size : length (spelling e) ≤ length (spelling d) + more
  depth : levels (document (fields_of e)) ≤ 100

both-same : (o : Option Tree) → both_same o o ≡ true
both-same None = refl
both-same (Some w) = same-itself w

passes : (old new : List Field) (a b c : Bool) → a ≡ true → b ≡ false → c ≡ false → (if not a then Err IdChanged else if b then Err TooLarge else if c then Err TooDeep else Ok new) ≡ (let r : Result (List Field) UpdateFault = Ok new in r)
passes old new a b c p q r = rw (p, q, r) refl

is-checked : (d e : List Field) (more : ℕ) → Grown d e more → length (spelling d) + more ≤ 16777216 → checked d e ≡ Ok e
is-checked d e more grown small =
    let small-new : length (spelling e) ≤ 16777216 = omega (arith, grown.size, small) in
    let id : both_same (leading_id d) (leading_id e) ≡ true = ap (both_same (leading_id d)) grown.id ∙ both-same (leading_id d) in
    let size : nat_lt document_limit (length (spelling e)) ≡ false = grind (arith, nat_tests, small-new) in
    let depth : nat_lt level_limit (levels (document (fields_of e))) ≡ false = grind (arith, nat_tests, grown.depth) in
    passes d e _ _ _ id size depth

module _ (name : List ℕ) where
  -- ---- the fields with a value under the name

  module _ (v : Tree) where
    putting : (d : List Field) → set_at (name ∷ []) v d ≡ Ok (with_field name (Some v) d)
    unfolding put
    putting d = refl

    set-alike : (d : List Field) → with_field name (Some v) d ≡ with_value_set name v d
    set-alike [] = refl
    set-alike (f ∷ fs) = by (bytes_eq name f.0) (has_name name fs) (set-alike fs)
      where
        by : (b c : Bool) → with_field name (Some v) fs ≡ (if c then with_value_under name v fs else fs ++ (name, v) ∷ [])
            → (if b then (f.0, v) ∷ fs else f ∷ with_field name (Some v) fs) ≡ (if b || c then (if b then (f.0, v) ∷ fs else f ∷ with_value_under name v fs) else f ∷ fs ++ (name, v) ∷ [])
        by true c e = refl
        by false true e = ap (λ gs. f ∷ gs) e
        by false false e = ap (λ gs. f ∷ gs) e

    there-alike : (w : Tree) (d : List Field) → value_under name d ≡ Some w → with_field name (Some v) d ≡ with_value_under name v d
    there-alike w [] here = cc
    there-alike w (f ∷ fs) here = by (bytes_eq name f.0) here (there-alike w fs)
      where
        by : (b : Bool) → (if b then Some f.1 else value_under name fs) ≡ Some w → (value_under name fs ≡ Some w → with_field name (Some v) fs ≡ with_value_under name v fs)
            → (if b then (f.0, v) ∷ fs else f ∷ with_field name (Some v) fs) ≡ (if b then (f.0, v) ∷ fs else f ∷ with_value_under name v fs)
        by true e rest = refl
        by false e rest = ap (λ gs. f ∷ gs) (rest e)

    leading-kept : bytes_eq name (codes "_id") ≡ false → (d : List Field) → leading_id (with_field name (Some v) d) ≡ leading_id d
    leading-kept other [] = ap (λ b. if b then Some v else None) other
    leading-kept other (f ∷ fs) = by (bytes_eq name f.0) refl
      where
        by : (b : Bool) → bytes_eq name f.0 ≡ b → leading_id (if b then (f.0, v) ∷ fs else f ∷ with_field name (Some v) fs) ≡ leading_id (f ∷ fs)
        by true same =
            let apart : is_id f ≡ false = ap (λ n. bytes_eq n (codes "_id")) (sym ((bytes_eq-Decides name f.0).0 same)) ∙ other in
            ap (λ b. if b then Some v else None) apart ∙ sym (ap (λ b. if b then Some f.1 else None) apart)
        by false same = refl

    length-within : FieldAdds → (d : List Field) → length (spelling (with_field name (Some v) d)) ≤ length (spelling d) + (length (payload v) + (2 + length name))
    length-within adds [] = omega (arith, adds (name, v) [])
    length-within adds (f ∷ fs) = by (bytes_eq name f.0) (length-within adds fs)
      where
        by : (b : Bool) → length (spelling (with_field name (Some v) fs)) ≤ length (spelling fs) + (length (payload v) + (2 + length name))
            → length (spelling (if b then (f.0, v) ∷ fs else f ∷ with_field name (Some v) fs)) ≤ length (spelling (f ∷ fs)) + (length (payload v) + (2 + length name))
        by true rest = omega (arith, adds (f.0, v) fs, adds f fs)
        by false rest = omega (arith, adds f (with_field name (Some v) fs), adds f fs, rest)

    levels-within : (d : List Field) → fields_levels (fields_of (with_field name (Some v) d)) ≤ max (levels v) (fields_levels (fields_of d))
    levels-within [] = omega arith
    levels-within (f ∷ fs) = by (bytes_eq name f.0) (levels-within fs)
      where
        by : (b : Bool) → fields_levels (fields_of (with_field name (Some v) fs)) ≤ max (levels v) (fields_levels (fields_of fs))
            → fields_levels (fields_of (if b then (f.0, v) ∷ fs else f ∷ with_field name (Some v) fs)) ≤ max (levels v) (max (levels f.1) (fields_levels (fields_of fs)))
        by true rest = omega arith
        by false rest = omega (arith, rest)

    -- in place of a value that isn't much shorter
    length-exchanged : FieldAdds → (w : Tree) (more : ℕ) → length (payload v) ≤ length (payload w) + more → (d : List Field) → value_under name d ≡ Some w → length (spelling (with_field name (Some v) d)) ≤ length (spelling d) + more
    length-exchanged adds w more longer [] here = absurd cc
    length-exchanged adds w more longer (f ∷ fs) here = by (bytes_eq name f.0) here (length-exchanged adds w more longer fs)
      where
        by : (b : Bool) → (if b then Some f.1 else value_under name fs) ≡ Some w → (value_under name fs ≡ Some w → length (spelling (with_field name (Some v) fs)) ≤ length (spelling fs) + more)
            → length (spelling (if b then (f.0, v) ∷ fs else f ∷ with_field name (Some v) fs)) ≤ length (spelling (f ∷ fs)) + more
        by true e rest =
            let same : f.1 ≡ w = cc in
            omega (arith, adds (f.0, v) fs, adds f fs, longer, ap (λ x. length (payload x)) same)
        by false e rest = omega (arith, adds f (with_field name (Some v) fs), adds f fs, rest e)

    -- ---- whether the fields stay the same

    stays-as : (d : List Field) → same_fields (fields_of d) (fields_of (with_field name (Some v) d)) ≡ both_same (value_under name d) (Some v)
    stays-as [] = refl
    stays-as (f ∷ fs) = by (bytes_eq name f.0) (stays-as fs)
      where
        by : (b : Bool) → same_fields (fields_of fs) (fields_of (with_field name (Some v) fs)) ≡ both_same (value_under name fs) (Some v)
            → same_fields (fields_of (f ∷ fs)) (fields_of (if b then (f.0, v) ∷ fs else f ∷ with_field name (Some v) fs)) ≡ both_same (if b then Some f.1 else value_under name fs) (Some v)
        by true rest = ap₂ (λ p q. (p && is_same f.1 v) && q) (itself f.0) (fields-itself (fields_of fs)) ∙ and-between (is_same f.1 v)
        by false rest = ap₂ (λ p q. (p && q) && same_fields (fields_of fs) (fields_of (with_field name (Some v) fs))) (itself f.0) (same-itself f.1) ∙ rest

  levels-under : (w : Tree) (d : List Field) → value_under name d ≡ Some w → levels w ≤ fields_levels (fields_of d)
  levels-under w [] here = absurd cc
  levels-under w (f ∷ fs) here = by (bytes_eq name f.0) here (levels-under w fs)
    where
      by : (b : Bool) → (if b then Some f.1 else value_under name fs) ≡ Some w → (value_under name fs ≡ Some w → levels w ≤ fields_levels (fields_of fs)) → levels w ≤ max (levels f.1) (fields_levels (fields_of fs))
      by true e rest =
          let same : f.1 ≡ w = cc in
          omega (arith, ap levels same)
      by false e rest = omega (arith, rest e)

  slot-one : (d : List Field) → slot d (name ∷ []) ≡ slot_of (value_under name d)
  unfolding slot
  slot-one d = ap (λ fs. slot_of (value_under name fs)) (fields_again d)

  -- ---- in the form that the code needs

  module _ (other : bytes_eq name (codes "_id") ≡ false) (adds : FieldAdds) (d : List Field) (v : Tree) where
    set-so : HasRoom d (2 + length name) 1 v → applied_under name (assign v) d ≡ Ok (with_field name (Some v) d)
    set-so room =
        let grown : Grown d (with_field name (Some v) d) (length (payload v) + (2 + length name)) = record {
          id = leading-kept v other d;
          size = length-within v adds d;
          depth = omega (arith, room.inside, room.depth, levels-within v d);
        } in
        ap (λ r. r >>= checked d) (putting v d) ∙ is-checked d (with_field name (Some v) d) _ grown room.size

    pub sets_field : HasRoom d (2 + length name) 1 v → applied_under name (assign v) d ≡ Ok (with_value_set name v d)
    sets_field room = set-so room ∙ ap Ok (set-alike v d)

    pub keeps_field : HasRoom d (2 + length name) 1 v → true ≡ both_same (value_under name d) (Some v) → applied_under name (assign v) d ≡ Ok d
    keeps_field room same = set-so room ∙ ap Ok (sym ((same_documents d (with_field name (Some v) d)).0 (stays-as v d ∙ sym same)))

    pub pushes_value : (ws : Elements) → Some (array ws) ≡ value_under name d → length (list_of_elements ws) < 1000000 → HasRoom d 8 2 v → applied_under name (append (v ∷ [])) d ≡ Ok (with_value_pushed name v d)
    pushes_value ws here few room =
        let w = array (elements_of (list_of_elements ws ++ v ∷ [])) in
        let grown : Grown d (with_field name (Some w) d) (length (payload v) + 8) = record {
          id = leading-kept w other d;
          size = length-exchanged w adds (array ws) _ (length-behind v ws few) d (sym here);
          depth = omega (arith, room.inside, room.depth, levels-within w d, levels-behind v ws, levels-under (array ws) d (sym here));
        } in
        let slot-here : slot d (name ∷ []) ≡ taken (array ws) = slot-one d ∙ ap slot_of (sym here) in
        ap (λ s. (appended (v ∷ []) s >>= λ x. set_at (name ∷ []) x d) >>= checked d) slot-here
        ∙ ap (λ r. r >>= checked d) (putting w d)
        ∙ is-checked d (with_field name (Some w) d) _ grown room.size
        ∙ ap Ok (there-alike w (array ws) d (sym here) ∙ ap (λ o. with_found_pushed o name v d) here)

  pub differs_set : (d : List Field) (v : Tree) → false ≡ both_same (value_under name d) (Some v) → false ≡ same_fields (fields_of d) (fields_of (with_value_set name v d))
  differs_set d v apart = apart ∙ sym (stays-as v d) ∙ ap (λ e. same_fields (fields_of d) (fields_of e)) (set-alike v d)

  pub differs_pushed : (d : List Field) (v : Tree) (ws : Elements) → Some (array ws) ≡ value_under name d → false ≡ same_fields (fields_of d) (fields_of (with_value_pushed name v d))
  differs_pushed d v ws here =
      let w = array (elements_of (list_of_elements ws ++ v ∷ [])) in
      sym (other-behind v ws)
      ∙ ap (λ o. both_same o (Some w)) here
      ∙ sym (stays-as w d)
      ∙ ap (λ e. same_fields (fields_of d) (fields_of e)) (there-alike w (array ws) d (sym here) ∙ ap (λ o. with_found_pushed o name v d) here)

  -- ---- the value of the operator

  value-set : (o : Operation) (d : List Field) (v : Tree) → value_by o (slot_of (value_under name d)) ≡ Ok v → edit_at (name ∷ []) o d ≡ set_at (name ∷ []) v d
  value-set (assign u) d v is = let same : u ≡ v = cc in ap (λ x. set_at (name ∷ []) x d) same
  value-set (increase n) d v is = ap (λ s. increased n s >>= λ x. set_at (name ∷ []) x d) (slot-one d) ∙ ap (λ r. r >>= λ x. set_at (name ∷ []) x d) is
  value-set take_away d v is = cc
  value-set (append vs) d v is = cc
  value-set (pull p) d v is = cc

  pub as_value : (o : Operation) (d : List Field) (v : Tree) → value_by o (slot_of (value_under name d)) ≡ Ok v
      → (found : Option Outcome) → IfSome found (λ outcome. applied_under name (assign v) d ≡ Ok (outcome_seen name d outcome)) → IfSome found (λ outcome. applied_under name o d ≡ Ok (outcome_seen name d outcome))
  as_value o d v is None h = tt
  as_value o d v is (Some outcome) h = ap (λ r. r >>= checked d) (value-set o d v is) ∙ h

-- ---- the whole update

pub is_itself : (d : List Field) → true ≡ same_fields (fields_of d) (fields_of d)
is_itself d = sym (fields-itself (fields_of d))

pub stays_applied : (d e : List Field) (r : Result (List Field) UpdateFault) → r ≡ Ok e → true ≡ same_fields (fields_of d) (fields_of e) → r ≡ Ok d
stays_applied d e r is same = is ∙ ap Ok (sym ((same_documents d e).0 (sym same)))
