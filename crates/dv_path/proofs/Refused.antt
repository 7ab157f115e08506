-- Why nothing can be put where a path leads, component by component: the same for each value.
use Rattle.std.proofs.Common.{◌≡◌, ◌∙◌, ℕ, ◌<◌, ◌≤◌, Bool, true, false, ◌||◌, nat_lt, nat_le, List, [], ◌∷◌, length, get_or, drop, Option, Some, None, slice_get, Result, Ok, Err, refl, ap, sym, arith, inl, inr, if◌then◌else◌}
use Rattle.std.specs.Result.{result_err}
use Rattle.std.proofs.lemmas.Bool.Decides.{nat_tests}
use Rattle.std.proofs.lemmas.Option.{slice_get_within, slice_get_cases}
use Rattle.dv_value.specs.Tree.{Tree, document, array, Field, fields_of, elements_of}
use Rattle.dv_value.specs.Names.{value_under}
use Rattle.dv_value.specs.Inner.TreeLaws.{fields_again, elements_again}
use Rattle.dv_candidates.specs.declared.fault.PathFault.{PathFault}
use Rattle.dv_candidates.specs.declared.fault.PathFault.TheVariants.{IndexTooLarge}
use Rattle.dv_candidates.specs.Candidates.{Candidate}
use Rattle.dv_candidates.specs.Path.{index_of}
use Rattle.dv_path.specs.Placing.{put, put_behind, put_element, put_field, result_map, with_element, with_field}
use Rattle.dv_path.specs.Inner.ResultLaws.{refused-further}

field-refused : (put : Candidate → Result Tree PathFault) (name : List ℕ) (fs : List Field) → result_err (put_field put name fs) ≡ result_err (put (value_under name fs))
field-refused put name fs = refused-further (λ v. with_field name (Some v) fs) (put (value_under name fs))

-- what is missing is made
pub missing : (names : List (List ℕ)) (v : Tree) → result_err (put_behind names v None) ≡ None
missing [] v = refl
missing (name ∷ names) v = refused-further (λ fs. document (fields_of fs)) (put_field (put_behind names v) name []) ∙ field-refused (put_behind names v) name [] ∙ missing names v

pub refused-missing : (names : List (List ℕ)) (v : Tree) (c : Candidate) → None ≡ c → None ≡ result_err (put_behind names v c)
refused-missing names v c none = sym (missing names v) ∙ ap (λ d. result_err (put_behind names v d)) none

pub refused-first : (names : List (List ℕ)) (v : Tree) (fs : List Field) (name : List ℕ) → 0 < length names → name ≡ get_or names 0 name → result_err (put_behind (drop 1 names) v (value_under name fs)) ≡ result_err (put fs names v)
unfolding put
refused-first [] v fs name some is = absurd (omega arith)
refused-first (n ∷ names) v fs name some is = ap (λ m. result_err (put_behind names v (value_under m fs))) is ∙ sym (field-refused (put_behind names v) n fs)

pub refused-in-document : (names : List (List ℕ)) (v : Tree) (name : List ℕ) (fs : List Field) → result_err (put_behind (name ∷ names) v (Some (document (fields_of fs)))) ≡ result_err (put_behind names v (value_under name fs))
refused-in-document names v name fs =
    refused-further (λ gs. document (fields_of gs)) (put_field (put_behind names v) name _) ∙ field-refused (put_behind names v) name _ ∙ ap (λ gs. result_err (put_behind names v (value_under name gs))) (fields_again fs)

pub refused-in-array : (names : List (List ℕ)) (v : Tree) (name : List ℕ) (vs : List Tree) → result_err (put_behind (name ∷ names) v (Some (array (elements_of vs)))) ≡ result_err (put_element (put_behind names v) (index_of name) vs)
refused-in-array names v name vs =
    refused-further (λ ws. array (elements_of ws)) (put_element (put_behind names v) (index_of name) _) ∙ ap (λ ws. result_err (put_element (put_behind names v) (index_of name) ws)) (elements_again vs)

past-end : (vs : List Tree) (place : ℕ) → slice_get vs place ≡ None → length vs ≤ place
past-end vs place none = elim (slice_get_cases vs place).1 [ inl here ↦ absurd cc | inr past ↦ past.0 ]

-- a place in an array
module _ (put : Candidate → Result Tree PathFault) (o : Option ℕ) (place : ℕ) (vs : List Tree) (index : Some place ≡ o) where
  chosen : (may : Bool) → nat_lt place (length vs) || nat_le place 100000 ≡ may → result_err (put_element put o vs) ≡ (if may then result_err (put (slice_get vs place)) else Some IndexTooLarge)
  chosen may e = ap (λ i. result_err (put_element put i vs)) (sym index) ∙ rw e (go may)
    where
      go : (b : Bool) → result_err (if b then result_map (λ v. with_element place v vs) (put (slice_get vs place)) else Err IndexTooLarge) ≡ (if b then result_err (put (slice_get vs place)) else Some IndexTooLarge)
      go true = refused-further (λ v. with_element place v vs) (put (slice_get vs place))
      go false = refl

  pub refused-element : (w : Tree) → slice_get vs place ≡ Some w → result_err (put_element put o vs) ≡ result_err (put (Some w))
  refused-element w there =
      let within : place < length vs = slice_get_within vs place w there in
      chosen true (grind (arith, nat_tests)) ∙ ap (λ c. result_err (put c)) there

  pub refused-near : slice_get vs place ≡ None → place ≤ 100000 → result_err (put_element put o vs) ≡ result_err (put None)
  refused-near none near = chosen true (grind (arith, nat_tests)) ∙ ap (λ c. result_err (put c)) none

  pub refused-far : slice_get vs place ≡ None → 100000 < place → result_err (put_element put o vs) ≡ Some IndexTooLarge
  refused-far none far = let past : length vs ≤ place = past-end vs place none in chosen false (grind (arith, nat_tests))

pub not-refused : {X : Type 0} (r : Result X PathFault) (e : PathFault) → None ≡ result_err r → r ≡ Err e → ⊥
not-refused (Ok x) e told is = cc
not-refused (Err f) e told is = cc
