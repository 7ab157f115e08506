-- An element that was read, as a part of its document or array.
use Rattle.std.proofs.Common.{◌≡◌, ℕ, suc, ◌+◌, ◌-◌, true, false, List, [], ◌∷◌, ◌++◌, length, map, decimal, Ok, refl, ap, subst, ◌∙◌, arith}
use Rattle.dv_value.specs.declared.kind.Kind.TheVariants as kinds
use Rattle.dv_value.specs.declared.value.Value.{Value}
use Rattle.dv_value.specs.Tree.{Tree, array, Field, elements_of}
use Rattle.dv_value.specs.View.{tree}
use Rattle.dv_value.specs.Names.{has_name, has_zero}
use Rattle.dv_bson.specs.Reading.{name_at, value_at, Frame, frame_at, Inside}
use Rattle.dv_value.specs.Results.{◌>>=◌}
use Rattle.dv_bson.specs.Inner.Parts.{with_name, front_kind_at, field_at, numbered}
use Rattle.dv_bson.proofs.Steps.{bind_ok, ok_is}
use Rattle.dv_bson.proofs.Fields.{name_takes, values-numbered}

-- a field's name holds no zero byte, and none of the fields before it has it
pub record MayBeAdded (seen : List Field) (name : List ℕ) : Type 0 where
  pub whole : has_zero name ≡ false
  pub fresh : has_name name seen ≡ false

pub field_may_be_added : (inside : Inside) (at : ℕ) (seen : List Field) (bytes : List ℕ) (made : Field × List ℕ) → field_at inside false at seen bytes ≡ Ok made → MayBeAdded seen made.0.0
unfolding field_at
field_may_be_added inside at seen bytes made e =
    let front = bind_ok (front_kind_at at bytes) (λ kind. name_at false seen kind.1 >>= λ name. value_at inside kind.0 (at + (length bytes - length name.1)) name.1 >>= with_name name.0) made e in
    let name = bind_ok (name_at false seen front.0.1) (λ name. value_at inside front.0.0 (at + (length bytes - length name.1)) name.1 >>= with_name name.0) made front.2 in
    let value = bind_ok (value_at inside front.0.0 (at + (length bytes - length name.0.1)) name.0.1) (with_name name.0.0) made name.2 in
    let named = (name_takes false seen front.0.1 name.0 name.1).1 in
    let P : Field × List ℕ → Type 0 = λ made. MayBeAdded seen made.0.0 in
    subst P (ok_is ((name.0.0, value.0.0), value.0.1) made value.2) (record { whole = named.1; fresh = named.2 })

-- ---- the elements of an array

pub array_read : (inside : Inside) (at : ℕ) (bytes : List ℕ) (frame : Frame) (list : List Tree) → frame_at bytes ≡ Ok frame → inside true (at + 4) frame.elements frame.last ≡ Ok (numbered 0 list)
    → value_at inside kinds.Array at bytes ≡ Ok (array (elements_of list), frame.rest)
unfolding value_at
array_read inside at bytes frame list e e' = rw (e, e') (ap (λ (vs : List Tree). Ok (array (elements_of vs), frame.rest)) (values-numbered 0 list))

numbered_push_from : (i : ℕ) (vs : List Value) (v : Value) → numbered i (map tree (vs ++ v ∷ [])) ≡ numbered i (map tree vs) ++ (decimal (i + length vs), tree v) ∷ []
numbered_push_from i [] v = let none : i + 0 ≡ i = omega arith in rw none refl
numbered_push_from i (w ∷ vs) v =
    let next : suc i + length vs ≡ i + suc (length vs) = omega arith in
    ap (λ (fs : List Field). (decimal i, tree w) ∷ fs) (numbered_push_from (suc i) vs v ∙ ap (λ k. numbered (suc i) (map tree vs) ++ (decimal k, tree v) ∷ []) next)

pub numbered_push : (vs : List Value) (v : Value) → numbered 0 (map tree (vs ++ v ∷ [])) ≡ numbered 0 (map tree vs) ++ (decimal (length vs), tree v) ∷ []
numbered_push vs v = let all : 0 + length vs ≡ length vs = omega arith in numbered_push_from 0 vs v ∙ ap (λ k. numbered 0 (map tree vs) ++ (decimal k, tree v) ∷ []) all
