-- Documents of one field.
use Rattle.std.proofs.Common.{◌≡◌, ap, sym, refl, List, [], ◌∷◌, ℕ, Some, None, slice_get, length, Err}
use Rattle.dv_value.specs.Tree.{Tree, Field, document, fields_of}
use Rattle.dv_row.specs.declared.fault.PipelineFault.TheVariants.{BadSpec}
use Rattle.dv_pipe.specs.StageParsing.{stage_of, stage_named}

pub stage-of_others : (fs : List Field) → (length fs ≡ 1 → ⊥) → stage_of (document (fields_of fs)) ≡ Err BadSpec
stage-of_others [] h = refl
stage-of_others (f ∷ []) h = absurd (h refl)
stage-of_others (f ∷ g ∷ fs) h = refl

pub stage-of_none : (fs : List Field) → slice_get fs 0 ≡ None → stage_of (document (fields_of fs)) ≡ Err BadSpec
stage-of_none [] e = refl
stage-of_none (f ∷ fs) e = absurd cc

pub stage-of_one : (fs : List Field) (name : List ℕ) (v : Tree) → length fs ≡ 1 → Some (name, v) ≡ slice_get fs 0 → stage_of (document (fields_of fs)) ≡ stage_named name v
stage-of_one [] name v h e = absurd cc
stage-of_one (f ∷ []) name v h e =
    let same : (name, v) ≡ f = cc in
    ap (λ (g : Field). stage_named g.0 g.1) (sym same)
stage-of_one (f ∷ g ∷ fs) name v h e = absurd cc
