-- Documents of one field, and the last of some edits.
use Rattle.std.proofs.Common.{◌≡◌, ◌∙◌, ap, sym, refl, List, [], ◌∷◌, ℕ, suc, length, map, Some, None, slice_get, arith, true, false, codes, Err, if◌then◌else◌, ◌-◌, rules}
use Rattle.std.specs.Str.{bytes_eq}
use Rattle.dv_value.specs.Tree.{no_fields, field, Tree, Field, fields_of}
use Rattle.dv_update.specs.Inner.Collected.{last_begins}
use Rattle.dv_update.specs.PathOrder.{begins}
use Rattle.dv_update.specs.Parsing.{each_alone, members}
use Rattle.dv_update.specs.View.{edit}
use Rattle.dv_update.specs.declared.fault.UpdateFault.TheVariants.{UnknownOperator}
use Rattle.dv_update.specs.declared.form.Edit.{Edit}

-- a document of one field
pub each-one : (fs : List Field) (name : List ℕ) (v : Tree) → Some (name, v) ≡ slice_get fs 0 → length fs ≡ 1 → true ≡ bytes_eq name (codes "$each") → each_alone (fields_of fs) ≡ members v
each-one [] name v e len is = cc
each-one (f ∷ []) name v e len is =
    let same : f ≡ (name, v) = cc in
    ap (λ (g : Field). each_alone (field g.0 g.1 no_fields)) same ∙ ap (λ b. if b then members v else Err UnknownOperator) (sym is)
each-one (f ∷ g ∷ fs) name v e len is = absurd (omega arith)

pub each-other : (fs : List Field) (name : List ℕ) (v : Tree) → Some (name, v) ≡ slice_get fs 0 → length fs ≡ 1 → false ≡ bytes_eq name (codes "$each") → each_alone (fields_of fs) ≡ Err UnknownOperator
each-other [] name v e len is = cc
each-other (f ∷ []) name v e len is =
    let same : f ≡ (name, v) = cc in
    ap (λ (g : Field). each_alone (field g.0 g.1 no_fields)) same ∙ ap (λ b. if b then members v else Err UnknownOperator) (sym is)
each-other (f ∷ g ∷ fs) name v e len is = absurd (omega arith)

pub each-many : (fs : List Field) → (length fs ≡ 1 → ⊥) → each_alone (fields_of fs) ≡ Err UnknownOperator
each-many [] h = refl
each-many (f ∷ []) h = absurd (h (omega arith))
each-many (f ∷ g ∷ fs) h = refl

pub each-none : (fs : List Field) → None ≡ slice_get fs 0 → each_alone (fields_of fs) ≡ Err UnknownOperator
each-none [] e = refl
each-none (f ∷ fs) e = cc

-- the last of some edits
pub last-begins : (path : List (List ℕ)) (es : List Edit) (e : Edit) → Some e ≡ slice_get es (length es - 1) → last_begins path (map edit es) ≡ begins e.path path
last-begins path [] e is = cc
last-begins path (d ∷ []) e is = let same : d ≡ e = search (rules, is) in ap (λ (x : Edit). begins x.path path) same
last-begins path (d ∷ c ∷ es) e is = let at : length (d ∷ c ∷ es) - 1 ≡ suc (length (c ∷ es) - 1) = omega arith in last-begins path (c ∷ es) e (is ∙ ap (slice_get (d ∷ c ∷ es)) at)
