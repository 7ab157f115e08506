-- Edits that are parsed one after the other.
use Rattle.std.proofs.Common.{◌≡◌, ◌∙◌, ap, sym, refl, List, [], ◌∷◌, ◌++◌, Result, Ok, Err, append_assoc, append-nil, ◌⊎◌, inl, inr}
use Rattle.dv_value.specs.Tree.{Field}
use Rattle.dv_update.specs.declared.fault.UpdateFault.{UpdateFault}
use Rattle.dv_update.specs.declared.fault.UpdateFault.TheVariants.{NoMemory}
use Rattle.dv_update.specs.declared.operator.Operator.{Operator}
use Rattle.dv_update.specs.Inner.Collected.{behind}
use Rattle.dv_update.specs.Parsing.{operator_named, edit_by, edits_by, edits_under, edits_in}
use Rattle.dv_value.specs.Results.{◌>>=◌, Gives}
use Rattle.dv_update.specs.Update.{Edit}

one-behind : {X : Type 0} (ys : List X) (r : Result X UpdateFault) (s : Result (List X) UpdateFault) (y : X) → r ≡ Ok y → behind ys (r >>= λ z. s >>= λ zs. Ok (z ∷ zs)) ≡ behind (ys ++ y ∷ []) s
one-behind {X = X} ys r s y e = ap (λ q. behind ys (q >>= λ z. s >>= λ zs. Ok (z ∷ zs))) e ∙ by s
  where
    by : (s : Result (List X) UpdateFault) → behind ys (s >>= λ zs. Ok (y ∷ zs)) ≡ behind (ys ++ y ∷ []) s
    by (Ok zs) = ap Ok (sym (append_assoc ys (y ∷ []) zs))
    by (Err f) = refl

fault-behind : {X Z : Type 0} (ys : List Z) (r : Result X UpdateFault) (s : X → Result (List Z) UpdateFault) (e : UpdateFault) → r ≡ Err e → behind ys (r >>= s) ≡ Err e
fault-behind ys r s e is = ap (λ q. behind ys (q >>= s)) is

-- ---- the paths of an operator

module _ (operator : Operator) (fs rest : List Field) (old ys : List Edit) (so-far : behind old (edits_by operator fs) ≡ behind ys (edits_by operator rest)) where
  next : (f : Field) (others : List Field) → rest ≡ f ∷ others → behind old (edits_by operator fs) ≡ behind ys (edit_by operator f >>= λ e. edits_by operator others >>= λ es. Ok (e ∷ es))
  next f others here = so-far ∙ ap (λ l. behind ys (edits_by operator l)) here

  pub edit-more : (f : Field) (others : List Field) (e : Edit) → rest ≡ f ∷ others → edit_by operator f ≡ Ok e → behind old (edits_by operator fs) ≡ behind (ys ++ e ∷ []) (edits_by operator others)
  edit-more f others e here is = next f others here ∙ one-behind ys (edit_by operator f) (edits_by operator others) e is

  pub edit-fault : (f : Field) (others : List Field) (e : UpdateFault) → rest ≡ f ∷ others → edit_by operator f ≡ Err e → behind old (edits_by operator fs) ≡ Err e
  edit-fault f others e here is = next f others here ∙ fault-behind ys (edit_by operator f) (λ e. edits_by operator others >>= λ es. Ok (e ∷ es)) e is

  pub edits-end : rest ≡ [] → behind old (edits_by operator fs) ≡ Ok ys
  edits-end over = so-far ∙ ap (λ l. behind ys (edits_by operator l)) over ∙ ap Ok (append-nil ys)

-- ---- the operators of an update

behind-behind : (ys zs : List Edit) (r s : Result (List Edit) UpdateFault) → behind ys r ≡ Ok zs → behind ys (r >>= λ es. s >>= λ more. Ok (es ++ more)) ≡ behind zs s
behind-behind ys zs (Err e) s is = cc
behind-behind ys zs (Ok es) s is = by s
  where
    by : (s : Result (List Edit) UpdateFault) → behind ys (s >>= λ more. Ok (es ++ more)) ≡ behind zs s
    by (Ok more) = let same : ys ++ es ≡ zs = cc in ap Ok (sym (append_assoc ys es more) ∙ ap (λ l. l ++ more) same)
    by (Err e) = refl

fault-inside : (ys : List Edit) (r : Result (List Edit) UpdateFault) (e : UpdateFault) → behind ys r ≡ Err e → r ≡ Err e
fault-inside ys (Ok es) e is = cc
fault-inside ys (Err f) e is = is

module _ (fs rest : List Field) (ys : List Edit) (so-far : edits_in fs ≡ behind ys (edits_in rest)) where
  follow : (f : Field) (others : List Field) → rest ≡ f ∷ others → edits_in fs ≡ behind ys (edits_under (operator_named f.0) f.1 >>= λ es. edits_in others >>= λ more. Ok (es ++ more))
  follow f others here = so-far ∙ ap (λ l. behind ys (edits_in l)) here

  pub operator-more : (f : Field) (others : List Field) (zs : List Edit) → rest ≡ f ∷ others → behind ys (edits_under (operator_named f.0) f.1) ≡ Ok zs → edits_in fs ≡ behind zs (edits_in others)
  operator-more f others zs here is = follow f others here ∙ behind-behind ys zs (edits_under (operator_named f.0) f.1) (edits_in others) is

  pub operator-fault : (f : Field) (others : List Field) (e : UpdateFault) → rest ≡ f ∷ others → behind ys (edits_under (operator_named f.0) f.1) ≡ Err e → edits_in fs ≡ Err e
  operator-fault f others e here is = follow f others here ∙ fault-behind ys (edits_under (operator_named f.0) f.1) (λ es. edits_in others >>= λ more. Ok (es ++ more)) e (fault-inside ys (edits_under (operator_named f.0) f.1) e is)

  pub operators-end : rest ≡ [] → edits_in fs ≡ Ok ys
  operators-end over = so-far ∙ ap (λ l. behind ys (edits_in l)) over ∙ ap Ok (append-nil ys)

pub gives-fault : {X Y Y' : Type 0} (view : X → Y) (r : Result X UpdateFault) (e : UpdateFault) (part : Result Y' UpdateFault) (whole : Result Y UpdateFault) → r ≡ Err e → (e ≡ NoMemory) ⊎ (part ≡ Err e) → (part ≡ Err e → whole ≡ Err e) → Gives NoMemory view r whole
gives-fault view r e part whole is (inl m) f = rw is (inl m)
gives-fault view r e part whole is (inr p) f = rw is (inr (f p))
