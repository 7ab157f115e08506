-- The lists that stages read by `$lookup`, counted through all of them.
use Rattle.std.proofs.Common.{◌≡◌, ◌∙◌, ap, refl, sym, List, [], ◌∷◌, ◌++◌, ◌+◌, ◌-◌, ◌<◌, ◌≤◌, ℕ, zero, suc, length, length-append, arith}
use Rattle.std.specs.Prelude.{Bool, true, false, if◌then◌else◌, nat_lt}
use Rattle.std.proofs.lemmas.Bool.{ltb-false, ltb-true}
use Rattle.dv_change.specs.declared.input.Input.{Input}
use Rattle.dv_change.specs.declared.input.Input.TheVariants.{Left, Named}
use Rattle.dv_change.specs.Changes.{Positioned}
use Rattle.dv_change.specs.Inner.Fed.{rows_in, rows_named}
use Rattle.dv_change.specs.Inner.Told.{input_rows, list_at}
use Rattle.dv_change.specs.Inner.Work.{HasAny, lists_of, named_in}
use Rattle.dv_change.specs.Inputs.{HasInput}
use Rattle.dv_change.specs.Work.{Transform}

less-none : (i : ℕ) → i - 0 ≡ i
less-none i = omega arith

less-both : (i n : ℕ) → suc i - suc n ≡ i - n
less-both i n = omega arith

-- ---- how many there are

counted : (forms : List Transform) → named_in forms ≡ length (lists_of forms)
counted [] = refl
counted (form ∷ forms) = ap (λ n. length form.named + n) (counted forms) ∙ sym (length-append form.named (lists_of forms))

pub there-counted : (input : Input) (forms : List Transform) (lists : List Positioned) → lists_of forms ≡ lists → HasInput input lists → HasAny input forms
there-counted Left forms lists are has = tt
there-counted (Named i) forms lists are has =
    let count = counted forms in
    let same = ap length are in
    omega (arith, has, count, same)

-- ---- the list at a place

at-front : (i : ℕ) (xs ys : List Positioned) → i < length xs → list_at i xs ≡ list_at i (xs ++ ys)
at-front i [] ys low = absurd (omega (arith, low))
at-front zero (x ∷ xs) ys low = refl
at-front (suc i) (x ∷ xs) ys low = at-front i xs ys (omega (arith, low))

at-back : (i : ℕ) (xs ys : List Positioned) → length xs ≤ i → list_at (i - length xs) ys ≡ list_at i (xs ++ ys)
at-back i [] ys far = ap (λ n. list_at n ys) (less-none i)
at-back zero (x ∷ xs) ys far = absurd (omega (arith, far))
at-back (suc i) (x ∷ xs) ys far = ap (λ n. list_at n ys) (less-both i (length xs)) ∙ at-back i xs ys (omega (arith, far))

named-at : (i : ℕ) (forms : List Transform) → rows_named i forms ≡ list_at i (lists_of forms)
named-at i [] = refl
named-at i (form ∷ forms) = by (nat_lt i (length form.named)) refl (named-at (i - length form.named) forms)
  where
    by : (b : Bool) → nat_lt i (length form.named) ≡ b → rows_named (i - length form.named) forms ≡ list_at (i - length form.named) (lists_of forms)
        → (if b then list_at i form.named else rows_named (i - length form.named) forms) ≡ list_at i (form.named ++ lists_of forms)
    by true is rest = at-front i form.named (lists_of forms) (ltb-true i (length form.named) is)
    by false is rest = rest ∙ at-back i form.named (lists_of forms) (ltb-false i (length form.named) is)

pub rows-at : (input : Input) (forms : List Transform) (lists : List Positioned) (rows : Positioned) → lists_of forms ≡ lists → input_rows input lists rows ≡ rows_in input forms rows
rows-at Left forms lists rows are = refl
rows-at (Named i) forms lists rows are = ap (list_at i) (sym are) ∙ sym (named-at i forms)
