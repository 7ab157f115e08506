-- Lists of rows in memory.
use Rattle.std.proofs.Common.{◌≡◌, ap, arith, refl, ℕ, zero, suc, ◌<◌, List, [], ◌∷◌, length, map, slice_index_or, slice_set}
use Rattle.std.specs.List.{AllByRecursion}
use Rattle.dv_change.specs.declared.change.Change.{Change}
use Rattle.dv_change.specs.Changes.{Positioned, with_change}
use Rattle.dv_change.specs.Inner.Changes.{IsPositioned}
use Rattle.dv_change.specs.Inputs.{input_changed_at}
use Rattle.dv_change.specs.Inner.Told.{list_at}

module _ {A : Type 0} (f : A → Positioned) where
  pub placed : (xs : List A) (i : ℕ) (d : A) → i < length xs → AllByRecursion (λ (rows : Positioned). IsPositioned rows) (map f xs) → IsPositioned (f (slice_index_or xs i d))
  placed [] i d low all = absurd (omega (arith, low))
  placed (x ∷ xs) zero d low all = all.0
  placed (x ∷ xs) (suc i) d low all = placed xs i d (omega (arith, low)) all.1

  pub changed : (xs : List A) (i : ℕ) (d x : A) (change : Change) → i < length xs → f x ≡ with_change (f (slice_index_or xs i d)) change → map f (slice_set xs i x) ≡ input_changed_at i change (map f xs)
  changed [] i d x change low e = absurd (omega (arith, low))
  changed (y ∷ xs) zero d x change low e = ap (λ r. r ∷ map f xs) e
  changed (y ∷ xs) (suc i) d x change low e = ap (λ rs. f y ∷ rs) (changed xs i d x change (omega (arith, low)) e)

  pub there : (xs : List A) (i : ℕ) (d : A) → i < length xs → f (slice_index_or xs i d) ≡ list_at i (map f xs)
  there [] i d low = absurd (omega (arith, low))
  there (y ∷ xs) zero d low = refl
  there (y ∷ xs) (suc i) d low = there xs i d (omega (arith, low))
