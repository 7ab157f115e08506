-- Whether some or every item of a list passes, when a loop has come to one of them.
use Rattle.std.proofs.Common.{◌≡◌, ℕ, zero, suc, ◌<◌, ◌≤◌, List, [], ◌∷◌, length, map, take, take_all, get_or, refl, ap, sym, ◌∙◌, arith, Bool, true, false, ◌||◌, ◌&&◌}
use Rattle.std.proofs.Math.Bool.{and-false}
use Rattle.std.specs.List.{list_any, list_all}
use Rattle.dv_value.specs.declared.value.Value.{Value}
use Rattle.dv_value.specs.View.{tree}
use Rattle.dv_value.specs.Inner.ListLaws.{any-map}

pub or-true : (a : Bool) → a || true ≡ true
or-true true = refl
or-true false = refl

pub any-at : {X : Type 0} (p : X → Bool) (xs : List X) (i : ℕ) (x : X) → i < length xs → x ≡ get_or xs i x → p x ≡ true → list_any p xs ≡ true
any-at p [] i x within is h = absurd (omega arith)
any-at p (y ∷ ys) zero x within is h = ap (λ b. b || list_any p ys) (ap p (sym is) ∙ h)
any-at p (y ∷ ys) (suc i) x within is h = ap (λ b. p y || b) (any-at p ys i x (omega arith) is h) ∙ or-true (p y)

pub all-at : {X : Type 0} (p : X → Bool) (xs : List X) (i : ℕ) (x : X) → i < length xs → x ≡ get_or xs i x → p x ≡ false → list_all p xs ≡ false
all-at p [] i x within is h = absurd (omega arith)
all-at p (y ∷ ys) zero x within is h = ap (λ b. b && list_all p ys) (ap p (sym is) ∙ h)
all-at p (y ∷ ys) (suc i) x within is h = ap (λ b. p y && b) (all-at p ys i x (omega arith) is h) ∙ and-false (p y)

pub whole-list : {X : Type 0} (i : ℕ) (xs : List X) → length xs ≤ i → xs ≡ take i xs
whole-list i xs end = sym (take_all i xs end)

pub all-map : {X Y : Type 0} (p : Y → Bool) (view : X → Y) (xs : List X) → list_all p (map view xs) ≡ list_all (λ x. p (view x)) xs
all-map p view [] = refl
all-map p view (x ∷ xs) = ap (λ b. p (view x) && b) (all-map p view xs)

-- a loop over items, whose views are the list ys
module _ {X Y : Type 0} (p : Y → Bool) (view : X → Y) (xs : List X) (ys : List Y) (seen : map view xs ≡ ys) (i : ℕ) where
  seen-any : list_any p ys ≡ list_any (λ x. p (view x)) xs
  seen-any = ap (list_any p) (sym seen) ∙ any-map p view xs

  seen-all : list_all p ys ≡ list_all (λ x. p (view x)) xs
  seen-all = ap (list_all p) (sym seen) ∙ all-map p view xs

  pub any-here : (x : X) → i < length xs → x ≡ get_or xs i x → p (view x) ≡ true → list_any p ys ≡ true
  any-here x within is h = seen-any ∙ any-at (λ x. p (view x)) xs i x within is h

  pub any-nowhere : length xs ≤ i → list_any (λ x. p (view x)) (take i xs) ≡ false → list_any p ys ≡ false
  any-nowhere end h = seen-any ∙ ap (list_any (λ x. p (view x))) (sym (take_all i xs end)) ∙ h

  pub all-but-here : (x : X) → i < length xs → x ≡ get_or xs i x → p (view x) ≡ false → list_all p ys ≡ false
  all-but-here x within is h = seen-all ∙ all-at (λ x. p (view x)) xs i x within is h

  pub all-over : length xs ≤ i → list_all (λ x. p (view x)) (take i xs) ≡ true → list_all p ys ≡ true
  all-over end h = seen-all ∙ ap (list_all (λ x. p (view x))) (sym (take_all i xs end)) ∙ h

pub length-seen : (vs : List Value) → length (map tree vs) ≡ length vs
length-seen [] = refl
length-seen (v ∷ vs) = ap suc (length-seen vs)
