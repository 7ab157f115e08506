-- Lists that a loop goes through.
use Rattle.std.proofs.Common.{◌≡◌, ◌∙◌, ap, sym, refl, List, [], ◌∷◌, ◌++◌, ℕ, zero, suc, ◌<◌, take, map, length, Some, slice_get, get_or, Bool, true, false, ◌||◌, ◌==◌}
use Rattle.std.specs.Prelude.{IsTrue, ◌↔◌}
use Rattle.std.specs.List.{list_any}
use Rattle.std.proofs.lemmas.Option.{slice_get_read}
pub use Rattle.dv_row.specs.Inner.EachLaws.{drop-past}
pub use Rattle.dv_value.specs.Inner.ListLaws.{drop-found, drop-here, drop-read}

pub take-here : {X : Type 0} (xs : List X) (i : ℕ) (x : X) → slice_get xs i ≡ Some x → take (suc i) xs ≡ take i xs ++ x ∷ []
take-here [] i x e = absurd cc
take-here (z ∷ xs) zero x e = let same : z ≡ x = cc in ap (λ y. y ∷ []) same
take-here (z ∷ xs) (suc i) x e = ap (λ l. z ∷ l) (take-here xs i x e)

pub some-left : {X : Type 0} (xs : List X) → false ≡ (length xs == 0) → xs ≡ [] → ⊥
some-left xs e none = let same : false ≡ true = e ∙ ap (λ l. length l == 0) none in cc

pub any-here : {X Y : Type 0} (p : Y → Bool) (f : X → Y) (xs : List X) (i : ℕ) (x : X) → i < length xs → x ≡ get_or xs i x → p (f x) ≡ true → list_any p (map f xs) ≡ true
any-here {X = X} p f xs i x within is h = at xs i (slice_get_read xs (length xs) i x refl within is)
  where
    or-true : (b : Bool) → b || true ≡ true
    or-true true = refl
    or-true false = refl

    at : (ys : List X) (j : ℕ) → slice_get ys j ≡ Some x → list_any p (map f ys) ≡ true
    at [] j e = absurd cc
    at (z ∷ ys) zero e =
        let same : x ≡ z = cc in
        ap (λ b. b || list_any p (map f ys)) (ap (λ w. p (f w)) (sym same) ∙ h)
    at (z ∷ ys) (suc j) e = ap (λ b. p (f z) || b) (at ys j e) ∙ or-true (p (f z))

pub some-fields : {X : Type 0} (xs : List X) (answer : Bool) → (IsTrue answer ↔ (xs ≡ [])) → answer ≡ false → xs ≡ [] → ⊥
some-fields xs answer says no-one none =
    let yes : answer ≡ true = says.1 none in
    let same : false ≡ true = sym no-one ∙ yes in
    cc
