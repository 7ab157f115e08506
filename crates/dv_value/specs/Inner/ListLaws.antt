-- Lists: the items of a loop, and tests of items.
use Rattle.std.proofs.Common.{◌≡◌, ◌∙◌, ℕ, zero, suc, ◌+◌, ◌≤◌, ◌<◌, ◌++◌, ◌||◌, Bool, true, false, cond, List, [], ◌∷◌, length, map, take, drop, drop_of_length-le, get_or, Option, Some, None, IfSome, filter, refl, ap, sym, subst, add-one, arith}
use Rattle.std.specs.List.{flat_map, list_any, slice_get}
use Rattle.std.specs.Option.{option_map}
use Rattle.std.proofs.lemmas.List.{length-map, take_more}
use Rattle.std.proofs.lemmas.List.Folds.{list_any-append}
use Rattle.std.proofs.lemmas.Option.{slice_get_read, slice_get-map}

-- the view of the item at a place
pub slice_get_seen : {X Y : Type 0} (view : X → Y) (xs : List X) (ys : List Y) (place : ℕ) (x : X) → map view xs ≡ ys → place < length xs → x ≡ get_or xs place x → slice_get ys place ≡ Some (view x)
slice_get_seen view xs ys place x seen within is =
    let here : slice_get xs place ≡ Some x = slice_get_read xs (length xs) place x refl within is in
    rw (← seen, slice_get-map view xs place, here) refl

-- what is left from a place on begins with the item there
pub drop_item : {X : Type 0} (xs : List X) (place : ℕ) (x : X) → slice_get xs place ≡ Some x → drop place xs ≡ x ∷ drop (place + 1) xs
drop_item [] place x e = absurd cc
drop_item (y ∷ ys) zero x e = cc
drop_item (y ∷ ys) (suc place) x e = rw (drop_item ys place x e, add-one, add-one) refl

pub drop-here : {X : Type 0} (xs : List X) (place : ℕ) (x : X) → slice_get xs place ≡ Some x → drop place xs ≡ x ∷ drop (suc place) xs
drop-here xs place x e = drop_item xs place x e ∙ ap (λ n. x ∷ drop n xs) (add-one place)

pub drop-found : {X : Type 0} (xs : List X) (place : ℕ) (x : X) → Some x ≡ slice_get xs place → drop place xs ≡ x ∷ drop (place + 1) xs
drop-found xs place x e = drop_item xs place x (sym e)

pub drop-read : {X : Type 0} (xs : List X) (place : ℕ) (x : X) → place < length xs → x ≡ get_or xs place x → drop place xs ≡ x ∷ drop (place + 1) xs
drop-read xs place x within is = drop_item xs place x (slice_get_read xs (length xs) place x refl within is)

-- past the last item nothing is left
pub drop_seen : {X Y : Type 0} (view : X → Y) (xs : List X) (ys : List Y) (place : ℕ) → map view xs ≡ ys → length xs ≤ place → drop place ys ≡ []
drop_seen view xs ys place seen past = drop_of_length-le ys (rw (← seen, length-map) past)

-- past the last item there is none, and all are taken
pub none-past : {X : Type 0} (xs : List X) (i : ℕ) → length xs ≤ i → slice_get xs i ≡ None
none-past [] i h = refl
none-past (x ∷ xs) zero h = absurd (omega arith)
none-past (x ∷ xs) (suc i) h = none-past xs i (omega arith)

pub take-past : {X : Type 0} (xs : List X) (i : ℕ) → length xs ≤ i → take i xs ≡ xs
take-past [] zero h = refl
take-past [] (suc i) h = refl
take-past (x ∷ xs) zero h = absurd (omega arith)
take-past (x ∷ xs) (suc i) h = ap (λ l. x ∷ l) (take-past xs i (omega arith))

-- with the item at a place one more is taken
pub take-read : {X : Type 0} (xs : List X) (i : ℕ) (x : X) → i < length xs → x ≡ get_or xs i x → take (i + 1) xs ≡ take i xs ++ x ∷ []
take-read xs i x within is = take_more xs i x within ∙ ap (λ y. take i xs ++ y ∷ []) (sym is)

pub positive : {X : Type 0} (xs : List X) → (xs ≡ [] → ⊥) → 0 < length xs
positive [] some = absurd (some refl)
positive (x ∷ xs) some = omega arith

-- the image of nothing is nothing
pub none-of : {X Y : Type 0} (f : X → Y) (r : Option X) (o : Option Y) → option_map f r ≡ o → ((x : X) → r ≡ Some x → ⊥) → o ≡ None
none-of f None o e h = sym e
none-of f (Some x) o e h = absurd (h x refl)

pub some-is : {X : Type 0} (x : X) (P : X → Type 0) (o : Option X) → o ≡ Some x → IfSome o P → P x
some-is x P None e h = absurd cc
some-is x P (Some y) e h = let same : y ≡ x = cc in subst P same h

-- ---- tests

pub filter-length : {X : Type 0} (p : X → Bool) (xs : List X) → length (filter p xs) ≤ length xs
filter-length p [] = omega arith
filter-length p (x ∷ xs) = at (p x) (filter-length p xs)
  where
    at : (b : Bool) → length (filter p xs) ≤ length xs → length (cond b (x ∷ filter p xs) (filter p xs)) ≤ length (x ∷ xs)
    at true h = omega arith
    at false h = omega arith

pub any-flat_map : {X Y : Type 0} (test : Y → Bool) (f : X → List Y) (xs : List X) → list_any test (flat_map f xs) ≡ list_any (λ x. list_any test (f x)) xs
any-flat_map test f [] = refl
any-flat_map test f (x ∷ xs) = list_any-append test (f x) (flat_map f xs) ∙ ap (λ b. list_any test (f x) || b) (any-flat_map test f xs)

pub cond-over : {A : Type 0} (b : Bool) (x y z : A) → cond b x (cond b y z) ≡ cond b x z
cond-over true x y z = refl
cond-over false x y z = refl

pub any-map : {X Y : Type 0} (p : Y → Bool) (view : X → Y) (xs : List X) → list_any p (map view xs) ≡ list_any (λ x. p (view x)) xs
any-map p view [] = refl
any-map p view (x ∷ xs) = ap (λ b. p (view x) || b) (any-map p view xs)

pub cond-or : (b a : Bool) → cond b true a ≡ a || b
cond-or true true = refl
cond-or true false = refl
cond-or false true = refl
cond-or false false = refl

-- two truth values that are true in the same cases are the same
pub same-truth : (a b : Bool) → (a ≡ true → b ≡ true) → (b ≡ true → a ≡ true) → a ≡ b
same-truth true b to from = sym (to refl)
same-truth false true to from = from refl
same-truth false false to from = refl
