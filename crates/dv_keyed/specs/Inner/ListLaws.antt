-- Tests of the items of lists, lists of references, and paths.
use Rattle.std.proofs.Common.{Bor, filter, ◌≡◌, ℕ, zero, suc, ◌+◌, ◌<◌, List, [], ◌∷◌, length, map, take, get_or, refl, ap, sym, ◌∙◌, arith, Bool, true, false, cond, ◌&&◌, ◌||◌, add-one, Some}
use Rattle.std.proofs.Math.Bool.{or-false, or_assoc}
use Rattle.std.proofs.lemmas.Bool.{and_parts}
use Rattle.std.proofs.lemmas.List.{length-map}
use Rattle.std.proofs.lemmas.Slice.Eq.{bytes_eq-Decides}
use Rattle.std.specs.List.{list_any}
use Rattle.std.specs.Str.{bytes_eq}
use Rattle.dv_keyed.specs.Choice.{same_path}
use Rattle.dv_keyed.specs.Index.{IndexForm}
use Rattle.dv_keyed.specs.Inner.Index.{IndexTree, form_of}

pub or-shuffled : (a b c d : Bool) → (a || b) || (c || d) ≡ (a || c) || (b || d)
or-shuffled true b c d = refl
or-shuffled false true true d = refl
or-shuffled false true false d = refl
or-shuffled false false c d = refl

pub any-one-more : {X : Type 0} (p : X → Bool) (xs : List X) (i : ℕ) (x : X) → i < length xs → x ≡ get_or xs i x → list_any p (take (i + 1) xs) ≡ list_any p (take i xs) || p x
any-one-more p [] i x within is = absurd (omega arith)
any-one-more p (y ∷ ys) zero x within is = or-false (p y) ∙ ap p (sym is)
any-one-more p (y ∷ ys) (suc i) x within is =
    let rest = rw add-one at (any-one-more p ys i x (omega arith) is) in
    rw add-one (ap (λ b. p y || b) rest ∙ sym (or_assoc (p y) (list_any p (take i ys)) (p x)))

pub any-and : {X : Type 0} (a : Bool) (p : X → Bool) (xs : List X) → list_any (λ x. a && p x) xs ≡ a && list_any p xs
any-and true p xs = refl
any-and false p [] = refl
any-and false p (x ∷ xs) = any-and false p xs

pub any-kept : {X : Type 0} (r q : X → Bool) (xs : List X) → list_any q (filter r xs) ≡ list_any (λ x. r x && q x) xs
any-kept r q [] = refl
any-kept r q (x ∷ xs) = at (r x) (any-kept r q xs)
  where
    at : (b : Bool) → list_any q (filter r xs) ≡ list_any (λ y. r y && q y) xs → list_any q (cond b (x ∷ filter r xs) (filter r xs)) ≡ (b && q x) || list_any (λ y. r y && q y) xs
    at true e = ap (λ b. q x || b) e
    at false e = e

-- filtering references keeps the same items as filtering what they refer to
pub map-kept : {X : Type 0} (p : X → Bool) (xs : List (Bor X)) → map (λ (x : Bor X). x.now) (filter (λ (x : Bor X). p x.now) xs) ≡ filter p (map (λ (x : Bor X). x.now) xs)
map-kept {X = X} p [] = refl
map-kept {X = X} p (x ∷ xs) = at (p x.now) (map-kept p xs)
  where
    at : (b : Bool) → map (λ (y : Bor X). y.now) (filter (λ (y : Bor X). p y.now) xs) ≡ filter p (map (λ (y : Bor X). y.now) xs) → map (λ (y : Bor X). y.now) (cond b (x ∷ filter (λ (y : Bor X). p y.now) xs) (filter (λ (y : Bor X). p y.now) xs)) ≡ cond b (x.now ∷ filter p (map (λ (y : Bor X). y.now) xs)) (filter p (map (λ (y : Bor X). y.now) xs))
    at true e = ap (λ ys. x.now ∷ ys) e
    at false e = e

pub length-lent : {X : Type 0} (xs : List (Bor X)) → length (map (λ (x : Bor X). x.now) xs) ≡ length xs
length-lent xs = length-map xs (λ x. x.now)

pub some-same : {X : Type 0} (x y : X) → Some x ≡ Some y → x ≡ y
some-same x y e = cc

pub one-path : (p q : List (List ℕ)) → same_path p q ≡ true → p ≡ q
one-path [] [] e = refl
one-path [] (y ∷ ys) e = absurd cc
one-path (x ∷ xs) [] e = absurd cc
one-path (x ∷ xs) (y ∷ ys) e =
    let parts = and_parts (bytes_eq x y) (same_path xs ys) e in
    let first : x ≡ y = (bytes_eq-Decides x y).0 parts.0 in
    let rest = one-path xs ys parts.1 in
    cc

pub paths-of-forms : (xs : List IndexTree) → map (λ (x : IndexTree). x.path) xs ≡ map (λ (x : IndexForm). x.path) (map form_of xs)
paths-of-forms [] = refl
paths-of-forms (x ∷ xs) = ap (λ ps. x.path ∷ ps) (paths-of-forms xs)
