-- The keys that a candidate gives, as they are put into a set.
use Rattle.std.proofs.Common.{◌≡◌, ◌∙◌, ◌||◌, ◌++◌, ℕ, zero, suc, ◌+◌, ◌<◌, refl, ap, sym, Bool, true, false, cond, List, [], ◌∷◌, map, take, length, get_or, Some, None, Result, Ok, Err, OnErr}
use Rattle.std.proofs.Math.Bool.{or-false, or_assoc}
use Rattle.std.proofs.lemmas.List.{map-append}
use Rattle.std.proofs.lemmas.List.Folds.{list_any-append}
use Rattle.std.specs.Cmp.{eq_by_cmp_equiv}
use Rattle.std.specs.List.{flat_map}
use Rattle.std.specs.Option.{unwrap_or}
use Rattle.std.specs.Ordering.{is_eq}
use Rattle.dv_value.specs.Tree.{Tree, array, list_of_elements}
use Rattle.dv_value.specs.View.{tree}
use Rattle.dv_value.specs.declared.value.Value.{Value}
use Rattle.dv_value.specs.Inner.ListLaws.{take-read}
use Rattle.dv_order.specs.Order.{canon}
use Rattle.dv_order.specs.Key.{KeyTree, value, key_order}
use Rattle.dv_order.specs.Inner.KeyLaws.{key_order_total}
use Rattle.dv_candidates.specs.Candidates.{Candidate, array_in, or_null, with_elements}
use Rattle.dv_path.specs.LeafKeys.{is_key_of, is_some_key}

pub map-flat_map : {X Y Z : Type 0} (f : Y → Z) (g : X → List Y) (xs : List X) → map f (flat_map g xs) ≡ flat_map (λ x. map f (g x)) xs
map-flat_map f g [] = refl
map-flat_map f g (x ∷ xs) = map-append f (g x) (flat_map g xs) ∙ ap (λ zs. map f (g x) ++ zs) (map-flat_map f g xs)

cond-or : (b a : Bool) → cond b true a ≡ a || b
cond-or true true = refl
cond-or true false = refl
cond-or false true = refl
cond-or false false = refl

-- a key that was put in
pub key-added : (k l : KeyTree) (v : Tree) (was : Bool) → l ≡ value (canon v) → cond (is_eq (key_order l k)) true was ≡ was || is_key_of k v
key-added k l v was is = cond-or (is_eq (key_order l k)) was ∙ ap (λ b. was || b) ((eq_by_cmp_equiv key_order_total).symm l k ∙ ap (λ m. is_eq (key_order k m)) is)

again : (vs : List Tree) → map or_null (map Some vs) ≡ vs
again [] = refl
again (v ∷ vs) = ap (λ ws. v ∷ ws) (again vs)

leaves-of : (k : KeyTree) (c : Candidate) → is_some_key k (map or_null (with_elements c)) ≡ is_key_of k (or_null c) || is_some_key k (unwrap_or (array_in c) [])
leaves-of k None = refl
leaves-of k (Some (array vs)) = ap (λ ws. is_key_of k (array vs) || is_some_key k ws) (again (list_of_elements vs))
leaves-of k (Some v) = refl

-- a set with the key of a candidate, and with those of its elements where it is an array
module _ (k : KeyTree) (c : Candidate) (was mid : Bool) (one : mid ≡ was || is_key_of k (or_null c)) where
  pub with-list : (l : List Tree) (new : Bool) → Some l ≡ array_in c → new ≡ mid || is_some_key k l → new ≡ was || is_some_key k (map or_null (with_elements c))
  with-list l new is more =
      more ∙ ap (λ b. b || is_some_key k l) one ∙ or_assoc was (is_key_of k (or_null c)) (is_some_key k l)
      ∙ ap (λ b. was || b) (ap (λ o. is_key_of k (or_null c) || is_some_key k (unwrap_or o [])) is ∙ sym (leaves-of k c))

  pub without-list : None ≡ array_in c → mid ≡ was || is_some_key k (map or_null (with_elements c))
  without-list is =
      one ∙ ap (λ b. was || b) (sym (or-false (is_key_of k (or_null c))) ∙ ap (λ o. is_key_of k (or_null c) || is_some_key k (unwrap_or o [])) is ∙ sym (leaves-of k c))

-- the keys of values that a loop adds, one more of them
pub keys-more : (k : KeyTree) (was : Bool) (xs : List Value) (i : ℕ) (x : Value) → i < length xs → x ≡ get_or xs i x → (was || is_some_key k (map tree (take i xs))) || is_key_of k (tree x) ≡ was || is_some_key k (map tree (take (i + 1) xs))
keys-more k was xs i x within is =
    let before = is_some_key k (map tree (take i xs)) in
    let more : is_some_key k (map tree (take (i + 1) xs)) ≡ before || is_key_of k (tree x) =
    ap (λ ys. is_some_key k (map tree ys)) (take-read xs i x within is) ∙ ap (is_some_key k) (map-append tree (take i xs) (x ∷ []))
    ∙ list_any-append (is_key_of k) (map tree (take i xs)) (tree x ∷ []) ∙ ap (λ b. before || b) (or-false (is_key_of k (tree x))) in
    or_assoc was before (is_key_of k (tree x)) ∙ ap (λ b. was || b) (sym more)

pub seen-first : (i : ℕ) (xs : List Value) (vs : List Tree) → map tree xs ≡ vs → map tree (take i xs) ≡ take i vs
seen-first i xs vs seen = first i xs ∙ ap (take i) seen
  where
    first : (i : ℕ) (xs : List Value) → map tree (take i xs) ≡ take i (map tree xs)
    first zero xs = refl
    first (suc i) [] = refl
    first (suc i) (x ∷ xs) = ap (λ ys. tree x ∷ ys) (first i xs)

pub on-err : {T E P : Type 0} (r : Result T E) → P → OnErr r P
on-err (Ok x) p = tt
on-err (Err e) p = p
