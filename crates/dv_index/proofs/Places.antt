-- Which index is at a place, and its path.
use Rattle.std.proofs.Common.{◌≡◌, ◌∙◌, ℕ, zero, suc, List, [], ◌∷◌, map, refl, ap, sym, subst, Some, slice_get}
use Rattle.std.specs.List.{AllByRecursion}
use Rattle.std.specs.Option.{option_map}
use Rattle.dv_value.specs.Tree.{Field}
use Rattle.dv_index.specs.Inner.Change.{AreIndexesOf, IsIndexAt}
use Rattle.dv_keyed.specs.Index.{IndexForm}
use Rattle.dv_keyed.specs.Inner.Index.{IndexTree, BeginsWithId}
use Rattle.dv_keyed.specs.Inner.ListLaws.{some-same}
use Rattle.dv_index.specs.Inner.Search.{IsIndexOf}

behind : (xs : List IndexTree) (n : ℕ) (x : IndexTree) (ds : List (List Field)) → AllByRecursion (λ y. IsIndexOf y ds) xs → slice_get xs n ≡ Some x → IsIndexOf x ds
behind [] n x ds h e = absurd cc
behind (y ∷ ys) zero x ds h e = subst (λ z. IsIndexOf z ds) (some-same y x e) h.0
behind (y ∷ ys) (suc n) x ds h e = behind ys n x ds h.1 e

pub index-at : (xs : List IndexTree) (place : ℕ) (x : IndexTree) (ds : List (List Field)) → AreIndexesOf xs ds → BeginsWithId xs → slice_get xs place ≡ Some x → IsIndexAt place x ds
index-at [] place x ds h b e = absurd b
index-at (y ∷ ys) zero x ds h b e = sym (ap (λ (z : IndexTree). z.path) (some-same y x e)) ∙ ap (λ (f : IndexForm). f.path) b
index-at (y ∷ ys) (suc n) x ds h b e = behind ys n x ds h e

-- the path at a place
pub path-at : (xs : List IndexTree) (place : ℕ) → slice_get (map (λ (x : IndexTree). x.path) xs) place ≡ option_map (λ (x : IndexTree). x.path) (slice_get xs place)
path-at [] place = refl
path-at (x ∷ xs) zero = refl
path-at (x ∷ xs) (suc n) = path-at xs n
