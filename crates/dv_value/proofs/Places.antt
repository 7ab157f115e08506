-- A finite map of names: its entries are those of the map under texts, and one more field at the end changes it.
use Rattle.std.proofs.Common.{◌≡◌, ℕ, ◌+◌, false, List, [], ◌∷◌, ◌++◌, length, get_or, take, drop, ◌<◌, map, cond, subst, Some, ap, sym, ◌∙◌, arith}
use Rattle.std.proofs.lemmas.Grind.{common_steps}
use Rattle.std.proofs.lemmas.List.{take-append-drop, drop_more, map-append}
use Rattle.std.proofs.lemmas.Slice.Eq.{bytes_eq-Decides}
use Rattle.std.specs.FinMap as finite
use Rattle.std.specs.List.{position_from}
use Rattle.std.specs.Str.{bytes_eq}
use Rattle.dv_value.specs.Tree.{Field}
use Rattle.dv_value.specs.Names.{bare, has_name, AreNamed}
use Rattle.dv_value.specs.Inner.Places.{Places, IsNameIndexOf}
use Rattle.dv_value.specs.Inner.ByteLaws.{bytes_eq-symmetric}
use Rattle.dv_value.proofs.ByText.{get-insert}
use Rattle.dv_value.specs.Inner.NameLaws.{named_apart}

-- counted from i, the last field is at n
position_from-push : (name : List ℕ) (i n : ℕ) (fs : List Field) (f : Field) → has_name f.0 fs ≡ false → n ≡ i + length fs → position_from (λ g. bytes_eq name g.0) i (fs ++ f ∷ []) ≡ cond (bytes_eq f.0 name) (Some n) (position_from (λ g. bytes_eq name g.0) i fs)
position_from-push name i n [] f fresh at_end = grind (arith, bytes_eq-symmetric name f.0)
position_from-push name i n (g ∷ fs) f fresh at_end =
    grind (arith, position_from-push name (i + 1) n fs f, (bytes_eq-Decides name g.0).0)

pub IsIndexOf-empty : IsNameIndexOf [] finite.empty
IsIndexOf-empty = record { finds = finite.get-empty _ }

pub IsIndexOf-push : (fs : List Field) (m : Places) (f : Field) (place : ℕ) → IsNameIndexOf fs m → has_name f.0 fs ≡ false → place ≡ length fs → IsNameIndexOf (fs ++ f ∷ []) (finite.insert m f.0 place)
IsIndexOf-push fs m f place index fresh at_end = record {
  finds = λ q. get-insert m f.0 place q ∙ ap (cond (bytes_eq f.0 q) (Some place)) (index.finds q) ∙ sym (position_from-push q 0 place fs f fresh (omega arith));
}

-- one more name is indexed
pub IsIndexOf-more : (ns : List (List ℕ)) (i : ℕ) (n : List ℕ) (m : Places) → i < length ns → n ≡ get_or ns i n → AreNamed (map bare ns) → IsNameIndexOf (map bare (take i ns)) m → IsNameIndexOf (map bare (take (i + 1) ns)) (finite.insert m n i)
IsIndexOf-more ns i n m within here named index =
    let so_far = map bare (take i ns) in
    let split : ns ≡ take i ns ++ n ∷ drop (i + 1) ns = sym (take-append-drop i ns) ∙ ap (λ l. take i ns ++ l) (drop_more ns i n within ∙ ap (λ x. x ∷ drop (i + 1) ns) (sym here)) in
    let all : map bare ns ≡ so_far ++ bare n ∷ map bare (drop (i + 1) ns) = ap (map bare) split ∙ map-append bare (take i ns) _ in
    let more : map bare (take (i + 1) ns) ≡ so_far ++ bare n ∷ [] = grind (arith, common_steps) in
    let place : i ≡ length so_far = grind (arith, common_steps) in
    rw more (IsIndexOf-push so_far m (bare n) i index (named_apart so_far _ (bare n) (subst AreNamed all named)) place)
