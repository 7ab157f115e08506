-- If no list is named, each list is in order.
use Rattle.std.proofs.Common.{◌≡◌, ℕ, List, [], ◌∷◌, sym, subst}
use Rattle.std.specs.List.{AllByRecursion}
use Rattle.std.specs.List.Sorted.{IsStrictlySortedBy}
use Rattle.dv_pipe.specs.Sources.{Source, lists_of}
use Rattle.dv_views.specs.Inner.Views.{AreInOrder}

none_in_order : AreInOrder []
unfolding IsStrictlySortedBy
none_in_order = (tt, tt)

pub unnamed_in_order : (sources : List Source) → sources ≡ [] → (names : List (List ℕ)) → AllByRecursion (λ name. AreInOrder (lists_of sources name)) names
unnamed_in_order sources none [] = tt
unnamed_in_order sources none (name ∷ names) = (subst (λ (s : List Source). AreInOrder (lists_of s name)) (sym none) none_in_order, unnamed_in_order sources none names)
