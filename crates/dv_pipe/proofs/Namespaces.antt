-- Namespaces, split at their first dot.
use Rattle.std.proofs.Common.{◌≡◌, ◌≢◌, ◌∙◌, ◌==◌, ap, ap₂, sym, refl, Bool, true, false, ◌&&◌, List, ◌∷◌, ◌++◌, ℕ, ◌<◌, length, get_or, Some, None, Bor, arith}
use Rattle.std.specs.List.{position_or_len}
use Rattle.std.specs.Str.{bytes_eq}
use Rattle.std.proofs.lemmas.List.{get_or-take, length-take}
use Rattle.std.proofs.lemmas.List.Sums.{fails_before_first}
use Rattle.std.proofs.lemmas.Slice.Eq.{bytes_eq-Decides}
use Rattle.std.proofs.lemmas.Str.Pattern.{IsSplitOnceResult, split_after, split_parts}
use Rattle.std.proofs.lemmas.Bool.{and_from}
use Rattle.dv_pipe.specs.Stages.{database_of, beside}
use Rattle.dv_value.specs.Inner.ListLaws.{same-truth}

no-dot : (source : List ℕ) (i : ℕ) → i < length (database_of source) → get_or (database_of source) i 0 ≢ 46
no-dot source i within is =
    let n = position_or_len (λ b. b == 46) source in
    let below : i < n = omega (arith, length-take n source) in
    let read = get_or-take n source i 0 below in
    let fails = fails_before_first (λ b. b == 46) source i 0 below in
    let same : (46 == 46) ≡ false = ap (λ b. b == 46) (sym is ∙ read) ∙ fails in
    cc

first-true : (a b : Bool) → a && b ≡ true → a ≡ true
first-true true b e = refl
first-true false b e = e

second-true : (a b : Bool) → a && b ≡ true → b ≡ true
second-true true b e = e
second-true false b e = cc

module _ (source collection namespace : List ℕ) where
  abbrev IsBeside : Type 0
  IsBeside = namespace ≡ beside source collection

  decided : (bytes_eq namespace (beside source collection) ≡ true → IsBeside) × (IsBeside → bytes_eq namespace (beside source collection) ≡ true)
  decided = bytes_eq-Decides namespace (beside source collection)

  pub beside-none : IsSplitOnceResult 46 namespace None → false ≡ bytes_eq namespace (beside source collection)
  beside-none split = same-truth false (bytes_eq namespace (beside source collection)) (λ e. absurd (let same : false ≡ true = e in cc)) (λ e. absurd (split_after 46 namespace (database_of source) collection None split (omega arith) (decided.0 e) (no-dot source)))

  module _ (d n : Bor (List ℕ)) (split : IsSplitOnceResult 46 namespace (Some (d, n))) (a b : Bool) (first : a ≡ bytes_eq d.now (database_of source)) (second : b ≡ bytes_eq n.now collection) where
    both : (a && b) ≡ bytes_eq namespace (beside source collection)
    both =
        same-truth (a && b) (bytes_eq namespace (beside source collection))
        (λ e. decided.1 ((split_parts 46 namespace (Some (d, n)) split (omega arith)).0 ∙ ap₂ (λ x y. x ++ 46 ∷ y) ((bytes_eq-Decides d.now (database_of source)).0 (sym first ∙ first-true a b e)) ((bytes_eq-Decides n.now collection).0 (sym second ∙ second-true a b e))))
        (λ e. let is : (d.now ≡ database_of source) × (n.now ≡ collection) = split_after 46 namespace (database_of source) collection (Some (d, n)) split (omega arith) (decided.0 e) (no-dot source) in and_from a b (first ∙ (bytes_eq-Decides d.now (database_of source)).1 is.0) (second ∙ (bytes_eq-Decides n.now collection).1 is.1))

    pub beside-second : a ≡ true → b ≡ bytes_eq namespace (beside source collection)
    beside-second e = ap (λ t. t && b) (sym e) ∙ both

    pub beside-not : a ≡ false → a ≡ bytes_eq namespace (beside source collection)
    beside-not e = e ∙ ap (λ t. t && b) (sym e) ∙ both
