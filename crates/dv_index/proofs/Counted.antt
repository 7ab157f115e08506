-- How many documents a find covers: all that match, and no more than there are.
use Rattle.std.proofs.Common.{◌≡◌, ℕ, ◌≤◌, arith, List, [], ◌∷◌, length, refl, sym, subst, Bool, true, false, cond, Option, Some, None, filter, slice_get}
use Rattle.std.proofs.lemmas.List.Sums.{count_by-le-length, length-filter}
use Rattle.dv_value.specs.Tree.{Field}
use Rattle.dv_value.specs.Inner.ListLaws.{filter-length}
use Rattle.dv_match.specs.Filter.{Condition, Members}
use Rattle.dv_match.specs.Match.{matches}
use Rattle.dv_keyed.specs.Choice.{chosen}
use Rattle.dv_index.specs.Indexed.{IndexedTree, documents_covered, paths_of}
use Rattle.dv_keyed.specs.Within.{has_within}
use Rattle.dv_index.specs.Search.{covered, covered_at}
use Rattle.dv_index.specs.Inner.IdLaws.{MatchesAreWithin}

-- if each item that passes a test passes another test, no fewer items pass the other
more-kept : {X : Type 0} (p q : X → Bool) → ((x : X) → p x ≡ true → q x ≡ true) → (xs : List X) → length (filter p xs) ≤ length (filter q xs)
more-kept p q h [] = omega arith
more-kept p q h (x ∷ xs) = at (p x) (q x) refl refl (more-kept p q h xs)
  where
    at : (a b : Bool) → p x ≡ a → q x ≡ b → length (filter p xs) ≤ length (filter q xs) → length (cond a (x ∷ filter p xs) (filter p xs)) ≤ length (cond b (x ∷ filter q xs) (filter q xs))
    at true true e f rest = omega arith
    at true false e f rest = absurd (let there = h x e in cc)
    at false true e f rest = omega arith
    at false false e f rest = rest

all_matching : MatchesAreWithin → (ms : Members) (paths : List (List (List ℕ))) (ds : List (List Field)) → length (filter (matches ms) ds) ≤ covered (chosen ms paths) paths ds
unfolding covered
all_matching law ms paths ds = by (chosen ms paths) refl
  where
    by : (o : Option (ℕ × Condition)) → chosen ms paths ≡ o → length (filter (matches ms) ds) ≤ covered o paths ds
    by None e = filter-length (matches ms) ds
    by (Some p) e =
        let plan = law ms paths p.0 p.1 e in
        let more : length (filter (matches ms) ds) ≤ covered_at (Some plan.0) p.1 ds = subst (λ n. length (filter (matches ms) ds) ≤ n) (length-filter (has_within p.1 plan.0) ds) (more-kept (matches ms) (has_within p.1 plan.0) plan.2 ds) in
        subst (λ o. length (filter (matches ms) ds) ≤ covered_at o p.1 ds) (sym plan.1) more

no_more : (o : Option (ℕ × Condition)) (paths : List (List (List ℕ))) (ds : List (List Field)) → covered o paths ds ≤ length ds
unfolding covered
no_more None paths ds = omega arith
no_more (Some p) paths ds = at (slice_get paths p.0)
  where
    at : (o : Option (List (List ℕ))) → covered_at o p.1 ds ≤ length ds
    at None = omega arith
    at (Some path) = count_by-le-length (has_within p.1 path) ds

pub at_least : MatchesAreWithin → (ms : Members) (c : IndexedTree) → length (filter (matches ms) c.documents) ≤ documents_covered ms c
at_least law ms c = all_matching law ms (paths_of c.indexes) c.documents

pub at_most : (ms : Members) (c : IndexedTree) → documents_covered ms c ≤ length c.documents
at_most ms c = no_more (chosen ms (paths_of c.indexes)) (paths_of c.indexes) c.documents
