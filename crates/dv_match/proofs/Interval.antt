-- A path that meets no array leads to one candidate.
use Rattle.std.proofs.Common.{◌≡◌, ◌∙◌, ap, refl, ℕ, true, ◌&&◌, List, [], ◌∷◌, ◌++◌, Some, None}
use Rattle.std.specs.List.{flat_map}
use Rattle.dv_value.specs.Tree.{Tree, document, array, Field, fields_of, list_of_fields}
use Rattle.dv_value.specs.Names.{value_under}
use Rattle.dv_candidates.specs.Candidates.{Candidate, candidates, whole, leaves, with_elements}
use Rattle.dv_match.specs.declared.range.Range.{Range}
use Rattle.dv_match.specs.Filter.{in_range, no_conditions, more_conditions}
use Rattle.dv_match.specs.Match.{is_in_range, meets_all}
use Rattle.dv_match.specs.Straight.{meets_no_array, end_of}
use Rattle.dv_match.proofs.Few.{interval}

missing-stays : (path : List (List ℕ)) → candidates path None ≡ None ∷ []
missing-stays [] = refl
missing-stays (name ∷ path) = ap (λ l. l ++ []) (missing-stays path)

one-candidate : (path : List (List ℕ)) (c : Candidate) → meets_no_array path c ≡ true → candidates path c ≡ end_of path c ∷ []
one-candidate [] c h = refl
one-candidate (name ∷ path) None h = missing-stays (name ∷ path)
one-candidate (name ∷ path) (Some (document fs)) h = ap (λ l. l ++ []) (one-candidate path (value_under name (list_of_fields fs)) h)
one-candidate (name ∷ path) (Some (array vs)) h = absurd cc
one-candidate (name ∷ path) (Some v) h = missing-stays (name ∷ path)

one-end : (path : List (List ℕ)) (c : Candidate) → meets_no_array path c ≡ true → with_elements (end_of path c) ≡ end_of path c ∷ []
one-end [] None h = refl
one-end [] (Some (array vs)) h = absurd cc
one-end [] (Some v) h = refl
one-end (name ∷ path) None h = refl
one-end (name ∷ path) (Some (document fs)) h = one-end path (value_under name (list_of_fields fs)) h
one-end (name ∷ path) (Some (array vs)) h = absurd cc
one-end (name ∷ path) (Some v) h = refl

pub straight-interval : (path : List (List ℕ)) (d : List Field) → meets_no_array path (Some (document (fields_of d))) ≡ true → (r s : Range) (v w : Tree) → meets_all (more_conditions (in_range r v) (more_conditions (in_range s w) no_conditions)) (whole d path) (leaves d path) ≡ (is_in_range r v (end_of path (Some (document (fields_of d)))) && is_in_range s w (end_of path (Some (document (fields_of d)))))
unfolding whole leaves
straight-interval path d h r s v w =
    let start : Candidate = Some (document (fields_of d)) in
    let end = end_of path start in
    let one = one-candidate path start h in
    let parts : leaves d path ≡ end ∷ [] = ap (flat_map with_elements) one ∙ ap (λ l. l ++ []) (one-end path start h) in
    ap (meets_all (more_conditions (in_range r v) (more_conditions (in_range s w) no_conditions)) (whole d path)) parts ∙ interval r s v w (whole d path) end
