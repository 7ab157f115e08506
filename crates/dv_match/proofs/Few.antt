-- Lists of one.
use Rattle.std.proofs.Common.{◌≡◌, ◌∙◌, ap, ap₂, refl, Bool, true, false, List, [], ◌∷◌, not, ◌||◌, ◌&&◌, codes, Ok}
use Rattle.std.proofs.Math.Bool.{and-true}
use Rattle.std.specs.List.{list_any}
use Rattle.dv_value.specs.Tree.{Tree, Field}
use Rattle.dv_candidates.specs.Candidates.{Candidate, whole, leaves}
use Rattle.dv_match.specs.Filter.{Members, none_of, no_filters, more_filters, equal, among, in_range, no_conditions, more_conditions}
use Rattle.dv_match.specs.Match.{is_equal, is_among, is_in_range, matches, matches_member, matches_any, meets, meets_all}
use Rattle.dv_match.specs.Parsing.{filter_in, conditions_in, operators_in, member_named, operator_named}
use Rattle.dv_match.specs.Inner.Examples.{answer}
use Rattle.dv_value.specs.Short.{one, doc, list, int}
use Rattle.dv_match.specs.declared.range.Range.{Range}
use Rattle.dv_candidates.specs.Path.{path_of, index_of}

or-none : (a : Bool) → a || false ≡ a
or-none true = refl
or-none false = refl

any-one : (v : Tree) (cs : List Candidate) → list_any (is_among (v ∷ [])) cs ≡ list_any (is_equal v) cs
any-one v [] = refl
any-one v (c ∷ cs) = ap₂ (λ a b. a || b) (or-none (is_equal v c)) (any-one v cs)

any-none : (cs : List Candidate) → list_any (is_among []) cs ≡ false
any-none [] = refl
any-none (c ∷ cs) = any-none cs

pub among_one : (v : Tree) (wholes parts : List Candidate) → meets (among (v ∷ [])) wholes parts ≡ meets (equal v) wholes parts
unfolding meets
among_one v wholes parts = any-one v parts

pub among_none : (wholes parts : List Candidate) → meets (among []) wholes parts ≡ false
unfolding meets
among_none wholes parts = any-none parts

pub nor_one : (f : Members) (d : List Field) → matches_member (none_of (more_filters f no_filters)) d ≡ not (matches f d)
unfolding matches_member matches_any
nor_one f d = ap not (or-none (matches f d))

pub interval : (r s : Range) (v w : Tree) (wholes : List Candidate) (c : Candidate) → meets_all (more_conditions (in_range r v) (more_conditions (in_range s w) no_conditions)) wholes (c ∷ []) ≡ (is_in_range r v c && is_in_range s w c)
unfolding meets_all meets
interval r s v w wholes c = ap₂ (λ a b. a && b) (or-none (is_in_range r v c)) (and-true (is_in_range s w c || false) ∙ or-none (is_in_range s w c))

pub bounds_apart : answer (one (codes "a") (doc ((codes "$gt", int 1) ∷ (codes "$lt", int 3) ∷ []))) (one (codes "a") (list (int 0 ∷ int 5 ∷ []))) ≡ Ok true
unfolding filter_in conditions_in operators_in member_named operator_named path_of whole leaves index_of matches matches_member meets_all meets
bounds_apart = refl
