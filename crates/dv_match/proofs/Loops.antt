-- A filter's parts, one after the other.
use Rattle.std.proofs.Common.{◌≡◌, ◌∙◌, ℕ, zero, suc, ◌<◌, ◌≤◌, get_or, length, arith, List, [], ◌∷◌, map, refl, ap, ◌||◌, ◌&&◌}
use Rattle.std.specs.List.{list_any, list_all}
use Rattle.dv_value.specs.Tree.{Field}
use Rattle.dv_candidates.specs.Candidates.{Candidate}
use Rattle.dv_match.specs.declared.form.Member as memory
use Rattle.dv_match.specs.declared.form.Condition as conditions
use Rattle.dv_match.specs.declared.form.Test as tests
use Rattle.dv_match.specs.declared.form.Test.TheVariants as kinds
use Rattle.dv_value.specs.declared.value.Value.{Value}
use Rattle.dv_value.specs.View.{tree}
use Rattle.dv_value.specs.Inner.TreeLaws.{fields_again}
use Rattle.dv_match.specs.Filter.{Members, members_of, filters_of, conditions_of}
use Rattle.dv_match.specs.Inner.Filter.{condition_weight, conditions_weight}
use Rattle.dv_match.specs.Match.{matches, matches_member, matches_all, matches_any, meets, meets_all, passes}
use Rattle.dv_match.specs.View.{member, condition, test}

pub matches-each : (ms : List memory.Member) (d : List Field) → matches (members_of (map member ms)) d ≡ list_all (λ m. matches_member (member m) d) ms
unfolding matches
matches-each [] d = refl
matches-each (m ∷ ms) d = ap (λ b. matches_member (member m) d && b) (matches-each ms d)

pub all-each : (fs : List Members) (d : List Field) → matches_all (filters_of fs) d ≡ list_all (λ f. matches f d) fs
unfolding matches_all
all-each [] d = refl
all-each (f ∷ fs) d = ap (λ b. matches f d && b) (all-each fs d)

pub any-each : (fs : List Members) (d : List Field) → matches_any (filters_of fs) d ≡ list_any (λ f. matches f d) fs
unfolding matches_any
any-each [] d = refl
any-each (f ∷ fs) d = ap (λ b. matches f d || b) (any-each fs d)

pub meets-each : (cs : List conditions.Condition) (wholes parts : List Candidate) → meets_all (conditions_of (map condition cs)) wholes parts ≡ list_all (λ c. meets (condition c) wholes parts) cs
unfolding meets_all
meets-each [] wholes parts = refl
meets-each (c ∷ cs) wholes parts = ap (λ b. meets (condition c) wholes parts && b) (meets-each cs wholes parts)

pub condition-weighs : (cs : List conditions.Condition) (i : ℕ) (c : conditions.Condition) → i < length cs → c ≡ get_or cs i c → condition_weight (condition c) ≤ conditions_weight (conditions_of (map condition cs))
condition-weighs [] i c within is = absurd (omega arith)
condition-weighs (d ∷ cs) zero c within is = omega (arith, ap (λ x. condition_weight (condition x)) is)
condition-weighs (d ∷ cs) (suc i) c within is = omega (arith, condition-weighs cs i c (omega arith) is)

pub passes-document : (t : tests.Test) (ms : Members) (v : Value) (d : List Field) → t ≡ kinds.Matches ms → v ≡ Value.Doc d → passes (test t) (tree v) ≡ matches ms d
unfolding passes
passes-document t ms v d e f = ap (λ x. passes (test x) (tree v)) e ∙ ap (λ x. passes (test (kinds.Matches ms)) (tree x)) f ∙ ap (matches ms) (fields_again d)
