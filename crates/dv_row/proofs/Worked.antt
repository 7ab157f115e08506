-- Worked examples, computed from the definitions alone.
use Rattle.std.proofs.Common.{◌≡◌, refl, [], ◌∷◌, Ok, Err, codes}
use Rattle.dv_value.specs.Tree.{Tree, null}
use Rattle.dv_path.specs.Expression.{expr}
use Rattle.dv_candidates.specs.Path.{path_of}
use Rattle.dv_row.specs.declared.fault.PipelineFault.TheVariants.{BadSpec}
use Rattle.dv_row.specs.Inner.Examples.{shown}
use Rattle.dv_value.specs.Short.{int, long, text, doc, list}
use Rattle.dv_row.specs.ExpressionParsing.{expression_in}
use Rattle.dv_row.specs.Expressions.{value_of, with_computed}
use Rattle.dv_row.specs.Parsing.{unwind_in}
use Rattle.dv_row.specs.Projecting.{projected, left_inside, fields_left, elements_left}
use Rattle.dv_row.specs.ProjectParsing.{project_in}

pub arrays_stay : shown ((codes "a.c", int 1) ∷ (codes "b.c", int 1) ∷ []) ((codes "_id", int 1) ∷ (codes "a", list (int 7 ∷ [])) ∷ (codes "b", list []) ∷ []) ≡ Ok ((codes "_id", int 1) ∷ (codes "a", list []) ∷ (codes "b", list []) ∷ [])
unfolding project_in projected left_inside fields_left elements_left with_computed path_of expression_in
arrays_stay = refl

pub a_long_on : shown ((codes "a", long 1) ∷ []) ((codes "_id", int 1) ∷ (codes "a", int 5) ∷ (codes "b", int 6) ∷ []) ≡ Ok ((codes "_id", int 1) ∷ (codes "a", int 5) ∷ [])
unfolding project_in projected left_inside fields_left elements_left with_computed path_of expression_in
a_long_on = refl

pub a_long_off : shown ((codes "a", long 0) ∷ []) ((codes "_id", int 1) ∷ (codes "a", int 5) ∷ (codes "b", int 6) ∷ []) ≡ Ok ((codes "_id", int 1) ∷ (codes "b", int 6) ∷ [])
unfolding project_in projected left_inside fields_left elements_left with_computed path_of expression_in
a_long_off = refl

-- `_id` first, then what is included, then what is computed, although that was written first
pub computed_behind : shown ((codes "x", text (codes "$b")) ∷ (codes "y", text (codes "$c")) ∷ (codes "a", int 1) ∷ []) ((codes "_id", int 1) ∷ (codes "a", int 5) ∷ (codes "b", int 6) ∷ []) ≡ Ok ((codes "_id", int 1) ∷ (codes "a", int 5) ∷ (codes "x", int 6) ∷ [])
unfolding project_in projected left_inside fields_left elements_left with_computed value_of expr path_of expression_in
computed_behind = refl

pub id_stays_included : (id a b : Tree) → shown ((codes "a", int 1) ∷ []) ((codes "_id", id) ∷ (codes "a", a) ∷ (codes "b", b) ∷ []) ≡ Ok ((codes "_id", id) ∷ (codes "a", a) ∷ [])
unfolding project_in projected left_inside fields_left elements_left with_computed path_of expression_in
id_stays_included id a b = refl

pub id_stays_excluded : (id a b : Tree) → shown ((codes "a", int 0) ∷ []) ((codes "_id", id) ∷ (codes "a", a) ∷ (codes "b", b) ∷ []) ≡ Ok ((codes "_id", id) ∷ (codes "b", b) ∷ [])
unfolding project_in projected left_inside fields_left elements_left with_computed path_of expression_in
id_stays_excluded id a b = refl

pub id_goes_alone : (id a b : Tree) → shown ((codes "_id", int 0) ∷ []) ((codes "_id", id) ∷ (codes "a", a) ∷ (codes "b", b) ∷ []) ≡ Ok ((codes "a", a) ∷ (codes "b", b) ∷ [])
unfolding project_in projected left_inside fields_left elements_left with_computed path_of expression_in
id_goes_alone id a b = refl

pub id_goes_included : (id a b : Tree) → shown ((codes "a", int 1) ∷ (codes "_id", int 0) ∷ []) ((codes "_id", id) ∷ (codes "a", a) ∷ (codes "b", b) ∷ []) ≡ Ok ((codes "a", a) ∷ [])
unfolding project_in projected left_inside fields_left elements_left with_computed path_of expression_in
id_goes_included id a b = refl

pub id_goes_excluded : (id a b : Tree) → shown ((codes "a", int 0) ∷ (codes "_id", int 0) ∷ []) ((codes "_id", id) ∷ (codes "a", a) ∷ (codes "b", b) ∷ []) ≡ Ok ((codes "b", b) ∷ [])
unfolding project_in projected left_inside fields_left elements_left with_computed path_of expression_in
id_goes_excluded id a b = refl

pub a_dollar_alone : project_in (doc ((codes "x", text (codes "$")) ∷ [])) ≡ Err BadSpec
unfolding project_in expression_in path_of
a_dollar_alone = refl

pub an_empty_component : project_in (doc ((codes "x", text (codes "$a..b")) ∷ [])) ≡ Err BadSpec
unfolding project_in expression_in path_of
an_empty_component = refl

pub a_switch_inside : project_in (doc ((codes "x", doc ((codes "y", long 1) ∷ [])) ∷ [])) ≡ Err BadSpec
unfolding project_in expression_in path_of
a_switch_inside = refl

pub computed_after_excluded : project_in (doc ((codes "a", int 0) ∷ (codes "x", text (codes "$b")) ∷ [])) ≡ Err BadSpec
unfolding project_in expression_in path_of
computed_after_excluded = refl

pub excluded_after_computed : project_in (doc ((codes "x", text (codes "$b")) ∷ (codes "a", int 0) ∷ [])) ≡ Err BadSpec
unfolding project_in expression_in path_of
excluded_after_computed = refl

pub a_part_of_id : project_in (doc ((codes "_id.x", int 0) ∷ [])) ≡ Err BadSpec
unfolding project_in expression_in path_of
a_part_of_id = refl

pub unwinding_a_dollar : unwind_in (text (codes "$")) ≡ Err BadSpec
unfolding unwind_in path_of
unwinding_a_dollar = refl

pub preserving_null : unwind_in (doc ((codes "path", text (codes "$a")) ∷ (codes "preserveNullAndEmptyArrays", null) ∷ [])) ≡ Err BadSpec
unfolding unwind_in path_of
preserving_null = refl
