-- Worked examples, computed from the definitions alone.
use Rattle.std.proofs.Common.{◌≡◌, refl, true, [], ◌∷◌, Ok, Err, codes}
use Rattle.dv_value.specs.Tree.{null, boolean}
use Rattle.dv_candidates.specs.Candidates.{whole, leaves}
use Rattle.dv_path.specs.Expression.{expr}
use Rattle.dv_path.specs.LeafKeys.{leaf_values}
use Rattle.dv_candidates.specs.Path.{path_of}
use Rattle.dv_row.specs.ExpressionParsing.{expression_in}
use Rattle.dv_row.specs.Expressions.{value_of}
use Rattle.dv_gather.specs.Inner.Examples.{by, mixed, a_group, group_rows, group_row, after_group, a_lookup, seven, eight, nine, ten, after_lookup}
use Rattle.dv_value.specs.Short.{int, text, doc, list}
use Rattle.dv_gather.specs.GroupParsing.{group_in}
use Rattle.dv_gather.specs.Grouping.{accumulated, grouped}
use Rattle.dv_gather.specs.declared.accumulator.Accumulator.TheVariants.{Sum, Min, Max}
use Rattle.dv_row.specs.declared.fault.PipelineFault.TheVariants.{BadSpec}
use Rattle.dv_gather.specs.Groups.{groups_of}
use Rattle.dv_gather.specs.Joining.{joined_by}
use Rattle.dv_gather.specs.Lookups.{lookup_in, looked_up}
use Rattle.dv_gather.specs.Sums.{spelled}

pub rows_in_groups : after_group a_group group_rows ≡ Ok (group_row null (int 2) (int 2 ∷ []) (int 2) ∷ group_row (text (codes "a")) (int 3) (int 3 ∷ null ∷ []) (int 3) ∷ group_row (text (codes "b")) null [] (int 0) ∷ [])
unfolding group_in grouped groups_of expression_in value_of expr path_of spelled
rows_in_groups = refl

-- {_id: 1} and {_id: 2, p: [1, 2]}
pub rows_looked_up : after_lookup a_lookup (((codes "_id", int 1) ∷ []) ∷ ((codes "_id", int 2) ∷ (codes "p", list (int 1 ∷ int 2 ∷ [])) ∷ []) ∷ []) (seven ∷ eight ∷ nine ∷ ten ∷ [])
    ≡ Ok (((codes "_id", int 1) ∷ (codes "o", list (doc seven ∷ [])) ∷ []) ∷ ((codes "_id", int 2) ∷ (codes "p", list (int 1 ∷ int 2 ∷ [])) ∷ (codes "o", list (doc eight ∷ doc nine ∷ [])) ∷ []) ∷ [])
unfolding lookup_in looked_up joined_by leaf_values whole leaves path_of
rows_looked_up = refl

-- {n: {$sum: 1}}
pub no_key : group_in (doc (by (codes "n") (codes "$sum") (int 1) ∷ [])) ≡ Err BadSpec
unfolding group_in
no_key = refl

pub a_fifth_option : lookup_in (doc ((codes "from", text (codes "d")) ∷ (codes "localField", text (codes "p")) ∷ (codes "foreignField", text (codes "f")) ∷ (codes "as", text (codes "o")) ∷ (codes "pipeline", list []) ∷ [])) ≡ Err BadSpec
unfolding lookup_in
a_fifth_option = refl

pub mixed_least : accumulated Min mixed ≡ int 3
mixed_least = refl

pub mixed_greatest : accumulated Max mixed ≡ boolean true
mixed_greatest = refl

pub mixed_sum : accumulated Sum mixed ≡ int 3
unfolding spelled
mixed_sum = refl
