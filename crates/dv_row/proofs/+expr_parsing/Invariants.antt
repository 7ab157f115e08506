use Rattle.std.proofs.Common.{◌≡◌, ◌≤◌, ◌+◌, ◌*◌, map}
use Rattle.dv_value.specs.Results.{each}
use Rattle.dv_value.specs.Tree.{fields_of}
use Rattle.dv_value.specs.Inner.Tree.{fields_weight, weight}
use Rattle.dv_value.specs.View.{tree}
use Rattle.dv_row.specs.ExpressionView.{named}
use Rattle.dv_row.specs.Inner.EachLaws.{after_each}
use Rattle.dv_row.proofs.Members.{computed_field}
use Rattle.dv_row.proofs.+expr_parsing.Given as goal

abbrev pub decreases-expr::Expr::parse_where : goal.decreases-expr::Expr::parse_where
decreases-expr::Expr::parse_where l = 4 * weight (tree l.value.now) + 2

abbrev pub decreases-expr_parsing::document_expression : goal.decreases-expr_parsing::document_expression
decreases-expr_parsing::document_expression l = 4 * fields_weight (fields_of l.document.now) + 5

abbrev pub decreases-expr::Computed::parse : goal.decreases-expr::Computed::parse
decreases-expr::Computed::parse l = 4 * fields_weight (fields_of l.document.now) + 4

abbrev pub decreases-expr_parsing::field_of : goal.decreases-expr_parsing::field_of
decreases-expr_parsing::field_of l = 4 * weight (tree l.value.now) + 3

abbrev pub invariant-expr::Computed::parse-fields : goal.invariant-expr::Computed::parse-fields
invariant-expr::Computed::parse-fields l =
    record {
      so_far : each (computed_field l.plain) l.document ≡ after_each (map named l.fields.items) (each (computed_field l.plain) l.name-iterator);
      smaller : fields_weight (fields_of l.name-iterator) ≤ fields_weight (fields_of l.document);
    }
