use Rattle.std.proofs.Common.{◌∙◌, ◌∷◌, [], ap, sym}
use Rattle.dv_row.specs.ExpressionView.{named}
use Rattle.dv_row.specs.ProjectParsing.{one_begins}
use Rattle.dv_row.proofs.Items.{any-here}
use Rattle.dv_row.proofs.asked.any_field.Goals as goal

pub returns-then-begins_with : goal.returns-then-begins_with
returns-then-begins_with c =
    sym (any-here (λ f. one_begins c.args.path.now (f.0 ∷ [])) named c.args.fields.now c.fields.field-index c.field-item.result c.fields-test.true c.field-item.is (ap (λ n. one_begins c.args.path.now (n ∷ [])) (sym c.as_str.ensures) ∙ sym c.begins_with.ensures ∙ c.if-begins_with.true))
