use Rattle.std.proofs.Common.{◌≡◌, ◌∙◌, ap, ap₂, sym, map, drop, ◌+◌}
use Rattle.dv_row.specs.Expressions.{computed_of, with_computed, with_field_behind, value_of}
use Rattle.dv_row.specs.ExpressionView.{expression_seen, named}
use Rattle.dv_row.proofs.Items.{drop-read, drop-past}
use Rattle.dv_row.proofs.expr.+values.Goals as goal
use Rattle.dv_row.proofs.expr.+values.Goals.{Computed::push_values-in-Some+in_ok-show_field-in-Some, Computed::push_values-in-None+in_ok-value-in-None+in_ok-push_field-in-None}

pub Computed::push_values-fields-preserved : goal.Computed::push_values-fields-preserved
unfolding with_computed
Computed::push_values-fields-preserved t c =
    let fields = c.deref-field-items.result.now in
    let row = c.args.row.now in
    let f = c.field-item.result in
    let pushed : c.match-place_in.document ≡ with_field_behind f.name (value_of (expression_seen f.expr) row) c.fields.document =
    elim c.match-place_in.branch [
      | Computed::push_values-in-Some+in_ok-show_field-in-Some w ↦ w.document-is ∙ w.in_ok-show_field-in-Some.ensures.ok ∙ ap₂ (λ n v. with_field_behind n v c.fields.document) c.as_str-name.ensures w.in-Some.ensures.value
      | Computed::push_values-in-None+in_ok-value-in-None+in_ok-push_field-in-None w ↦ w.document-is ∙ w.in_ok-push_field-in-None.ensures.ok ∙ ap₂ (λ n v. with_field_behind n v c.fields.document) c.as_str-name.ensures w.in_ok-value-in-None.ensures
    ] in
    let read = drop-read fields c.fields.field-index f c.fields-test.true c.field-item.is in
    ap (with_computed (computed_of (map named (drop (c.fields.field-index + 1) fields))) row) pushed ∙ ap (λ l. with_computed (computed_of (map named l)) row c.fields.document) (sym read) ∙ c.fields.invariant

pub Computed::push_values-returns : goal.Computed::push_values-returns
unfolding with_computed
Computed::push_values-returns t c =
    let fields = c.deref-field-items.result.now in
    let seen : computed_of (map named fields) ≡ c.args.self.now = cc in
    ap (λ l. with_computed (computed_of (map named l)) c.args.row.now c.fields.document) (sym (drop-past fields c.fields.field-index c.fields-test.false)) ∙ c.fields.invariant ∙ ap (λ es. with_computed es c.args.row.now c.args.document.now) seen
