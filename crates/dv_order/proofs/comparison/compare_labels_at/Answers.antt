use Rattle.std.proofs.Common.{◌≡◌}
use Rattle.dv_value.specs.View.{tree}
use Rattle.dv_order.proofs.comparison.compare_labels_at.Goals as goal

pub returns : goal.returns
returns c = λ f g p q.
    let x : f ≡ (c.field.result.0.now, tree c.field.result.1.now) = cc in
    let y : g ≡ (c.field-2.result.0.now, tree c.field-2.result.1.now) = cc in
    rw (x, y) c.compare_labels.ensures
