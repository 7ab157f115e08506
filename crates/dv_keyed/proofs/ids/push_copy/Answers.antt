use Rattle.std.proofs.Common.{◌∙◌, ◌||◌, ap}
use Rattle.std.specs.Ordering.{is_eq}
use Rattle.dv_order.specs.Key.{key_order}
use Rattle.dv_keyed.specs.Inner.Keys.{has_key}
use Rattle.dv_keyed.proofs.Few.{one-behind}
use Rattle.dv_keyed.proofs.ids.push_copy.Goals as goal

pub returns-clause-ok : goal.returns-clause-ok
returns-clause-ok c = λ i.
    ap (has_key i) c.in_ok-push.ensures.items
    ∙ one-behind i c.in_ok-try_clone.field-0 c.args.ids.now.items
    ∙ ap (λ l. has_key i c.args.ids.now.items || is_eq (key_order i l)) c.in_ok-try_clone.ensures
