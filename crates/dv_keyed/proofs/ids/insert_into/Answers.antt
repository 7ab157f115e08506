use Rattle.std.proofs.Common.{◌∙◌, ◌||◌, ap}
use Rattle.std.specs.BTreeSet.{contains}
use Rattle.std.specs.Ordering.{is_eq}
use Rattle.dv_order.specs.Key.{key_order}
use Rattle.dv_order.specs.Inner.KeyLaws.{equal-back}
use Rattle.dv_keyed.proofs.ids.insert_into.Goals as goal
use Rattle.dv_value.specs.Inner.ListLaws.{cond-or}

pub returns-clause-ok : goal.returns-clause-ok
returns-clause-ok c = λ i.
    let key = c.in_ok-try_clone.field-0 in
    let was = contains key_order c.args.found.now i in
    c.in_ok-insert.ensures.updates.0 i ∙ cond-or (is_eq (key_order key i)) was ∙ ap (λ b. was || b) (equal-back key i ∙ ap (λ l. is_eq (key_order i l)) c.in_ok-try_clone.ensures)
