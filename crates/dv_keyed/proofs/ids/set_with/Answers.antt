use Rattle.std.proofs.Common.{◌∙◌, ◌||◌, ap, sym, take_all}
use Rattle.std.specs.List.{list_any}
use Rattle.std.specs.Ordering.{is_eq}
use Rattle.dv_order.specs.Key.{key_order}
use Rattle.dv_keyed.proofs.ids.set_with.Goals as goal
use Rattle.dv_keyed.specs.Inner.ListLaws.{any-one-more}

pub ids-preserved : goal.ids-preserved
ids-preserved c = λ i.
    c.in_ok-insert_into.ensures.ok i
    ∙ ap (λ b. b || is_eq (key_order i c.other-item.result)) (c.ids.invariant i)
    ∙ sym (any-one-more (λ l. is_eq (key_order i l)) c.args.ids.now c.ids.other-index c.other-item.result c.ids-test.true c.other-item.is)

pub returns : goal.returns
returns c = λ i.
    c.in_ok-insert_into-2.ensures.ok i
    ∙ ap (λ b. b || is_eq (key_order i c.args.id.now)) (c.ids.invariant i ∙ ap (list_any (λ l. is_eq (key_order i l))) (take_all c.ids.other-index c.args.ids.now c.ids-test.false))
