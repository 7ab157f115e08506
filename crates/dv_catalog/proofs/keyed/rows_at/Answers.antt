use Rattle.std.proofs.Common.{ap, filter, ◌∙◌}
use Rattle.std.proofs.lemmas.Cmp.{tied_itself}
use Rattle.std.proofs.lemmas.Result.{IfOk-weaker}
use Rattle.std.specs.BTreeMap.Range.{range_contains}
use Rattle.std.specs.Ordering.{is_gt}
use Rattle.std.specs.declared.ops.Bound.TheVariants.{Included}
use Rattle.dv_order.specs.Key.{key_order}
use Rattle.dv_order.specs.Inner.KeyLaws.{key_order_total}
use Rattle.dv_coll.specs.Collection.{id_key}
use Rattle.dv_catalog.proofs.Narrowed.{at_key}
use Rattle.dv_catalog.proofs.keyed.rows_at.Goals as goal

pub rows_within-requires : goal.rows_within-requires
rows_within-requires c = (λ i. is_gt (key_order (c.in_ok-low.ensures i) (c.in_ok-high.ensures i))) ∙ ap is_gt (tied_itself key_order_total c.args.key.now)

pub returns : goal.returns
returns c =
    let rows = c.args.rows.now in
    IfOk-weaker c.rows_within.result _ _ (λ at is.
    is ∙ (λ j. filter (λ d. range_contains key_order (Included (c.in_ok-low.ensures j)) (Included (c.in_ok-high.ensures j)) (id_key d)) rows) ∙ (λ j. filter (λ d. at_key (id_key d) c.args.key.now j) rows)) c.rows_within.ensures
