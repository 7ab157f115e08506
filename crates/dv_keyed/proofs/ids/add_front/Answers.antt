use Rattle.std.proofs.Common.{Bor, ◌∙◌, ◌++◌, ap, filter, map}
use Rattle.std.specs.BTreeMap.Range.{range_contains}
use Rattle.std.specs.declared.ops.Bound.TheVariants.{Excluded, Unbounded}
use Rattle.dv_order.specs.Key.{KeyTree, key_order}
use Rattle.dv_keyed.proofs.Few.{front-between}
use Rattle.dv_keyed.proofs.ids.add_front.Goals as goal

pub ids-init : goal.ids-init
ids-init c =
    let all = c.args.ids.now.keys in
    ap (λ ks. map (λ (k : Bor KeyTree). k.now) c.args.found.now.items ++ ks)
    (c.into_iter-id-iterator.ensures.into_iter_gives
    ∙ c.range-id-items.ensures.between tt
    ∙ ap (λ until. filter (range_contains key_order Unbounded (Excluded until)) all) c.in_ok-try_clone.ensures
    ∙ front-between c.args.until.now all)
