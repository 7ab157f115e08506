use Rattle.std.proofs.Common.{◌∙◌, ap, filter, reverse}
use Rattle.std.specs.BTreeMap.Range.{range_contains}
use Rattle.std.specs.Map.{values_of}
use Rattle.dv_order.specs.Key.{key_order}
use Rattle.dv_coll.specs.Collection.{id_key}
use Rattle.dv_coll.proofs.Walked.{values_between}
use Rattle.dv_coll.proofs.collection.Collection.between_from_last.Goals as goal

pub returns : goal.returns
returns c =
    let inside = range_contains key_order c.args.low c.args.high in
    c.of.ensures
    ∙ ap reverse (ap values_of (c.range.ensures.between tt)
    ∙ values_between inside c.self.inside.documents.entries c.self.invariant.keys
    ∙ ap (filter (λ d. inside (id_key d))) c.self.view_is)
