use Rattle.std.proofs.Common.{◌∙◌, ◌++◌, map, ap, sym, filter, take_all}
use Rattle.std.specs.Ordering.{is_eq}
use Rattle.dv_coll.specs.Collection.{id_key}
use Rattle.dv_order.specs.Key.{key_order}
use Rattle.dv_index.proofs.Picked.{each, each-all, now, one-key-more}
use Rattle.dv_index.proofs.search.documents_under.Goals as goal

pub ids-preserved : goal.ids-preserved
ids-preserved c =
    let ds = c.args.collection.now in
    c.in_ok-add_document.ensures
    ∙ ap (λ es. es ++ filter (λ d. is_eq (key_order (id_key d) c.id-item.result.now)) ds) c.ids.invariant
    ∙ sym (one-key-more ds c.args.ids.now c.ids.id-index c.id-item.result c.ids-test.true c.id-item.is)

pub returns : goal.returns
returns c =
    c.ids.invariant
    ∙ ap (λ ids. each (map now ids) c.args.collection.now) (take_all c.ids.id-index c.args.ids.now c.ids-test.false)
    ∙ each-all (map now c.args.ids.now) c.args.collection.now c.requires c.law_ascending.ensures.ascending
