use Rattle.std.proofs.Common.{◌∙◌, ap, filter}
use Rattle.std.proofs.lemmas.Result.{IfOk-weaker}
use Rattle.dv_coll.specs.Collection.{id_key}
use Rattle.dv_index.proofs.Picked.{among-values}
use Rattle.dv_index.proofs.search.with_ids.Goals as goal

pub returns : goal.returns
returns c =
    IfOk-weaker c.documents_of.result _ _ (λ found is.
    is ∙ ap (λ p. filter p c.args.collection.now) (λ j d. among-values (id_key d) c.in_ok-ids.ids.items c.in_ok-keys.keys.items c.as_slice.result.now c.args.values.now (c.in_ok-ids.ensures ∙ c.deref.ensures.value) c.in_ok-keys.ensures c.as_slice.ensures j)) c.documents_of.ensures
