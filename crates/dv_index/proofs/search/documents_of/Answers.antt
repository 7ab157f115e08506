use Rattle.std.proofs.Common.{◌∙◌, map, ap, filter}
use Rattle.std.proofs.lemmas.Result.{IfOk-weaker}
use Rattle.dv_coll.specs.Collection.{id_key}
use Rattle.dv_keyed.specs.Inner.Keys.{has_key}
use Rattle.dv_index.proofs.Picked.{now}
use Rattle.dv_index.proofs.search.documents_of.Goals as goal

pub returns : goal.returns
returns c =
    IfOk-weaker c.documents_under.result _ _ (λ found is.
    is ∙ ap (λ p. filter p c.args.collection.now) (λ j d. (ap (λ ids. has_key (id_key d) (map now ids)) c.deref.ensures.value ∙ c.in_ok-ordered.ensures.same (id_key d)) j)) c.documents_under.ensures
