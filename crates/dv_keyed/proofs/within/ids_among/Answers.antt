use Rattle.std.proofs.Common.{◌∙◌, ap, map}
use Rattle.std.proofs.lemmas.Result.{IfOk-weaker}
use Rattle.dv_match.specs.Filter.{among}
use Rattle.dv_keyed.specs.Inner.Keys.{has_key}
use Rattle.dv_keyed.proofs.Ordered.{among-values, now}
use Rattle.dv_keyed.proofs.Points.{at-points}
use Rattle.dv_keyed.proofs.within.ids_among.Goals as goal

pub returns : goal.returns
returns c = IfOk-weaker c.ids_at_each.result _ _ (λ ids known i.
    at-points (among c.args.values.now) c.args.index.now (map now ids.items) i (map now c.deref-2.result.now) (λ k.
    ap (λ ids. has_key k (map now ids)) c.deref-2.ensures.value ∙ c.in_ok-ordered.ensures.same k ∙ among-values k c.in_ok-all.all.items c.in_ok-keys.keys.items c.as_slice.result.now c.args.values.now (c.in_ok-all.ensures ∙ c.deref.ensures.value) c.in_ok-keys.ensures c.as_slice.ensures) (known i)) c.ids_at_each.ensures
