use Rattle.std.proofs.Common.{Bor, ◌∙◌, ap, filter, map}
use Rattle.std.proofs.lemmas.Result.{IfOk-weaker}
use Rattle.dv_match.specs.Match.{matches}
use Rattle.dv_order.specs.Key.{KeyTree}
use Rattle.dv_keyed.specs.Inner.Keys.{has_key}
use Rattle.dv_keyed.specs.Inner.View.{bounds_seen}
use Rattle.dv_index.proofs.Gathered.{tried-all}
use Rattle.dv_index.proofs.search.tried_by_key.Goals as goal

pub returns : goal.returns
returns c =
    let ids = map (λ (l : Bor KeyTree). l.now) c.in_ok-ids.ids.items in
    IfOk-weaker c.documents_of.result _ _ (λ found is.
    ap (filter (matches c.args.filter.now)) is
    ∙ tried-all c.leaves_are_found_by_keys.ensures c.an_only_key_is_in_all_bounds.ensures c.args.index.now (bounds_seen c.args.bounds) c.args.filter.now (λ i. has_key i ids) c.in_ok-ids.ensures c.args.collection.now c.requires.indexed c.law_ascending.ensures.ascending c.requires.within) c.documents_of.ensures
