use Rattle.std.proofs.Common.{Bor, ◌∙◌, ap, filter, map, subst}
use Rattle.std.proofs.lemmas.Result.{IfOk-weaker}
use Rattle.dv_order.specs.Key.{KeyTree}
use Rattle.dv_keyed.specs.Inner.Keys.{has_key}
use Rattle.dv_keyed.specs.Inner.Pairs.{has_pair}
use Rattle.dv_keyed.specs.Inner.View.{bounds_seen}
use Rattle.dv_keyed.specs.Inner.Decided.{HasKeyWithin}
use Rattle.dv_index.proofs.Gathered.{gathered-all, gathered-only}
use Rattle.dv_index.proofs.search.candidates_by_key.Goals as goal

pub returns-clause-all : goal.returns-clause-all
returns-clause-all c =
    let ids = map (λ (l : Bor KeyTree). l.now) c.in_ok-ids.ids.items in
    IfOk-weaker c.documents_of.result _ _ (λ found is test within.
    ap (filter test) is
    ∙ gathered-all c.leaves_are_found_by_keys.ensures c.args.index.now (bounds_seen c.args.bounds) (λ i. has_key i ids) (λ k i covered there. c.in_ok-ids.ensures.all k i covered (ap (has_pair k i) (c.as_pairs.ensures ∙ c.pairs.ensures) ∙ there)) test c.args.collection.now c.requires c.law_ascending.ensures.ascending within) c.documents_of.ensures

pub returns-clause-only : goal.returns-clause-only
returns-clause-only c =
    let ids = map (λ (l : Bor KeyTree). l.now) c.in_ok-ids.ids.items in
    let pairs = c.as_pairs.ensures ∙ c.pairs.ensures in
    let bounds = bounds_seen c.args.bounds in
    IfOk-weaker c.documents_of.result _ _ (λ found is point.
    is
    ∙ gathered-only c.leaves_are_found_by_keys.ensures c.args.index.now bounds (λ i. has_key i ids) (λ k i covered there. c.in_ok-ids.ensures.all k i covered (ap (has_pair k i) pairs ∙ there)) c.a_key_in_the_bounds_is_of_a_leaf_there.ensures (λ i e. subst (HasKeyWithin bounds i) pairs (c.in_ok-ids.ensures.only point i e)) c.args.collection.now c.requires c.law_ascending.ensures.ascending) c.documents_of.ensures
