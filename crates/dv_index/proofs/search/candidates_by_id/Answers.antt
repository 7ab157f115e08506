use Rattle.std.proofs.Common.{◌≡◌, ◌∙◌, ap, sym, filter, true, false}
use Rattle.std.proofs.lemmas.Result.{IfOk-weaker}
use Rattle.dv_value.specs.View.{tree}
use Rattle.dv_coll.specs.Collection.{id_key}
use Rattle.dv_match.specs.Filter.{among, equal}
use Rattle.dv_path.specs.LeafKeys.{is_key_of, is_some_key}
use Rattle.dv_keyed.specs.Inner.Within.{covers}
use Rattle.dv_keyed.specs.Choice.{is_point}
use Rattle.dv_keyed.specs.Index.{id_form}
use Rattle.dv_keyed.specs.Inner.View.{bounds_seen}
use Rattle.dv_keyed.specs.Within.{has_within}
use Rattle.dv_index.proofs.Gathered.{gathered-ids, only-ids}
use Rattle.dv_index.proofs.search.candidates_by_id.Goals as goal

pub returns-in-Equal-clause-all : goal.returns-in-Equal-clause-all
returns-in-Equal-clause-all c = IfOk-weaker c.with_id.result _ _ (λ found is test within.
    ap (filter test) is
    ∙ gathered-ids c.keys_are_in_the_bounds_of_their_values.ensures (bounds_seen c.args.bounds) (λ k. is_key_of k (tree c.in-Equal.value.now)) (λ k covered.
    ap (λ b. covers (bounds_seen b) k) (sym c.in-Equal.is) ∙ covered) test c.args.collection.now c.law_ascending.ensures.identified within) c.with_id.ensures

pub returns-in-Among-clause-all : goal.returns-in-Among-clause-all
returns-in-Among-clause-all c = IfOk-weaker c.with_ids.result _ _ (λ found is test within.
    ap (filter test) is
    ∙ gathered-ids c.keys_are_in_the_bounds_of_their_values.ensures (bounds_seen c.args.bounds) (λ k. is_some_key k c.values.result.now) (λ k covered.
    ap (is_some_key k) c.values.ensures ∙ ap (λ b. covers (bounds_seen b) k) (sym c.in-Among.is) ∙ covered) test c.args.collection.now c.law_ascending.ensures.identified within) c.with_ids.ensures

pub returns-in-Within-clause-all : goal.returns-in-Within-clause-all
returns-in-Within-clause-all c = IfOk-weaker c.with_ids_within.result _ _ (λ found within-range test within.
    ap (filter test) within-range.2
    ∙ gathered-ids c.keys_are_in_the_bounds_of_their_values.ensures (bounds_seen c.args.bounds) within-range.0 (λ k covered. within-range.1 k (ap (λ b. covers (bounds_seen b) k) (sym c.in-Within.is) ∙ covered)) test c.args.collection.now c.law_ascending.ensures.identified within) c.with_ids_within.ensures

pub returns-in-Equal-clause-only : goal.returns-in-Equal-clause-only
returns-in-Equal-clause-only c =
    IfOk-weaker c.with_id.result _ _ (λ found is point.
    is
    ∙ only-ids c.keys_are_in_the_bounds_of_their_values.ensures (equal (tree c.in-Equal.value.now)) c.args.collection.now c.law_ascending.ensures.identified
    ∙ ap (λ b. filter (has_within (bounds_seen b) id_form.path) c.args.collection.now) (sym c.in-Equal.is)) c.with_id.ensures

pub returns-in-Among-clause-only : goal.returns-in-Among-clause-only
returns-in-Among-clause-only c = IfOk-weaker c.with_ids.result _ _ (λ found is point.
    is
    ∙ ap (λ vs. filter (λ d. is_some_key (id_key d) vs) c.args.collection.now) c.values.ensures
    ∙ only-ids c.keys_are_in_the_bounds_of_their_values.ensures (among c.in-Among.choices.now) c.args.collection.now c.law_ascending.ensures.identified
    ∙ ap (λ b. filter (has_within (bounds_seen b) id_form.path) c.args.collection.now) (sym c.in-Among.is)) c.with_ids.ensures

pub returns-in-Within-clause-only : goal.returns-in-Within-clause-only
returns-in-Within-clause-only c =
    IfOk-weaker c.with_ids_within.result _ _ (λ found known point. absurd (let none : false ≡ true = ap (λ b. is_point (bounds_seen b)) (sym c.in-Within.is) ∙ point in cc)) c.with_ids_within.ensures
