use Rattle.std.proofs.Common.{ap, sym, map, ◌∙◌}
use Rattle.dv_value.specs.View.{tree}
use Rattle.dv_coll.specs.Collection.{id_key}
use Rattle.dv_keyed.specs.Inner.Index.{form_of}
use Rattle.dv_keyed.specs.Inner.Interval.{is_in_all}
use Rattle.dv_keyed.specs.Inner.Keys.{has_key}
use Rattle.dv_catalog.specs.Inner.Equalities.{equals_in}
use Rattle.dv_catalog.proofs.Narrowed.{among_values, equal_asked, id_in_all}
use Rattle.dv_catalog.proofs.asked.asked_of_ids.Goals as goal

pub returns-in-Some : goal.returns-in-Some
returns-in-Some c =
    let are = ap (map form_of) c.as_slice.ensures.indexes ∙ c.in_ok-indexes.ensures in
    let asked = ap equals_in (sym c.choose-plan.ensures) ∙ sym c.in-Some.ensures in
    λ d h e. ap (has_key (id_key d)) c.in_ok-keys_of_each-in-Some.ensures ∙ among_values (id_key d) c.in-Some.values.now
    ∙ equal_asked c.what_matches_is_in_the_bounds.ensures c.keys_are_in_the_bounds_of_their_values.ensures c.args.filter.now c.as_slice.result.now (map tree c.in-Some.values.now) are asked d h e

pub returns : goal.returns
returns c = λ d h e. c.in_ok-of-in-None.ensures (id_key d) (ap (λ path. is_in_all (id_key d) path c.args.filter.now) c.id_path.ensures ∙ id_in_all c.an_only_key_is_in_all_bounds.ensures c.args.filter.now d h e)
