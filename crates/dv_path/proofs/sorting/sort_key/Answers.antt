use Rattle.std.proofs.Common.{◌∙◌, ap, sym, rules}
use Rattle.std.proofs.lemmas.Result.{IfOk-weaker}
use Rattle.dv_candidates.specs.Candidates.{whole}
use Rattle.dv_candidates.specs.View.{seen}
use Rattle.dv_path.specs.SortKey.{sort_key}
use Rattle.dv_path.proofs.Earliest.{Laws, or_null, folded-key}
use Rattle.dv_path.proofs.sorting.sort_key.Goals as goal

pub returns-in-Some : goal.returns-in-Some
unfolding sort_key
returns-in-Some c =
    let laws : Laws = record { same = c.equal_is_same_but_for_widths.ensures; stand = c.keys_stand_as_their_values.ensures; apart = c.no_element_stands_beside_no_value.ensures } in
    ap or_null (sym c.in-Some.is) ∙ folded-key seen _ c.args.direction (λ t x u h. search (rules, h.1, h)) laws (whole c.args.document.now c.args.path.now) c.in_ok-earliest.earliest c.in_ok-earliest.ensures.outcome

pub returns-in-None : goal.returns-in-None
unfolding sort_key
returns-in-None c =
    let laws : Laws = record { same = c.equal_is_same_but_for_widths.ensures; stand = c.keys_stand_as_their_values.ensures; apart = c.no_element_stands_beside_no_value.ensures } in
    let is = ap or_null (sym c.in-None.is) ∙ folded-key seen _ c.args.direction (λ t x u h. search (rules, h.1, h)) laws (whole c.args.document.now c.args.path.now) c.in_ok-earliest.earliest c.in_ok-earliest.ensures.outcome in
    IfOk-weaker c.key_of.result _ _ (λ k e. e ∙ is) c.key_of.ensures
