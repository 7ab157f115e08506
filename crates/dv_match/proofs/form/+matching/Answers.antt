use Rattle.std.proofs.Common.{◌∙◌, ap, sym, arith}
use Rattle.std.specs.List.{list_any, list_all}
use Rattle.dv_value.specs.View.{tree}
use Rattle.dv_match.specs.Inner.Asked.{wholes, parts}
use Rattle.dv_match.specs.Inner.Filter.{members_weight, filters_weight, conditions_weight}
use Rattle.dv_match.specs.Match.{matches, matches_all, matches_any, matches_member, meets, meets_all, passes}
use Rattle.dv_match.specs.View.{member, condition, test}
use Rattle.dv_match.specs.Inner.FilterLaws.{member-weighs, filter-weighs}
use Rattle.dv_match.proofs.Arrays.{array-elements}
use Rattle.dv_match.proofs.Items.{any-here, any-nowhere, any-at, all-at, whole-list}
use Rattle.dv_match.proofs.Loops.{matches-each, all-each, any-each, meets-each, condition-weighs, passes-document}
use Rattle.dv_match.proofs.form.+matching.Goals as goal

pub Filter::matches-matches-requires : goal.Filter::matches-matches-requires
Filter::matches-matches-requires t c =
    let ms = c.members-member-items.result.now in
    (omega (arith, member-weighs ms c.loop-member.member-index c.member-item.result c.loop-member-test.true c.member-item.is, ap members_weight c.members-member-items.ensures), tt)

pub Filter::matches-returns-then-not-matches : goal.Filter::matches-returns-then-not-matches
Filter::matches-returns-then-not-matches t c =
    let ms = c.members-member-items.result.now in
    let d = c.args.document.now in
    sym (ap (λ f. matches f d) (sym c.members-member-items.ensures) ∙ matches-each ms d ∙ all-at (λ m. matches_member (member m) d) ms c.loop-member.member-index c.member-item.result c.loop-member-test.true c.member-item.is (sym c.if-not-matches.ensures))

pub Filter::matches-returns : goal.Filter::matches-returns
Filter::matches-returns t c =
    let ms = c.members-member-items.result.now in
    let d = c.args.document.now in
    sym (ap (λ f. matches f d) (sym c.members-member-items.ensures) ∙ matches-each ms d ∙ ap (list_all (λ m. matches_member (member m) d)) (whole-list c.loop-member.member-index ms c.loop-member-test.false) ∙ c.loop-member.invariant)

pub Filters::all_match-matches-requires : goal.Filters::all_match-matches-requires
Filters::all_match-matches-requires t c =
    let fs = c.as_slice-filter-items.result.now in
    (omega (arith, filter-weighs fs c.loop-filter.filter-index c.filter-item.result c.loop-filter-test.true c.filter-item.is, ap filters_weight c.as_slice-filter-items.ensures), tt)

pub Filters::all_match-returns-then-not-matches : goal.Filters::all_match-returns-then-not-matches
Filters::all_match-returns-then-not-matches t c =
    let fs = c.as_slice-filter-items.result.now in
    let d = c.args.document.now in
    sym (ap (λ f. matches_all f d) (sym c.as_slice-filter-items.ensures) ∙ all-each fs d ∙ all-at (λ f. matches f d) fs c.loop-filter.filter-index c.filter-item.result c.loop-filter-test.true c.filter-item.is (sym c.if-not-matches.ensures))

pub Filters::all_match-returns : goal.Filters::all_match-returns
Filters::all_match-returns t c =
    let fs = c.as_slice-filter-items.result.now in
    let d = c.args.document.now in
    sym (ap (λ f. matches_all f d) (sym c.as_slice-filter-items.ensures) ∙ all-each fs d ∙ ap (list_all (λ f. matches f d)) (whole-list c.loop-filter.filter-index fs c.loop-filter-test.false) ∙ c.loop-filter.invariant)

pub Filters::any_matches-matches-requires : goal.Filters::any_matches-matches-requires
Filters::any_matches-matches-requires t c =
    let fs = c.as_slice-filter-items.result.now in
    (omega (arith, filter-weighs fs c.loop-filter.filter-index c.filter-item.result c.loop-filter-test.true c.filter-item.is, ap filters_weight c.as_slice-filter-items.ensures), tt)

pub Filters::any_matches-returns-then-matches : goal.Filters::any_matches-returns-then-matches
Filters::any_matches-returns-then-matches t c =
    let fs = c.as_slice-filter-items.result.now in
    let d = c.args.document.now in
    sym (ap (λ f. matches_any f d) (sym c.as_slice-filter-items.ensures) ∙ any-each fs d ∙ any-at (λ f. matches f d) fs c.loop-filter.filter-index c.filter-item.result c.loop-filter-test.true c.filter-item.is (sym c.if-matches.ensures))

pub Filters::any_matches-returns : goal.Filters::any_matches-returns
Filters::any_matches-returns t c =
    let fs = c.as_slice-filter-items.result.now in
    let d = c.args.document.now in
    sym (ap (λ f. matches_any f d) (sym c.as_slice-filter-items.ensures) ∙ any-each fs d ∙ ap (list_any (λ f. matches f d)) (whole-list c.loop-filter.filter-index fs c.loop-filter-test.false) ∙ c.loop-filter.invariant)

pub Conditions::are_met-is_met-requires : goal.Conditions::are_met-is_met-requires
Conditions::are_met-is_met-requires t c =
    let cs = c.as_slice-condition-items.result.now in
    (omega (arith, condition-weighs cs c.loop-condition.condition-index c.condition-item.result c.loop-condition-test.true c.condition-item.is, ap conditions_weight c.as_slice-condition-items.ensures), tt)

pub Conditions::are_met-returns-then-not-is_met : goal.Conditions::are_met-returns-then-not-is_met
Conditions::are_met-returns-then-not-is_met t c =
    let cs = c.as_slice-condition-items.result.now in
    let ws = wholes c.args.place in
    let ps = parts c.args.place in
    sym (ap (λ x. meets_all x ws ps) (sym c.as_slice-condition-items.ensures) ∙ meets-each cs ws ps ∙ all-at (λ x. meets (condition x) ws ps) cs c.loop-condition.condition-index c.condition-item.result c.loop-condition-test.true c.condition-item.is (sym c.if-not-is_met.ensures))

pub Conditions::are_met-returns : goal.Conditions::are_met-returns
Conditions::are_met-returns t c =
    let cs = c.as_slice-condition-items.result.now in
    let ws = wholes c.args.place in
    let ps = parts c.args.place in
    sym (ap (λ x. meets_all x ws ps) (sym c.as_slice-condition-items.ensures) ∙ meets-each cs ws ps ∙ ap (list_all (λ x. meets (condition x) ws ps)) (whole-list c.loop-condition.condition-index cs c.loop-condition-test.false) ∙ c.loop-condition.invariant)

pub Test::any_passes-returns-then-passes : goal.Test::any_passes-returns-then-passes
Test::any_passes-returns-then-passes t c =
    sym (any-here (passes (test c.args.self.now)) tree c.as_slice-element-items.result.now c.args.list.now c.as_slice-element-items.ensures c.loop-element.element-index c.element-item.result c.loop-element-test.true c.element-item.is (sym c.if-passes.ensures))

pub Test::any_passes-returns : goal.Test::any_passes-returns
Test::any_passes-returns t c =
    sym (any-nowhere (passes (test c.args.self.now)) tree c.as_slice-element-items.result.now c.args.list.now c.as_slice-element-items.ensures c.loop-element.element-index c.loop-element-test.false c.loop-element.invariant)

pub Test::passes-returns-in-Doc : goal.Test::passes-returns-in-Doc
Test::passes-returns-in-Doc t c =
    c.matches.ensures ∙ sym (passes-document c.args.self.now c.in-Matches.filter c.args.value.now c.in-Doc.document c.in-Matches.is c.in-Doc.is)

pub Test::passes_in-returns-in-Array : goal.Test::passes_in-returns-in-Array
Test::passes_in-returns-in-Array t c =
    c.any_passes.ensures ∙ sym (ap (list_any (passes (test c.args.self.now))) (array-elements c.args.candidate c.in-Found.found c.in-Found.is c.in-Array.list c.in-Array.is))
