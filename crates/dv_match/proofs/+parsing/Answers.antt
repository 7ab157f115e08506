use Rattle.std.proofs.Common.{◌≡◌, ◌∙◌, ap, sym, arith, slice_get, map, Ok, Err, None, rules}
use Rattle.dv_value.specs.Tree.{Field}
use Rattle.dv_value.specs.View.{tree}
use Rattle.dv_value.specs.Inner.Weight.{field_weighs_less, value_weighs_less}
use Rattle.dv_value.specs.Inner.ListLaws.{none-of}
use Rattle.dv_match.specs.View.{member, condition}
use Rattle.dv_match.proofs.Collected.{member_of_field, condition_of_field, filter_of_value, kept, within-some, filter-fault, filter-end, operators-fault, operators-end, filters-fault, filters-end, gives-fault, filters-some}
use Rattle.dv_match.proofs.+parsing.Goals as goal

pub form::Filter::parse-member_of-requires : goal.form::Filter::parse-member_of-requires
form::Filter::parse-member_of-requires t c =
    let here = c.in-Some.ensures ∙ ap (slice_get c.args.document.now) c.len.ensures in
    (omega (arith, field_weighs_less c.args.document.now c.members.members.len c.in-Some.name.now (tree c.in-Some.value.now) here), tt)

pub form::Filter::parse-returns-in_err-member_of : goal.form::Filter::parse-returns-in_err-member_of
form::Filter::parse-returns-in_err-member_of t c =
    let fs = c.args.document.now in
    let here = c.in-Some.ensures ∙ ap (slice_get fs) c.len.ensures in
    let e = c.in_err-member_of.field-0.0 in
    let field : Field = (c.in-Some.name.now, tree c.in-Some.value.now) in
    let told : c.from_residual.result ≡ Err e = search (rules, c.from_residual.ensures) in
    gives-fault _ c.from_residual.result e (member_of_field field) _ told c.in_err-member_of.ensures (filter-fault fs c.members.members.len (map member c.members.members.items) c.members.invariant field e here)

pub form::Filter::parse-members-smaller : goal.form::Filter::parse-members-smaller
form::Filter::parse-members-smaller t c =
    let here = c.in-Some.ensures ∙ ap (slice_get c.args.document.now) c.len.ensures in
    omega (arith, within-some c.args.document.now c.members.members.len (c.in-Some.name.now, tree c.in-Some.value.now) here, c.in_ok-push.ensures.len)

pub form::Filter::parse-members-preserved : goal.form::Filter::parse-members-preserved
form::Filter::parse-members-preserved t c =
    let fs = c.args.document.now in
    let here = c.in-Some.ensures ∙ ap (slice_get fs) c.len.ensures in
    kept member_of_field member fs c.members.members.len c.members.members.items c.push.new.self.items c.push.new.self.len (c.in-Some.name.now, tree c.in-Some.value.now) c.in_ok-member_of.field-0 c.members.invariant here c.in_ok-member_of.ensures c.in_ok-push.ensures.items c.in_ok-push.ensures.len

pub form::Filter::parse-returns : goal.form::Filter::parse-returns
form::Filter::parse-returns t c =
    let fs = c.args.document.now in
    let end : slice_get fs c.members.members.len ≡ None = ap (slice_get fs) (sym c.len.ensures) ∙ none-of _ c.entry.result _ c.entry.ensures c.in_default.not-Some in
    filter-end fs c.members.members.len (map member c.members.members.items) c.members.invariant end ∙ ap Ok (sym c.of.ensures)

pub parsing::operators_of-condition_of-requires : goal.parsing::operators_of-condition_of-requires
parsing::operators_of-condition_of-requires t c =
    let here = c.in-Some.ensures ∙ ap (slice_get c.args.document.now) c.len.ensures in
    (omega (arith, field_weighs_less c.args.document.now c.conditions.conditions.len c.in-Some.name.now (tree c.in-Some.value.now) here), tt)

pub parsing::operators_of-returns-in_err-condition_of : goal.parsing::operators_of-returns-in_err-condition_of
parsing::operators_of-returns-in_err-condition_of t c =
    let fs = c.args.document.now in
    let here = c.in-Some.ensures ∙ ap (slice_get fs) c.len.ensures in
    let e = c.in_err-condition_of.field-0.0 in
    let field : Field = (c.in-Some.name.now, tree c.in-Some.value.now) in
    let told : c.from_residual.result ≡ Err e = search (rules, c.from_residual.ensures) in
    gives-fault _ c.from_residual.result e (condition_of_field field) _ told c.in_err-condition_of.ensures (operators-fault fs c.conditions.conditions.len (map condition c.conditions.conditions.items) c.conditions.invariant field e here)

pub parsing::operators_of-conditions-smaller : goal.parsing::operators_of-conditions-smaller
parsing::operators_of-conditions-smaller t c =
    let here = c.in-Some.ensures ∙ ap (slice_get c.args.document.now) c.len.ensures in
    omega (arith, within-some c.args.document.now c.conditions.conditions.len (c.in-Some.name.now, tree c.in-Some.value.now) here, c.in_ok-push.ensures.len)

pub parsing::operators_of-conditions-preserved : goal.parsing::operators_of-conditions-preserved
parsing::operators_of-conditions-preserved t c =
    let fs = c.args.document.now in
    let here = c.in-Some.ensures ∙ ap (slice_get fs) c.len.ensures in
    kept condition_of_field condition fs c.conditions.conditions.len c.conditions.conditions.items c.push.new.self.items c.push.new.self.len (c.in-Some.name.now, tree c.in-Some.value.now) c.in_ok-condition_of.field-0 c.conditions.invariant here c.in_ok-condition_of.ensures c.in_ok-push.ensures.items c.in_ok-push.ensures.len

pub parsing::operators_of-returns : goal.parsing::operators_of-returns
parsing::operators_of-returns t c =
    let fs = c.args.document.now in
    let end : slice_get fs c.conditions.conditions.len ≡ None = ap (slice_get fs) (sym c.len.ensures) ∙ none-of _ c.entry.result _ c.entry.ensures c.in_default.not-Some in
    operators-end fs c.conditions.conditions.len (map condition c.conditions.conditions.items) c.conditions.invariant end ∙ ap Ok (sym c.of.ensures)

pub parsing::each_filter-filter_of-requires : goal.parsing::each_filter-filter_of-requires
parsing::each_filter-filter_of-requires t c =
    (omega (arith, value_weighs_less c.as_slice-value-items.result.now c.args.list.now c.filters.value-index c.value-item.result c.as_slice-value-items.ensures c.filters-test.true c.value-item.is), tt)

pub parsing::each_filter-returns : goal.parsing::each_filter-returns
parsing::each_filter-returns t c =
    filters-end c.as_slice-value-items.result.now c.args.list.now c.as_slice-value-items.ensures c.filters.value-index c.filters.filters.items c.filters.invariant c.filters-test.false ∙ ap Ok (sym c.of.ensures)

pub parsing::filters_of-returns : goal.parsing::filters_of-returns
parsing::filters_of-returns t c =
    rw (filters-some c.args.value.now c.as_slice.result.now c.in-Array.list c.in-Array.is c.as_slice.ensures c.if-is_empty.ensures) c.each_filter.ensures

pub parsing::each_filter-returns-in_err-filter_of : goal.parsing::each_filter-returns-in_err-filter_of
parsing::each_filter-returns-in_err-filter_of t c =
    let e = c.in_err-filter_of.field-0.0 in
    let told : c.from_residual.result ≡ Err e = search (rules, c.from_residual.ensures) in
    gives-fault _ c.from_residual.result e (filter_of_value c.value-item.result) _ told c.in_err-filter_of.ensures (filters-fault c.as_slice-value-items.result.now c.args.list.now c.as_slice-value-items.ensures c.filters.value-index c.filters.filters.items c.filters.invariant c.value-item.result e c.filters-test.true c.value-item.is)
