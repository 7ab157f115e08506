use Rattle.std.proofs.Common.{◌≡◌, ◌∙◌, ◌++◌, ◌∷◌, [], ap, sym, map, arith, Ok, Err, rules}
use Rattle.std.proofs.lemmas.List.{map-append}
use Rattle.dv_value.specs.Tree.{Field, fields_of}
use Rattle.dv_value.specs.View.{tree}
use Rattle.dv_value.specs.Inner.Tree.{fields_weight}
use Rattle.dv_value.specs.Results.{each}
use Rattle.dv_row.specs.ExpressionView.{named}
use Rattle.dv_row.specs.Inner.EachLaws.{after_each, none-yet, each-next, each-refused, each-over, gives-fault}
use Rattle.dv_row.proofs.Members.{computed_field, computed-fault, computed-all}
use Rattle.dv_row.proofs.+expr_parsing.Goals as goal

pub expr::Computed::parse-fields-init : goal.expr::Computed::parse-fields-init
expr::Computed::parse-fields-init t c =
    let all : c.into_iter-name-iterator.result ≡ c.args.document.now = search rules in
    let none : c.new-fields.result.items ≡ [] = search rules in
    record {
      so_far = rw (all, none) (none-yet (each (computed_field c.args.plain) c.args.document.now));
      smaller = omega (arith, ap (λ fs. fields_weight (fields_of fs)) all);
    }

pub expr::Computed::parse-field_of-requires : goal.expr::Computed::parse-field_of-requires
expr::Computed::parse-field_of-requires t c =
    let f : Field = (c.in-Some.name.now, tree c.in-Some.value.now) in
    let step : c.fields.name-iterator ≡ f ∷ c.next.new.self = search rules in
    (omega (arith, c.fields.invariant.smaller, ap (λ fs. fields_weight (fields_of fs)) step), tt)

pub expr::Computed::parse-returns-in_err-field_of : goal.expr::Computed::parse-returns-in_err-field_of
expr::Computed::parse-returns-in_err-field_of t c =
    let e = c.in_err-field_of.field-0.0 in
    let f : Field = (c.in-Some.name.now, tree c.in-Some.value.now) in
    let step : c.fields.name-iterator ≡ f ∷ c.next.new.self = search rules in
    let told : c.from_residual.result ≡ Err e = search (rules, c.from_residual.ensures) in
    gives-fault _ c.from_residual.result e (computed_field c.args.plain f) _ told c.in_err-field_of.ensures
    (λ refused. computed-fault c.args.plain c.args.document.now e (c.fields.invariant.so_far ∙ each-refused (computed_field c.args.plain) (map named c.fields.fields.items) c.fields.name-iterator f c.next.new.self step e refused))

pub expr::Computed::parse-fields-preserved : goal.expr::Computed::parse-fields-preserved
expr::Computed::parse-fields-preserved t c =
    let f : Field = (c.in-Some.name.now, tree c.in-Some.value.now) in
    let old = c.fields.fields.items in
    let x = c.in_ok-field_of.field-0 in
    let parsed = computed_field c.args.plain in
    let step : c.fields.name-iterator ≡ f ∷ c.next.new.self = search rules in
    let pushed : map named old ++ named x ∷ [] ≡ map named c.push.new.self.items = sym (ap (map named) c.in_ok-push.ensures.items ∙ map-append named old (x ∷ [])) in
    record {
      so_far = c.fields.invariant.so_far ∙ each-next parsed (map named old) c.fields.name-iterator f c.next.new.self step (named x) c.in_ok-field_of.ensures ∙ ap (λ ys. after_each ys (each parsed c.next.new.self)) pushed;
      smaller = omega (arith, c.fields.invariant.smaller, ap (λ fs. fields_weight (fields_of fs)) step);
    }

pub expr::Computed::parse-returns : goal.expr::Computed::parse-returns
expr::Computed::parse-returns t c =
    let none : c.fields.name-iterator ≡ [] = search rules in
    let parsed = computed_field c.args.plain in
    computed-all c.args.plain c.args.document.now (map named c.fields.fields.items) (c.fields.invariant.so_far ∙ each-over parsed (map named c.fields.fields.items) c.fields.name-iterator none) ∙ ap Ok (sym c.of.ensures)
