use Rattle.std.proofs.Common.{◌≡◌, ◌∙◌, ◌∷◌, [], List, ap, sym, subst, codes, rules}
use Rattle.dv_value.specs.Names.{value_under}
use Rattle.dv_value.specs.Tree.{Field}
use Rattle.dv_value.specs.View.{tree}
use Rattle.dv_update.specs.Apply.{chosen, is_id, with_id}
use Rattle.dv_update.proofs.Replacing.{IsReplaced, id_replaced, whole_name, fresh_name, all_replaced, denied}
use Rattle.dv_update.proofs.apply.replaced.Goals as goal

pub others-init : goal.others-init
others-init c =
    let id = chosen (value_under (codes "_id") c.args.fields.now) (value_under (codes "_id") c.args.document.now) in
    let all : c.into_iter-name-iterator.result ≡ c.args.fields.now = search rules in
    let Kept : List Field → Type 0 = λ rest. IsReplaced id c.args.fields.now c.in_ok-changed.changed rest in
    subst Kept (sym all) (id_replaced id c.args.fields.now c.in_ok-changed.changed c.iter-name-items.ensures.named (c.in_ok-changed.ensures ∙ ap (λ id. with_id id []) c.chosen_id.ensures))

pub add-requires-clause-whole : goal.add-requires-clause-whole
add-requires-clause-whole c =
    let field : Field = (c.in-Some.name.now, tree c.in-Some.value.now) in
    let step : c.others.name-iterator ≡ field ∷ c.next.new.self = search rules in
    whole_name c.others.invariant field _ step (denied (is_id field) c.if-ne.ensures)

pub add-requires-clause-fresh : goal.add-requires-clause-fresh
add-requires-clause-fresh c =
    let field : Field = (c.in-Some.name.now, tree c.in-Some.value.now) in
    let step : c.others.name-iterator ≡ field ∷ c.next.new.self = search rules in
    fresh_name c.others.invariant field _ step (denied (is_id field) c.if-ne.ensures)

pub returns : goal.returns
returns c =
    let over : c.others.name-iterator ≡ [] = search rules in
    all_replaced c.others.invariant over
