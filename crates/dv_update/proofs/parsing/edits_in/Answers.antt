use Rattle.std.proofs.Common.{◌≡◌, ◌∷◌, [], map, Err, rules}
use Rattle.dv_value.specs.Tree.{Field}
use Rattle.dv_value.specs.View.{tree}
use Rattle.dv_update.specs.Inner.Collected.{behind}
use Rattle.dv_update.specs.Parsing.{edits_under, operator_named}
use Rattle.dv_update.specs.View.{edit}
use Rattle.dv_update.proofs.Gathered.{operator-more, operator-fault, operators-end, gives-fault}
use Rattle.dv_update.proofs.parsing.edits_in.Goals as goal

pub returns-in_err-add_edits : goal.returns-in_err-add_edits
returns-in_err-add_edits c =
    let e = c.in_err-add_edits.field-0.0 in
    let field : Field = (c.in-Some.name.now, tree c.in-Some.operand.now) in
    let step : c.operators.name-iterator ≡ field ∷ c.next.new.self = search rules in
    let told : c.from_residual.result ≡ Err e = search (rules, c.from_residual.ensures) in
    gives-fault _ c.from_residual.result e (behind (map edit c.operators.edits.items) (edits_under (operator_named field.0) field.1)) _ told c.in_err-add_edits.ensures (operator-fault c.args.document.now c.operators.name-iterator (map edit c.operators.edits.items) c.operators.invariant field c.next.new.self e step)

pub operators-preserved : goal.operators-preserved
operators-preserved c =
    let field : Field = (c.in-Some.name.now, tree c.in-Some.operand.now) in
    let step : c.operators.name-iterator ≡ field ∷ c.next.new.self = search rules in
    operator-more c.args.document.now c.operators.name-iterator (map edit c.operators.edits.items) c.operators.invariant field c.next.new.self (map edit c.add_edits.new.edits.items) step c.in_ok-add_edits.ensures

pub returns : goal.returns
returns c =
    let none : c.operators.name-iterator ≡ [] = search rules in
    operators-end c.args.document.now c.operators.name-iterator (map edit c.operators.edits.items) c.operators.invariant none
