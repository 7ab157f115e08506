use Rattle.std.proofs.Common.{◌≡◌, ◌∙◌, ◌∷◌, [], ap, sym, map, Err, rules}
use Rattle.std.proofs.lemmas.List.{map-append}
use Rattle.dv_value.specs.Tree.{Field}
use Rattle.dv_value.specs.View.{tree}
use Rattle.dv_update.specs.Inner.Collected.{behind}
use Rattle.dv_update.specs.Parsing.{edit_by, edits_by}
use Rattle.dv_update.specs.View.{edit}
use Rattle.dv_update.proofs.Gathered.{edit-more, edit-fault, edits-end, gives-fault}
use Rattle.dv_update.proofs.parsing.add_each.Goals as goal

pub returns-in_err-edit_of : goal.returns-in_err-edit_of
returns-in_err-edit_of c =
    let e = c.in_err-edit_of.field-0.0 in
    let field : Field = (c.in-Some.name.now, tree c.in-Some.operand.now) in
    let step : c.paths.name-iterator ≡ field ∷ c.next.new.self = search rules in
    let told : c.from_residual.result ≡ Err e = search (rules, c.from_residual.ensures) in
    gives-fault _ c.from_residual.result e (edit_by c.args.operator field) _ told c.in_err-edit_of.ensures (edit-fault c.args.operator c.args.paths.now c.paths.name-iterator (map edit c.args.edits.now.items) (map edit c.paths.edits.items) c.paths.invariant field c.next.new.self e step)

pub paths-preserved : goal.paths-preserved
paths-preserved c =
    let field : Field = (c.in-Some.name.now, tree c.in-Some.operand.now) in
    let others = c.next.new.self in
    let step : c.paths.name-iterator ≡ field ∷ others = search rules in
    let more = edit-more c.args.operator c.args.paths.now c.paths.name-iterator (map edit c.args.edits.now.items) (map edit c.paths.edits.items) c.paths.invariant field others (edit c.in_ok-edit_of.field-0) step c.in_ok-edit_of.ensures in
    more ∙ ap (λ ys. behind ys (edits_by c.args.operator others)) (sym (ap (map edit) c.in_ok-push.ensures.items ∙ map-append edit c.paths.edits.items _))

pub returns : goal.returns
returns c =
    let none : c.paths.name-iterator ≡ [] = search rules in
    edits-end c.args.operator c.args.paths.now c.paths.name-iterator (map edit c.args.edits.now.items) (map edit c.paths.edits.items) c.paths.invariant none
