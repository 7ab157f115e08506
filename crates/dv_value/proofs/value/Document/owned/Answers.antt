use Rattle.std.proofs.Common.{◌∙◌, ap, arith}
use Rattle.dv_value.specs.Tree.{Field}
use Rattle.dv_value.specs.View.{tree}
use Rattle.dv_value.proofs.Overlaid.{whole_here, fresh_here, next_field, take_all}
use Rattle.dv_value.proofs.value.Document.owned.Goals as goal

pub add-requires-clause-whole : goal.add-requires-clause-whole
add-requires-clause-whole c =
    let f : Field = (c.field.result.0.now, tree c.field.result.1.now) in
    whole_here c.args.self.now c.fields.place f c.len-place-end.ensures.named c.field.ensures

pub add-requires-clause-fresh : goal.add-requires-clause-fresh
add-requires-clause-fresh c =
    let f : Field = (c.field.result.0.now, tree c.field.result.1.now) in
    rw c.fields.invariant (fresh_here c.args.self.now c.fields.place f c.len-place-end.ensures.named c.field.ensures)

pub fields-preserved : goal.fields-preserved
fields-preserved c =
    let f : Field = (c.field.result.0.now, tree c.field.result.1.now) in
    next_field c.args.self.now c.fields.place f c.fields.fields c.add.new.self (tree c.in_ok-try_clone.field-0) c.field.ensures c.fields.invariant (ap tree c.in_ok-try_clone.ensures) c.in_ok-add.ensures.ok

pub returns : goal.returns
returns c = c.of.ensures ∙ c.fields.invariant ∙ take_all c.args.self.now c.fields.place (omega (arith, c.len-place-end.ensures.len))
