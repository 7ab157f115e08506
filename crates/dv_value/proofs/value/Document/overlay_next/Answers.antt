use Rattle.std.proofs.Common.{◌≡◌, ◌∙◌, ap}
use Rattle.std.proofs.lemmas.Result.{on_ok_weaker}
use Rattle.dv_value.specs.Names.{value_at}
use Rattle.dv_value.specs.Tree.{Field}
use Rattle.dv_value.specs.View.{tree}
use Rattle.dv_value.proofs.Overlaid.{whole_here, fresh_here, next_field, value_at-here}
use Rattle.dv_value.proofs.value.Document.overlay_next.Goals as goal

pub add_shared-requires-clause-whole : goal.add_shared-requires-clause-whole
add_shared-requires-clause-whole c =
    let f : Field = (c.field.result.0.now, tree c.field.result.1.now) in
    whole_here c.args.self.now c.args.place f c.requires.named c.field.ensures

pub add_shared-requires-clause-fresh : goal.add_shared-requires-clause-fresh
add_shared-requires-clause-fresh c =
    let f : Field = (c.field.result.0.now, tree c.field.result.1.now) in
    rw c.requires.before (fresh_here c.args.self.now c.args.place f c.requires.named c.field.ensures)

pub add_own-requires-clause-whole : goal.add_own-requires-clause-whole
add_own-requires-clause-whole c =
    let f : Field = (c.field.result.0.now, tree c.field.result.1.now) in
    whole_here c.args.self.now c.args.place f c.requires.named c.field.ensures

pub add_own-requires-clause-fresh : goal.add_own-requires-clause-fresh
add_own-requires-clause-fresh c =
    let f : Field = (c.field.result.0.now, tree c.field.result.1.now) in
    rw c.requires.before (fresh_here c.args.self.now c.args.place f c.requires.named c.field.ensures)

pub returns-in-Some : goal.returns-in-Some
returns-in-Some c =
    let fields = c.args.self.now in
    let f : Field = (c.field.result.0.now, tree c.field.result.1.now) in
    let same : c.in-Some.text ≡ value_at c.args.place fields = rw c.in-Some.is at c.in_ok-text.ensures in
    on_ok_weaker c.add_shared.result (next_field fields c.args.place f c.args.overlay.now c.add_shared.new.self c.in-Some.text c.field.ensures c.requires.before (same ∙ value_at-here fields c.args.place f c.field.ensures)) c.add_shared.ensures.ok

pub returns-in_ok-try_clone-in-None : goal.returns-in_ok-try_clone-in-None
returns-in_ok-try_clone-in-None c =
    let fields = c.args.self.now in
    let f : Field = (c.field.result.0.now, tree c.field.result.1.now) in
    on_ok_weaker c.add_own.result (next_field fields c.args.place f c.args.overlay.now c.add_own.new.self (tree c.in_ok-try_clone-in-None.field-0) c.field.ensures c.requires.before (ap tree c.in_ok-try_clone-in-None.ensures)) c.add_own.ensures.ok
